-- The entries of a run are counted one by one.
use Rattle.std.proofs.Common.{◌≡◌, ℕ, ◌+◌, ◌<◌, ◌≤◌, List, [], ◌∷◌, ◌++◌, refl, sym, ◌∙◌, ap, subst, length, get_or, take, map, reverse, cond, arith}
use Rattle.std.specs.Prelude.{Bool, true, false}
use Rattle.std.proofs.lemmas.List.{get_or_default, length-reverse}
use Rattle.std.specs.List.{range_with_len}
use Rattle.std.proofs.lemmas.List.FromFn.{map-range_with_len_more}
use Rattle.std.proofs.lemmas.List.Sums.{sum_by-cons}
use Rattle.pr_merge.specs.Holding.{HasHistory, HeldState}
use Rattle.pr_story.specs.declared.entry.Entry.{Entry}
use Rattle.pr_story.specs.declared.event.Event.TheVariants.{Moved}
use Rattle.pr_story.specs.History.{NodeEntry}
use Rattle.pr_story.specs.Places.{places_of}
use Rattle.pr_story.proofs.NewestFirst.{reverse-take_more}
use Rattle.pr_story.proofs.Places.{entries_placed}
use Rattle.pr_gen.specs.Summary.{count_of, is_counted}
use Rattle.pr_gen.specs.declared.counted.Counted.{Counted}

-- one entry more is counted, or not
pub count_more : (word : Counted) (h : List NodeEntry) (at : ℕ) (e : NodeEntry) → at < length h
    → count_of (reverse (take (at + 1) (reverse h))) word ≡ count_of (reverse (take at (reverse h))) word + cond (is_counted word (get_or (reverse h) at e).entry.event) 1 0
count_more word h at e lt =
    let es : List NodeEntry = reverse h in
    let x : NodeEntry = get_or es at e in
    let within : at < length es = (let l = length-reverse h in omega arith) in
    let f : NodeEntry → ℕ = λ (y : NodeEntry). cond (is_counted word y.entry.event) 1 0 in
    let more : count_of (x ∷ reverse (take at es)) word ≡ f x + count_of (reverse (take at es)) word = sum_by-cons f x (reverse (take at es)) in
    let all : count_of (reverse (take (at + 1) es)) word ≡ count_of (x ∷ reverse (take at es)) word =
    ap (λ (g : List NodeEntry). count_of g word) (reverse-take_more es at x within (get_or_default es at e x within)) in
    omega (arith, all, more)

-- a place of the history is one of its entries
pub within_history : {N : Type 0} (journal : N → List Entry) (h : List NodeEntry) (s : HeldState N) (ps : List (ℕ × ℕ)) (at : ℕ) → HasHistory journal h s → ps ≡ s.places → at < length ps → at < length h
within_history journal h s ps at a same lt =
    let l : length ps ≡ length (places_of h) = ap (λ (xs : List (ℕ × ℕ)). length xs) (same ∙ a.places) in
    let many : length (places_of h) ≡ length h = (entries_placed h).many in
    omega arith

-- all entries are counted
pub past_history : {N : Type 0} (journal : N → List Entry) (h : List NodeEntry) (s : HeldState N) (ps : List (ℕ × ℕ)) (at : ℕ) → HasHistory journal h s → ps ≡ s.places → length ps ≤ at → length (reverse h) ≤ at
past_history journal h s ps at a same past =
    let l : length ps ≡ length (places_of h) = ap (λ (xs : List (ℕ × ℕ)). length xs) (same ∙ a.places) in
    let many : length (places_of h) ≡ length h = (entries_placed h).many in
    let back : length (reverse h) ≡ length h = length-reverse h in
    omega arith

pub at_most_one : (n m at : ℕ) (b : Bool) → m ≡ n + cond b 1 0 → n ≤ at → m ≤ at + 1
at_most_one n m at true is le = omega arith
at_most_one n m at false is le = omega arith

pub some_entry : NodeEntry
some_entry = record { node = 0; entry = record { time = 0; caller = 0; event = Moved 0 } }

-- ---- nodes

same : (xs : List ℕ) → map (λ (n : ℕ). n) xs ≡ xs
same [] = refl
same (x ∷ xs) = ap (λ (ys : List ℕ). x ∷ ys) (same xs)

-- the numbers below the next one
pub below_more : (n : ℕ) → range_with_len 0 (n + 1) ≡ range_with_len 0 n ++ n ∷ []
below_more n =
    let e : 0 + n ≡ n = omega arith in
    sym (same (range_with_len 0 (n + 1))) ∙ map-range_with_len_more (λ (i : ℕ). i) 0 n n e ∙ ap (λ (xs : List ℕ). xs ++ n ∷ []) (same (range_with_len 0 n))
