-- The clocks of a vector, each behind a comma.
use Rattle.std.proofs.Common.{◌≡◌, ℕ, ◌+◌, ◌<◌, ◌≤◌, List, [], ◌∷◌, ◌++◌, cond, Bool, true, false, ◌⊎◌, inl, inr, refl, sym, ap, ◌∙◌, arith, take, drop, length, get_or, append_assoc}
use Rattle.std.specs.Prelude.{nat_eq, decimal, suc}
use Rattle.std.proofs.lemmas.List.{append-nil, drop_more, length-append, length-take, length-drop, take-append-drop, take_more, get_or_default}
use Rattle.pr_vectors.specs.Vector.{clock_of}
use Rattle.pr_text.specs.Texts.{clocks, listed, more, part}
use Rattle.pr_text.specs.Kept.{IsBut}

abbrev pub parts : List (List ℕ) → ℕ → List ℕ → List ℕ
parts ls w v = more 44 (clocks ls w v)

pub parts_one : (l : List ℕ) (ls : List (List ℕ)) (w : ℕ) (v : List ℕ) → parts (l ∷ ls) w v ≡ part l (clock_of v w) ++ parts ls (w + 1) v
parts_one l ls w v = at (nat_eq (clock_of v w) 0) where
  at : (none : Bool) → more 44 (cond none (clocks ls (w + 1) v) ((l ++ 58 ∷ decimal (clock_of v w)) ∷ clocks ls (w + 1) v)) ≡ cond none [] (44 ∷ (l ++ 58 ∷ decimal (clock_of v w))) ++ parts ls (w + 1) v
  at true = refl
  at false = refl

pub parts_append : (xs ys : List (List ℕ)) (w : ℕ) (v : List ℕ) → parts (xs ++ ys) w v ≡ parts xs w v ++ parts ys (w + length xs) v
parts_append [] ys w v = let e : w ≡ w + length {A = List ℕ} [] = omega arith in ap (λ n. parts ys n v) e
parts_append (x ∷ xs) ys w v =
    let e : w + 1 + length xs ≡ w + length (x ∷ xs) = omega arith in
    parts_one x (xs ++ ys) w v
    ∙ ap (λ t. part x (clock_of v w) ++ t) (parts_append xs ys (w + 1) v ∙ ap (λ n. parts xs (w + 1) v ++ parts ys n v) e)
    ∙ sym (append_assoc (part x (clock_of v w)) (parts xs (w + 1) v) (parts ys (w + length (x ∷ xs)) v))
    ∙ ap (λ t. t ++ parts ys (w + length (x ∷ xs)) v) (sym (parts_one x xs w v))

-- the part of one node more stands behind the others
pub parts_more : (ls : List (List ℕ)) (n : ℕ) (d : List ℕ) (v : List ℕ) → n < length ls → parts (take (n + 1) ls) 0 v ≡ parts (take n ls) 0 v ++ part (get_or ls n d) (clock_of v n)
parts_more ls n d v lt =
    let long : 0 + length (take n ls) ≡ n = let e = length-take n ls in omega (arith, e, lt) in
    ap (λ t. parts t 0 v) (take_more ls n d lt)
    ∙ parts_append (take n ls) (get_or ls n d ∷ []) 0 v
    ∙ ap (λ k. parts (take n ls) 0 v ++ parts (get_or ls n d ∷ []) k v) long
    ∙ ap (λ t. parts (take n ls) 0 v ++ t) (parts_one (get_or ls n d) [] n v ∙ append-nil (part (get_or ls n d) (clock_of v n)))

pub start_more : (ls : List (List ℕ)) (n : ℕ) (l : List ℕ) (v : List ℕ) (start len : ℕ) → n < length ls → l ≡ get_or ls n l
    → start ≡ length (parts (take n ls) 0 v) → len ≡ length (part l (clock_of v n)) → start + len ≡ length (parts (take (n + 1) ls) 0 v)
start_more ls n l v start len lt is s e =
    ap (λ k. k + len) s
    ∙ ap (λ k. length (parts (take n ls) 0 v) + k) (e ∙ ap (λ t. length (part t (clock_of v n))) is)
    ∙ sym (length-append (parts (take n ls) 0 v) (part (get_or ls n l) (clock_of v n)))
    ∙ ap length (sym (parts_more ls n l v lt))

-- what stands before a node, its part, and what stands behind it
pub parts_split : (ls : List (List ℕ)) (n : ℕ) (d : List ℕ) (v : List ℕ) → n < length ls
    → parts ls 0 v ≡ parts (take n ls) 0 v ++ (part (get_or ls n d) (clock_of v n) ++ parts (drop (n + 1) ls) (n + 1) v)
parts_split ls n d v lt =
    let long : 0 + length (take n ls) ≡ n = let e = length-take n ls in omega (arith, e, lt) in
    ap (λ t. parts t 0 v) (sym (take-append-drop n ls))
    ∙ parts_append (take n ls) (drop n ls) 0 v
    ∙ ap (λ k. parts (take n ls) 0 v ++ parts (drop n ls) k v) long
    ∙ ap (λ t. parts (take n ls) 0 v ++ t) (ap (λ t. parts t n v) (drop_more ls n d lt) ∙ parts_one (get_or ls n d) (drop (n + 1) ls) n v)

pub parts_same : (ls : List (List ℕ)) (w : ℕ) (a b : List ℕ) → ((m : ℕ) → m < length ls → clock_of a (w + m) ≡ clock_of b (w + m)) → parts ls w a ≡ parts ls w b
parts_same [] w a b same = refl
parts_same (l ∷ ls) w a b same =
    let z : w + 0 ≡ w = omega arith in
    parts_one l ls w a
    ∙ ap (λ c. part l c ++ parts ls (w + 1) a) (ap (clock_of a) (sym z) ∙ same 0 (omega arith) ∙ ap (clock_of b) z)
    ∙ ap (λ t. part l (clock_of b w) ++ t) (parts_same ls (w + 1) a b (λ m lt.
    let e : w + suc m ≡ w + 1 + m = omega arith in
    ap (clock_of a) (sym e) ∙ same (suc m) (omega (arith, lt)) ∙ ap (clock_of b) e))
    ∙ sym (parts_one l ls w b)

take_front : (a b : List ℕ) → take (length a) (a ++ b) ≡ a
take_front [] b = refl
take_front (x ∷ a) b = ap (λ t. x ∷ t) (take_front a b)

drop_front : (a b : List ℕ) → drop (length a) (a ++ b) ≡ b
drop_front [] b = refl
drop_front (x ∷ a) b = drop_front a b

-- a text that is that of a vector, but for the part between the places, is so of another with the same clocks elsewhere
pub spliced : (ls : List (List ℕ)) (n : ℕ) (d : List ℕ) (u v text : List ℕ) (start end : ℕ) → n < length ls
    → text ≡ parts ls 0 u → start ≡ length (parts (take n ls) 0 u) → end ≡ start + length (part (get_or ls n d) (clock_of u n))
    → ((m : ℕ) → m < length ls → (m ≡ n → ⊥) → clock_of u m ≡ clock_of v m)
    → (end ≤ length text) × (parts ls 0 v ≡ take start text ++ (part (get_or ls n d) (clock_of v n) ++ drop end text))
spliced ls n d u v text start end lt is s e same =
    let a = parts (take n ls) 0 u in
    let p = part (get_or ls n d) (clock_of u n) in
    let b = parts (drop (n + 1) ls) (n + 1) u in
    let long : length (take n ls) ≡ n = let k = length-take n ls in omega (arith, k, lt) in
    let left : length (drop (n + 1) ls) + (n + 1) ≡ length ls = let k = length-drop (n + 1) ls in omega (arith, k, lt) in
    let all : text ≡ a ++ (p ++ b) = is ∙ parts_split ls n d u lt in
    let ends : end ≡ length (a ++ p) = e ∙ ap (λ k. k + length p) s ∙ sym (length-append a p) in
    let front : take start text ≡ a = ap (λ k. take k text) s ∙ ap (take (length a)) all ∙ take_front a (p ++ b) in
    let rest : drop end text ≡ b = ap (λ k. drop k text) ends ∙ ap (drop (length (a ++ p))) (all ∙ sym (append_assoc a p b)) ∙ drop_front (a ++ p) b in
    let a_same : a ≡ parts (take n ls) 0 v = parts_same (take n ls) 0 u v (λ m k.
    let o : m ≡ 0 + m = omega arith in
    ap (clock_of u) (sym o) ∙ same m (omega (arith, k, long, lt)) (λ z. omega (arith, k, long, z)) ∙ ap (clock_of v) o) in
    let b_same : b ≡ parts (drop (n + 1) ls) (n + 1) v = parts_same (drop (n + 1) ls) (n + 1) u v (λ m k. same (n + 1 + m) (omega (arith, k, left)) (λ z. omega (arith, z))) in
    let size : length text ≡ length (a ++ p) + length b = ap length (all ∙ sym (append_assoc a p b)) ∙ length-append (a ++ p) b in (
      omega (arith, size, ends),
      parts_split ls n d v lt
          ∙ ap (λ t. t ++ (part (get_or ls n d) (clock_of v n) ++ parts (drop (n + 1) ls) (n + 1) v)) (sym (front ∙ a_same))
          ∙ ap (λ t. take start text ++ (part (get_or ls n d) (clock_of v n) ++ t)) (sym (rest ∙ b_same)),
    )

pub is_but : (ls : List (List ℕ)) (n : ℕ) (l : List ℕ) (u v text : List ℕ) (start len end : ℕ) → n < length ls → l ≡ get_or ls n l
    → (text ≡ [] → ⊥) → (text ≡ []) ⊎ (text ≡ parts ls 0 u) → start ≡ length (parts (take n ls) 0 u) → len ≡ length (part l (clock_of u n))
    → end ≡ start + len → ((m : ℕ) → m < length ls → (m ≡ n → ⊥) → clock_of u m ≡ clock_of v m) → IsBut ls text v n start end
is_but ls n l u v text start len end lt is some kept s k e same =
    let told : text ≡ parts ls 0 u = elim kept [ inl none ↦ absurd (some none) | inr told ↦ told ] in
    let at : (d : List ℕ) → end ≡ start + length (part (get_or ls n d) (clock_of u n)) =
    λ d. e ∙ ap (λ (i : ℕ). start + i) (k ∙ ap (λ t. length (part t (clock_of u n))) (is ∙ get_or_default ls n l d lt)) in
    record {
      known = lt;
      rises = omega (arith, e);
      inside = (spliced ls n l u v text start end lt told s (at l) same).0;
      told = λ d. (spliced ls n d u v text start end lt told s (at d) same).1;
    }

-- without its first comma it is the list
pub first_off : (xs : List (List ℕ)) (text : List ℕ) → (text ≡ [] → ⊥) → text ≡ more 44 xs → drop 1 text ≡ listed xs
first_off [] text some e = absurd (some e)
first_off (x ∷ xs) text some e = ap (drop 1) e
