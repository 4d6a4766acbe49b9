-- Where the entries of a phase stand in the journals of their nodes.
use Rattle.std.proofs.Common.{◌≡◌, ℕ, zero, suc, ◌+◌, ◌<◌, ◌≤◌, List, [], ◌∷◌, ◌++◌, inl, inr, refl, sym, ◌∙◌, ap, subst, cond, filter, map, nat_eq, length, get_or, reverse, arith}
use Rattle.std.specs.Prelude.{All, AllPairs, Bool, Contains, Option, Some, true, false, slice_get}
use Rattle.std.proofs.lemmas.Bool.Decides.{Decides-eqb}
use Rattle.std.proofs.lemmas.List.{append-nil, append_assoc, get_or-map, get_or_past, length-append, length-map, reverse-append}
use Rattle.pr_story.specs.declared.entry.Entry.{Entry}
use Rattle.pr_story.specs.History.{NodeEntry, journal}
use Rattle.pr_story.specs.Places.{places_of}
use Rattle.std.specs.List.{range_with_len}
use Rattle.std.specs.List.Sorted.{IsStrictlyIncreasing}
use Rattle.std.proofs.Math.Seq.{get_or-append_seam}
use Rattle.std.proofs.lemmas.List.Elements.{filter-append}
use Rattle.std.proofs.lemmas.List.FromFn.{get_or-range_with_len, length-range_with_len}
use Rattle.std.proofs.lemmas.List.Kept.{AllPairs-filter}
use Rattle.pr_merge.specs.Merged.{IsEarlier, IsMerged, part_at}
use Rattle.pr_merge.proofs.Times.{less_or, one_way, rises}
use Rattle.pr_story.proofs.InOrder.{is_kept, kept_is}
use Rattle.pr_story.proofs.Sorted.{sorted_one}
use Rattle.pr_crew.specs.Assembly.{made_at, parts_of, with_entry}

-- ---- places of entries behind a history

-- the places of entries that come behind a history, the oldest first
abbrev pub placed : List NodeEntry → List NodeEntry → List (ℕ × ℕ)
placed g [] = []
placed g (e ∷ es) = (e.node, length (journal g e.node)) ∷ placed (e ∷ g) es

onto : (e : NodeEntry) (es g : List NodeEntry) → reverse (e ∷ es) ++ g ≡ reverse es ++ e ∷ g
onto e es g = ap (λ (xs : List NodeEntry). xs ++ g) (reverse-append (e ∷ []) es) ∙ append_assoc (reverse es) (e ∷ []) g

pub places_after : (es g : List NodeEntry) → places_of (reverse es ++ g) ≡ places_of g ++ placed g es
places_after [] g = sym (append-nil (places_of g))
places_after (e ∷ es) g =
    ap (λ (xs : List NodeEntry). places_of xs) (onto e es g) ∙ places_after es (e ∷ g)
    ∙ append_assoc (places_of g) ((e.node, length (journal g e.node)) ∷ []) (placed (e ∷ g) es)

-- ---- in turn

-- each place is that of its node's next entry, where so many of each node's entries have come
abbrev pub ComesInTurn : (ℕ → List Entry) → (ℕ → ℕ) → List (ℕ × ℕ) → Type 0
ComesInTurn nodes come [] = Unit {0}
ComesInTurn nodes come (p ∷ ps) = (p.1 ≡ come p.0) × (p.1 < length (nodes p.0)) × ComesInTurn nodes (λ n. cond (nat_eq p.0 n) (come n + 1) (come n)) ps

some_at : (es : List Entry) (i : ℕ) → i < length es → (e : Entry) × (slice_get es i ≡ Some e)
some_at [] i lt = absurd (omega arith)
some_at (e ∷ es) zero lt = (e, refl)
some_at (e ∷ es) (suc i) lt = some_at es i (omega arith)

longer : (b : Bool) (e : Entry) (j : List Entry) (c k : ℕ) → length j ≡ k + c → length (cond b (e ∷ j) j) ≡ k + cond b (c + 1) c
longer true e j c k is = let l : length (e ∷ j) ≡ length j + 1 = omega arith in omega arith
longer false e j c k is = is

-- the places in the journals are those of the lists, behind what was there
pub placed_in_turn : (nodes : ℕ → List Entry) (base come : ℕ → ℕ) (ps : List (ℕ × ℕ)) (g : List NodeEntry) → ((n : ℕ) → length (journal g n) ≡ base n + come n) → ComesInTurn nodes come ps
    → placed g (made_at nodes ps) ≡ map (λ (p : ℕ × ℕ). (p.0, base p.0 + p.1)) ps
placed_in_turn nodes base come [] g is turn = refl
placed_in_turn nodes base come (p ∷ ps) g is (same, lt, turn) =
    let found = some_at (nodes p.0) p.1 lt in
    let x : NodeEntry = record { node = p.0; entry = found.0 } in
    let rest = placed_in_turn nodes base (λ n. cond (nat_eq p.0 n) (come n + 1) (come n)) ps (x ∷ g) (λ n. longer (nat_eq p.0 n) found.0 (journal g n) (come n) (base n) (is n)) turn in
    ap (λ (o : Option Entry). placed g (with_entry p.0 o (made_at nodes ps))) found.1
    ∙ ap (λ (qs : List (ℕ × ℕ)). (p.0, length (journal g p.0)) ∷ qs) rest
    ∙ ap (λ (n : ℕ). (p.0, n) ∷ map (λ (q : ℕ × ℕ). (q.0, base q.0 + q.1)) ps) (is p.0 ∙ ap (λ (n : ℕ). base p.0 + n) (sym same))

-- ---- merged places come in turn

-- a node's part has its entries' times
pub part_of : (nodes : ℕ → List Entry) (count n : ℕ) → n < count → get_or (parts_of nodes count) n [] ≡ map (λ (e : Entry). e.time) (nodes n)
part_of nodes count n lt =
    let l : length (range_with_len 0 count) ≡ count = length-range_with_len 0 count in
    let e : 0 + n ≡ n = omega arith in
    get_or-map (λ (m : ℕ). map (λ (e : Entry). e.time) (nodes m)) (range_with_len 0 count) n 0 [] (omega arith)
    ∙ ap (λ (m : ℕ). map (λ (e : Entry). e.time) (nodes m)) (get_or-range_with_len 0 count n 0 lt ∙ e)

module _ (nodes : ℕ → List Entry) (count : ℕ) (places : List (ℕ × ℕ)) (none : (n : ℕ) → count ≤ n → nodes n ≡ []) (merged : IsMerged (parts_of nodes count) places)
    (rising : All IsStrictlyIncreasing (parts_of nodes count)) where
  abbrev parts : List (List ℕ)
  parts = parts_of nodes count

  times : List Entry → List ℕ
  times es = map (λ (e : Entry). e.time) es

  part_is : (n : ℕ) → length (part_at parts n) ≡ length (nodes n)
  unfolding times
  part_is n = elim (less_or n count) [
    | inl lt ↦ ap (λ (ts : List ℕ). length ts) (part_of nodes count n lt) ∙ length-map (nodes n) (λ (e : Entry). e.time)
    | inr past ↦ (let l : length (range_with_len 0 count) ≡ count = length-range_with_len 0 count in
        let m : length parts ≡ length (range_with_len 0 count) = length-map (range_with_len 0 count) (λ (m : ℕ). times (nodes m)) in
        ap (λ (ts : List ℕ). length ts) (get_or_past parts n [] (omega arith)) ∙ sym (ap (λ (es : List Entry). length es) (none n past)))
  ]

  module _ (n : ℕ) where
    abbrev of_part : ℕ × ℕ → Bool
    of_part p = nat_eq p.0 n

    abbrev all_of : List (ℕ × ℕ)
    all_of = map (λ (j : ℕ). (n, j)) (range_with_len 0 (length (nodes n)))

    many : length all_of ≡ length (nodes n)
    many = length-map (range_with_len 0 (length (nodes n))) (λ (j : ℕ). (n, j)) ∙ length-range_with_len 0 (length (nodes n))

    at : (j : ℕ) (d : ℕ × ℕ) → j < length (nodes n) → get_or all_of j d ≡ (n, j)
    at j d lt =
        let l : length (range_with_len 0 (length (nodes n))) ≡ length (nodes n) = length-range_with_len 0 (length (nodes n)) in
        let e : 0 + j ≡ j = omega arith in
        get_or-map (λ (i : ℕ). (n, i)) (range_with_len 0 (length (nodes n))) j 0 d (omega arith) ∙ ap (λ (i : ℕ). (n, i)) (get_or-range_with_len 0 (length (nodes n)) j 0 lt ∙ e)

    in_order : AllPairs (IsEarlier parts) all_of
    in_order i j d less lt =
        let m : length all_of ≡ length (nodes n) = many in
        let l : length (part_at parts n) ≡ length (nodes n) = part_is n in
        subst (λ (p : ℕ × ℕ). IsEarlier parts p (get_or all_of j d)) (sym (at i d (omega arith)))
        (subst (λ (p : ℕ × ℕ). IsEarlier parts (n, i) p) (sym (at j d (omega arith))) (inl (rises parts rising n i j less (omega arith))))

    of_part_is : filter of_part places ≡ all_of
    of_part_is = sorted_one (IsEarlier parts) (one_way parts) (filter of_part places) all_of (AllPairs-filter (IsEarlier parts) of_part places merged.ordered) in_order
        (λ p has.
        let kept : Contains places p × (of_part p ≡ true) = kept_is of_part places p has in
        let node : p.0 ≡ n = (Decides-eqb p.0 n).0 kept.1 in
        let lt : p.1 < length (part_at parts p.0) = (merged.each p).0 kept.0 in
        let l : length (part_at parts p.0) ≡ length (nodes p.0) = part_is p.0 in
        let within : p.1 < length (nodes n) = subst (λ (m : ℕ). p.1 < length (nodes m)) node (omega arith) in
        let m : length all_of ≡ length (nodes n) = many in
        (p.1, omega arith, at p.1 p within ∙ ap (λ (m : ℕ). (m, p.1)) (sym node)))
        (λ p (k, lt, is).
        let m : length all_of ≡ length (nodes n) = many in
        let within : k < length (nodes n) = omega arith in
        let same : (n, k) ≡ p = sym (at k p within) ∙ is in
        let l : length (part_at parts n) ≡ length (nodes n) = part_is n in
        subst (λ (q : ℕ × ℕ). Contains (filter of_part places) q) same (is_kept of_part places (n, k) ((merged.each (n, k)).1 (omega arith)) ((Decides-eqb n n).1 refl)))

  -- how many places of each part came before
  abbrev before_of : List (ℕ × ℕ) → ℕ → ℕ
  before_of before n = length (filter (λ (q : ℕ × ℕ). nat_eq q.0 n) before)

  place_is : (before : List (ℕ × ℕ)) (p : ℕ × ℕ) (after : List (ℕ × ℕ)) → places ≡ before ++ p ∷ after → (p.1 ≡ before_of before p.0) × (p.1 < length (nodes p.0))
  place_is before p after is =
      let n : ℕ = p.0 in
      let test : ℕ × ℕ → Bool = λ q. nat_eq q.0 n in
      let c : ℕ = length (filter test before) in
      let own : test p ≡ true = (Decides-eqb n n).1 refl in
      let split : filter test places ≡ filter test before ++ p ∷ filter test after =
      ap (λ (qs : List (ℕ × ℕ)). filter test qs) is ∙ filter-append test before (p ∷ after)
      ∙ ap (λ (b : Bool). filter test before ++ cond b (p ∷ filter test after) (filter test after)) own in
      let all : all_of n ≡ filter test before ++ p ∷ filter test after = sym (of_part_is n) ∙ split in
      let here : get_or (filter test before ++ p ∷ filter test after) c p ≡ p = get_or-append_seam (filter test before) p (filter test after) p in
      let long : length (filter test before ++ p ∷ filter test after) ≡ c + length (p ∷ filter test after) = length-append (filter test before) (p ∷ filter test after) in
      let some : length (p ∷ filter test after) ≡ length (filter test after) + 1 = omega arith in
      let m : length (all_of n) ≡ length (nodes n) = many n in
      let e : length (all_of n) ≡ length (filter test before ++ p ∷ filter test after) = ap (λ (qs : List (ℕ × ℕ)). length qs) all in
      let lt : c < length (nodes n) = omega arith in
      let same : p ≡ (n, c) = sym here ∙ ap (λ (qs : List (ℕ × ℕ)). get_or qs c p) (sym all) ∙ at n c p lt in
      let second : p.1 ≡ c = ap (λ (q : ℕ × ℕ). q.1) same in
      (second, subst (λ (i : ℕ). i < length (nodes n)) (sym second) lt)

  in_turn : (before after : List (ℕ × ℕ)) → places ≡ before ++ after → ComesInTurn nodes (before_of before) after
  in_turn before [] is = tt
  in_turn before (p ∷ after) is =
      let here = place_is before p after is in
      let rest : ComesInTurn nodes (before_of (before ++ p ∷ [])) after = in_turn (before ++ p ∷ []) after (is ∙ sym (append_assoc before (p ∷ []) after)) in
      (here.0, here.1, subst (λ (come : ℕ → ℕ). ComesInTurn nodes come after) (λ i n. counted before p n i) rest)
    where
      one : (b : Bool) (p : ℕ × ℕ) (c : ℕ) → c + length (cond b (p ∷ []) []) ≡ cond b (c + 1) c
      one true p c = refl
      one false p c = omega arith

      counted : (before : List (ℕ × ℕ)) (p : ℕ × ℕ) (n : ℕ) → before_of (before ++ p ∷ []) n ≡ cond (nat_eq p.0 n) (before_of before n + 1) (before_of before n)
      counted before p n =
          ap (λ (qs : List (ℕ × ℕ)). length qs) (filter-append (λ (q : ℕ × ℕ). nat_eq q.0 n) before (p ∷ []))
          ∙ length-append (filter (λ (q : ℕ × ℕ). nat_eq q.0 n) before) (filter (λ (q : ℕ × ℕ). nat_eq q.0 n) (p ∷ []))
          ∙ one (nat_eq p.0 n) p (before_of before n)

  pub turns : ComesInTurn nodes (λ n. 0) places
  turns = in_turn [] places refl
