-- The entries at merged places stand by time, then node.
use Rattle.std.proofs.Common.{◌≡◌, ℕ, ◌<◌, List, [], ◌∷◌, length, get_or, refl, sym, ◌∙◌, ap, subst, inl, inr, arith, zero, suc}
use Rattle.std.specs.Prelude.{◌⊎◌, Option, None, Some, All, AllPairs, Contains, map, slice_get, slice_index}
use Rattle.std.specs.List.{filter_map, cons_option}
use Rattle.std.specs.List.Sorted.{IsStrictlyIncreasing}
use Rattle.std.proofs.lemmas.List.{get_or-map, length-map}
use Rattle.std.proofs.lemmas.List.Elements.{All-contains, All-get_or}
use Rattle.pr_story.specs.Merging.{New}
use Rattle.pr_story.specs.Scripts.{Precedes, ByTime}
use Rattle.pr_story.proofs.InOrder.{pairs_cons, pairs_none}
use Rattle.pr_story.proofs.Sorted.{contains_none, first_or_later, is_first, is_later, pairs_first, pairs_later}
use Rattle.pr_merge.specs.Merged.{part_at, time_at, IsPlace, IsEarlier, IsMerged}
use Rattle.pr_merge.specs.Phases.{times_of, list_of, entries_at, MergedStandByTime}
use Rattle.pr_merge.proofs.Orders.{as_job, Comes, map_of_pairs}
use Rattle.pr_merge.proofs.Times.{rising_part}

-- ---- what a list gives by its places

module _ {A X : Type 0} (at : A → Option X) where
  more : (o : Option X) (x : X) (xs : List X) → Contains xs x → Contains (cons_option o xs) x
  more None x xs has = has
  more (Some y) x xs has = is_later y xs x has

  has_given : (ps : List A) (p : A) (x : X) → Contains ps p → at p ≡ Some x → Contains (filter_map at ps) x
  has_given [] p x has is = absurd (contains_none p has)
  has_given (q ∷ ps) p x has is = elim (first_or_later q ps p has) [
    | inl here ↦ subst (λ (o : Option X). Contains (cons_option o (filter_map at ps)) x) (sym (ap at here ∙ is)) (is_first x (filter_map at ps))
    | inr after ↦ more (at q) x (filter_map at ps) (has_given ps p x after is)
  ]

  -- what some place gives
  abbrev IsGiven : List A → X → Type 0
  IsGiven ps x = (p : A) × Contains ps p × (at p ≡ Some x)

  given_more : (q : A) (ps : List A) (x : X) → IsGiven ps x → IsGiven (q ∷ ps) x
  given_more q ps x given = (given.0, is_later q ps given.0 given.1, given.2)

  given_first : (q : A) (ps : List A) (xs : List X) (x : X) (o : Option X) → at q ≡ o → (Contains xs x → IsGiven ps x) → Contains (cons_option o xs) x → IsGiven (q ∷ ps) x
  given_first q ps xs x None is old has = given_more q ps x (old has)
  given_first q ps xs x (Some y) is old has = elim (first_or_later y xs x has) [
    | inl here ↦ (q, is_first q ps, is ∙ ap (λ (z : X). Some z) here)
    | inr after ↦ given_more q ps x (old after)
  ]

  is_given : (ps : List A) (x : X) → Contains (filter_map at ps) x → IsGiven ps x
  is_given [] x has = absurd (contains_none x has)
  is_given (q ∷ ps) x has = given_first q ps (filter_map at ps) x (at q) refl (is_given ps x) has

  module _ (R : A → A → Type 0) (S : X → X → Type 0) (keeps : (p q : A) (x y : X) → at p ≡ Some x → at q ≡ Some y → R p q → S x y) where
    in_order_first : (q : A) (ps : List A) (o : Option X) → at q ≡ o → AllPairs R (q ∷ ps) → AllPairs S (filter_map at ps) → AllPairs S (cons_option o (filter_map at ps))
    in_order_first q ps None is all old = old
    in_order_first q ps (Some x) is all old = pairs_cons S x (filter_map at ps)
        (λ y has. let given : IsGiven ps y = is_given ps y has in keeps q given.0 x y is given.2 (pairs_first R q ps given.0 all given.1))
        old

    in_order : (ps : List A) → AllPairs R ps → AllPairs S (filter_map at ps)
    in_order [] all = pairs_none S
    in_order (q ∷ ps) all = in_order_first q ps (at q) refl all (in_order ps (pairs_later R q ps all))

-- ---- one node's list

get_is : {X : Type 0} (xs : List X) (k : ℕ) (x : X) → slice_get xs k ≡ Some x → (k < length xs) × (get_or xs k x ≡ x)
get_is [] k x is = cc
get_is (y ∷ xs) zero x is = (omega arith, some_is is)
  where
    some_is : Some y ≡ Some x → y ≡ x
    some_is e = cc
get_is (y ∷ xs) (suc k) x is = let old : (k < length xs) × (get_or xs k x ≡ x) = get_is xs k x is in (omega (arith, old.0), old.1)

is_get : {X : Type 0} (xs : List X) (k : ℕ) (x : X) → k < length xs → get_or xs k x ≡ x → slice_get xs k ≡ Some x
is_get [] k x lt is = absurd (omega (arith, lt))
is_get (y ∷ xs) zero x lt is = ap (λ z. Some z) is
is_get (y ∷ xs) (suc k) x lt is = is_get xs k x (omega (arith, lt)) is

times_at : (nodes : List (List New)) (n : ℕ) → part_at (map times_of nodes) n ≡ times_of (list_of nodes n)
times_at [] n = refl
times_at (xs ∷ nodes) zero = refl
times_at (xs ∷ nodes) (suc n) = times_at nodes n

module _ (nodes : List (List New)) (at_node : (n : ℕ) → All (λ (x : New). x.made.node ≡ n) (list_of nodes n)) where
  abbrev at : ℕ × ℕ → Option New
  at p = slice_get (list_of nodes p.0) p.1

  -- the entry at a place has the time and the node of the place
  time_is : (p : ℕ × ℕ) (x : New) → at p ≡ Some x → time_at (map times_of nodes) p ≡ x.made.entry.time
  time_is p x is =
      let here : (p.1 < length (list_of nodes p.0)) × (get_or (list_of nodes p.0) p.1 x ≡ x) = get_is (list_of nodes p.0) p.1 x is in
      ap (λ (l : List ℕ). slice_index l p.1) (times_at nodes p.0) ∙ get_or-map (λ (y : New). y.made.entry.time) (list_of nodes p.0) p.1 x 0 here.0 ∙ ap (λ (y : New). y.made.entry.time) here.1

  node_is : (p : ℕ × ℕ) (x : New) → at p ≡ Some x → p.0 ≡ x.made.node
  node_is p x is =
      let here : (p.1 < length (list_of nodes p.0)) × (get_or (list_of nodes p.0) p.1 x ≡ x) = get_is (list_of nodes p.0) p.1 x is in
      sym (subst (λ (y : New). y.made.node ≡ p.0) here.1 (All-get_or (λ (y : New). y.made.node ≡ p.0) (list_of nodes p.0) p.1 x here.0 (at_node p.0)))

  comes : (p q : ℕ × ℕ) (x y : New) → at p ≡ Some x → at q ≡ Some y → IsEarlier (map times_of nodes) p q → Comes x y
  comes p q x y p_is q_is earlier =
      numbers (time_at (map times_of nodes) p) (time_at (map times_of nodes) q) x.made.entry.time y.made.entry.time p.0 q.0 x.made.node y.made.node
      (time_is p x p_is) (time_is q y q_is) (node_is p x p_is) (node_is q y q_is) earlier
    where
      numbers : (a b c d k l m n : ℕ) → a ≡ c → b ≡ d → k ≡ m → l ≡ n → (a < b) ⊎ ((a ≡ b) × (k < l)) → (c < d) ⊎ ((c ≡ d) × (m < n))
      numbers a b c d k l m n one two three four earlier = grind arith

  module _ (places : List (ℕ × ℕ)) (merged : IsMerged (map times_of nodes) places) where
    is_own : (n : ℕ) (x : New) → Contains (list_of nodes n) x → Contains (entries_at nodes places) x × (x.made.node ≡ n)
    is_own n x (k, lt, is) = (
      has_given at places (n, k) x ((merged.each (n, k)).1 place) (is_get (list_of nodes n) k x lt is),
      All-contains (λ (y : New). y.made.node ≡ n) (list_of nodes n) x (at_node n) (k, lt, is),
    )
      where
        place : IsPlace (map times_of nodes) (n, k)
        place = subst (λ (l : List ℕ). k < length l) (sym (times_at nodes n)) (omega (arith, lt, length-map (list_of nodes n) (λ (y : New). y.made.entry.time)))

    own_is : (n : ℕ) (x : New) → Contains (entries_at nodes places) x → x.made.node ≡ n → Contains (list_of nodes n) x
    own_is n x has at_n =
        let given : IsGiven at places x = is_given at places x has in
        let here : (given.0.1 < length (list_of nodes given.0.0)) × (get_or (list_of nodes given.0.0) given.0.1 x ≡ x) = get_is (list_of nodes given.0.0) given.0.1 x given.2 in
        subst (λ (m : ℕ). Contains (list_of nodes m) x) (node_is given.0 x given.2 ∙ at_n) (given.0.1, here.0, here.1)

pub merged_stand_by_time : MergedStandByTime
merged_stand_by_time nodes places rising at_node merged = record {
  by_time = map_of_pairs as_job (Precedes ByTime) (entries_at nodes places)
      (in_order (at nodes at_node) (IsEarlier (map times_of nodes)) Comes (comes nodes at_node) places merged.ordered);
  own = λ n. record {
    each = λ x. (is_own nodes at_node places merged n x, λ now. own_is nodes at_node places merged n x now.0 now.1);
    rises = rising_at nodes rising n;
  };
}
  where
    rising_at : (nodes : List (List New)) → All IsStrictlyIncreasing (map times_of nodes) → (n : ℕ) → IsStrictlyIncreasing (times_of (list_of nodes n))
    rising_at nodes rising n = subst IsStrictlyIncreasing (times_at nodes n) (rising_part (map times_of nodes) rising n)
