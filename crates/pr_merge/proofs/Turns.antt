-- One place more is put into the list.
use Rattle.std.proofs.Common.{◌≡◌, ℕ, ◌≤◌, ◌<◌, List, [], ◌∷◌, ◌++◌, length, get_or, replicate, zero, suc, refl, sym, ◌∙◌, ap, subst, inl, inr, arith}
use Rattle.std.specs.Prelude.{◌↔◌, All, AllPairs, Contains, slice_index}
use Rattle.std.specs.List.Sorted.{IsStrictlyIncreasing}
use Rattle.std.proofs.lemmas.List.Elements.{Contains-push, Contains-push_cases, Contains-append_left, Contains-get_or}
use Rattle.std.proofs.lemmas.List.Quantifiers.{all_pairs_push}
use Rattle.pr_story.proofs.Sorted.{sorted_one}
use Rattle.pr_merge.specs.Merged.{part_at, IsPlace, time_at, IsEarlier, IsMerged, OneMerged, NoneTwice}
use Rattle.pr_merge.specs.Heads.{head, IsHead, IsEarliest}
use Rattle.pr_merge.proofs.Times.{taken, same_taken, other_taken, more_taken, less_or, same_or, rises, one_way, up_numbers, at_place}

-- what the list has, where so many places of each part are taken
pub record IsTaken (parts : List (List ℕ)) (next : List ℕ) (places : List (ℕ × ℕ)) : Type 0 where
  pub each : (p : ℕ × ℕ) → Contains places p ↔ (IsPlace parts p × (p.1 < slice_index next p.0))
  pub ordered : AllPairs (IsEarlier parts) places
  pub before : (p q : ℕ × ℕ) → Contains places p → IsPlace parts q → slice_index next q.0 ≤ q.1 → IsEarlier parts p q

module _ (parts : List (List ℕ)) (next : List ℕ) (places : List (ℕ × ℕ)) (n : ℕ) (lt : n < length next) (least : IsEarliest parts next n) (old : IsTaken parts next places) where
  each_more : (p : ℕ × ℕ) → Contains (places ++ head next n ∷ []) p ↔ (IsPlace parts p × (p.1 < slice_index (taken next n) p.0))
  each_more p = (
    (λ has. elim (Contains-push_cases places (head next n) p has) [
      | inl had ↦
          let was : IsPlace parts p × (p.1 < slice_index next p.0) = (old.each p).0 had in
          (was.0, omega (arith, was.1, more_taken next n p.0 lt))
      | inr is ↦ subst (λ (q : ℕ × ℕ). IsPlace parts q × (q.1 < slice_index (taken next n) q.0)) is (least.0, omega (arith, same_taken next n n lt refl))
    ]),
    (λ now. elim (less_or p.1 (slice_index next p.0)) [
      | inl less ↦ Contains-append_left places (head next n ∷ []) p ((old.each p).1 (now.0, less))
      | inr le ↦ elim (same_or p.0 n) [
        | inl part ↦
            let place : p.1 ≡ slice_index next p.0 = omega (arith, now.1, le, same_taken next n p.0 lt part) in
            subst (Contains (places ++ head next n ∷ [])) (at_place p n (slice_index next n) part (place ∙ ap (slice_index next) part)) (Contains-push places (head next n))
        | inr is_not ↦ absurd (omega (arith, now.1, le, other_taken next n p.0 is_not))
      ]
    ]),
  )

  -- the part's head comes before all that is left after it
  head_before : All IsStrictlyIncreasing parts → (q : ℕ × ℕ) → IsPlace parts q → slice_index (taken next n) q.0 ≤ q.1 → IsEarlier parts (head next n) q
  head_before rising q place le = elim (same_or q.0 n) [
    | inl is ↦ inl (subst (λ (m : ℕ). slice_index (part_at parts m) (slice_index next m) < time_at parts q) is
        (rises parts rising q.0 (slice_index next q.0) q.1 (omega (arith, le, same_taken next n q.0 lt is)) place))
    | inr is_not ↦
        let from : slice_index next q.0 ≤ q.1 = omega (arith, le, more_taken next n q.0 lt) in
        elim (least.1 q.0 (omega (arith, place, from))).1 [
          | inl is ↦ absurd (is_not (sym is))
          | inr earlier ↦ up_numbers (time_at parts (head next n)) (time_at parts (head next q.0)) (time_at parts q) n q.0 earlier (at_least rising q.0 (slice_index next q.0) q.1 from place)
        ]
  ]
    where
      at_least : All IsStrictlyIncreasing parts → (m i j : ℕ) → i ≤ j → j < length (part_at parts m) → slice_index (part_at parts m) i ≤ slice_index (part_at parts m) j
      at_least rising m i j le lt = elim (same_or i j) [
        | inl is ↦ omega (arith, ap (slice_index (part_at parts m)) is)
        | inr is_not ↦ omega (arith, rises parts rising m i j (omega (arith, le, is_not)) lt)
      ]

  pub taken_more : All IsStrictlyIncreasing parts → IsTaken parts (taken next n) (places ++ head next n ∷ [])
  taken_more rising = record {
    each = each_more;
    ordered = all_pairs_push (IsEarlier parts) places (head next n) old.ordered (λ k d less. old.before (get_or places k d) (head next n) (Contains-get_or places k d less) least.0 (omega arith));
    before = λ p q has place le. elim (Contains-push_cases places (head next n) p has) [
      | inl had ↦ old.before p q had place (omega (arith, le, more_taken next n q.0 lt))
      | inr is ↦ subst (λ (r : ℕ × ℕ). IsEarlier parts r q) is (head_before rising q place le)
    ];
  }

-- where no part has a head, all is taken
pub all_taken : (parts : List (List ℕ)) (next : List ℕ) (places : List (ℕ × ℕ)) → IsTaken parts next places → ((m : ℕ) → ¬ IsHead parts next m) → IsMerged parts places
all_taken parts next places all none = record {
  each = λ p. (
    (λ has. ((all.each p).0 has).0),
    (λ place. elim (less_or p.1 (slice_index next p.0)) [
      | inl less ↦ (all.each p).1 (place, less)
      | inr le ↦ absurd (none p.0 (omega (arith, place, le)))
    ]),
  );
  ordered = all.ordered;
}

pub zeros : (k m : ℕ) → slice_index (replicate k 0) m ≡ 0
zeros zero m = refl
zeros (suc k) zero = refl
zeros (suc k) (suc m) = zeros k m

-- at first nothing is taken
pub none_taken : (parts : List (List ℕ)) (next : List ℕ) (places : List (ℕ × ℕ)) → ((m : ℕ) → slice_index next m ≡ 0) → places ≡ [] → IsTaken parts next places
none_taken parts next places zeros is = subst (IsTaken parts next) (sym is) (record {
  each = λ p. ((λ (k, less, at). absurd (omega (arith, less))), (λ now. absurd (omega (arith, now.1, zeros p.0))));
  ordered = λ i j d less lt. absurd (omega (arith, lt));
  before = λ p q (k, less, at) place le. absurd (omega (arith, less));
})

-- the parts determine the list
pub one_merged : OneMerged
one_merged parts a b in_a in_b =
    sorted_one (IsEarlier parts) (one_way parts) a b in_a.ordered in_b.ordered (λ p has. (in_b.each p).1 ((in_a.each p).0 has)) (λ p has. (in_a.each p).1 ((in_b.each p).0 has))

pub none_twice : NoneTwice
none_twice parts places merged i j d less lt is =
    one_way parts (get_or places j d) (get_or places j d) earlier earlier
  where
    earlier : IsEarlier parts (get_or places j d) (get_or places j d)
    earlier = subst (λ (p : ℕ × ℕ). IsEarlier parts p (get_or places j d)) is (merged.ordered i j d less lt)
