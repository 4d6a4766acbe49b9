-- The phase's own pass of a cell, after the jobs' passes were joined into it.
use Rattle.std.proofs.Common.{◌≡◌, ◌<◌, ◌≤◌, ℕ, zero, suc, ◌+◌, List, [], ◌∷◌, ◌++◌, Contains, inl, inr, length, sym, ap, ◌∙◌, subst, append_assoc, arith}
use Rattle.std.specs.List.{range_with_len}
use Rattle.std.proofs.lemmas.Bool.{cases_lt}
use Rattle.std.proofs.lemmas.List.{map-append}
use Rattle.std.proofs.lemmas.List.Elements.{Contains-append_cases}
use Rattle.pr_cell.specs.Passes.{Begins, HoldsAll, held, seen}
use Rattle.pr_story.proofs.Sorted.{contains_none, first_or_later, is_first, is_later}
use Rattle.pr_crew.specs.Making.{NodeCell, NodePass}
use Rattle.pr_crew.specs.Sites.{AreJoined, HasJoined, IsWithin}
use Rattle.pr_crew.specs.Tasks.{numbers_of}
use Rattle.pr_crew.specs.declared.story.Story.{Story}

begins_then : (xs ys zs : List Story) → Begins xs ys → Begins ys zs → Begins xs zs
begins_then xs ys zs a b = (a.0 ++ b.0, b.1 ∙ ap (λ (l : List Story). l ++ b.0) a.1 ∙ append_assoc xs a.0 b.0)

pub number_in : (ps : List NodePass) (q : NodePass) → Contains ps q → Contains (numbers_of ps) q.number
number_in [] q has = absurd (contains_none q has)
number_in (p ∷ ps) q has = elim (first_or_later p ps q has) [
  | inl is ↦ subst (λ (k : ℕ). Contains (p.number ∷ numbers_of ps) k) (ap (λ (r : NodePass). r.number) is) (is_first p.number (numbers_of ps))
  | inr later ↦ is_later p.number (numbers_of ps) q.number (number_in ps q later)
]

pub has_number : (ps : List NodePass) (k : ℕ) → Contains (numbers_of ps) k → (q : NodePass) × Contains ps q × (q.number ≡ k)
has_number [] k has = absurd (contains_none k has)
has_number (p ∷ ps) k has = elim (first_or_later p.number (numbers_of ps) k has) [
  | inl is ↦ (p, is_first p ps, is)
  | inr later ↦ let f = has_number ps k later in (f.0, is_later p ps f.0 f.1, f.2)
]

-- one more was joined
pub one_joined : (c : NodeCell) (many : ℕ) (ps : List NodePass) (p q r : NodePass) → AreJoined c many ps p → held q.seat ≡ q.number ∷ [] → q.issued ≡ 0 → HasJoined c p q r
    → AreJoined c many (ps ++ q ∷ []) r
one_joined c many ps p q r a alone issues j = record {
  root = j.root;
  held_is = j.held_is ∙ ap (λ (l : List ℕ). l ++ held q.seat) a.held_is ∙ ap (λ (l : List ℕ). 0 ∷ (numbers_of ps ++ l)) alone
      ∙ ap (λ (l : List ℕ). 0 ∷ l) (sym (map-append (λ (x : NodePass). x.number) ps (q ∷ [])));
  issued = let e = j.issued in let f = a.issued in omega (arith, e, f, issues);
  none = j.same 0 (subst (λ (l : List ℕ). Contains l 0) (sym a.held_is) (is_first 0 (numbers_of ps))) ∙ a.none;
  within = λ x has. elim (Contains-append_cases ps (q ∷ []) x has) [
    | inl before ↦ let w = a.within x before in record {
      begins = begins_then (seen x.seat) (seen p.seat) (seen r.seat) w.begins j.begins;
      own = j.same x.number (subst (λ (l : List ℕ). Contains l x.number) (sym a.held_is) (is_later 0 (numbers_of ps) x.number (number_in ps x before))) ∙ w.own;
    }
    | inr last ↦ elim (first_or_later q [] x last) [
      | inl is ↦ subst (λ (y : NodePass). IsWithin y r) is (record {
        begins = j.begins_own;
        own = j.same_own q.number (subst (λ (l : List ℕ). Contains l q.number) (sym alone) (is_first q.number []));
      })
      | inr none ↦ absurd (contains_none x none)
    ]
  ];
}

in_range : (a n k : ℕ) → a ≤ k → k < a + n → Contains (range_with_len a n) k
in_range a zero k le lt = absurd (omega (arith, le, lt))
in_range a (suc n) k le lt = elim (cases_lt a k) [
  | inl past ↦ is_later a (range_with_len (a + 1) n) k (in_range (a + 1) n k (omega (arith, past)) (omega (arith, lt)))
  | inr here ↦ let is : a ≡ k = omega (arith, le, here) in subst (λ (j : ℕ). Contains (range_with_len a (suc n)) j) is (is_first a (range_with_len (a + 1) n))
]

-- once all passes were joined, whose numbers go in turn, the pass holds each number that was made
pub holds_all : (c : NodeCell) (ps : List NodePass) (r : NodePass) → AreJoined c (length ps) ps r → numbers_of ps ≡ range_with_len 1 (length ps) → HoldsAll r
holds_all c ps r a turn =
    let all : held r.seat ≡ 0 ∷ range_with_len 1 (length ps) = a.held_is ∙ ap (λ (l : List ℕ). 0 ∷ l) turn in
    let i = a.issued in (
      subst (λ (l : List ℕ). Contains l 0) (sym all) (is_first 0 (range_with_len 1 (length ps))),
      λ k lt. subst (λ (l : List ℕ). Contains l k) (sym all) (elim (cases_lt 0 k) [
        | inl past ↦ is_later 0 (range_with_len 1 (length ps)) k (in_range 1 (length ps) k (omega (arith, past)) (omega (arith, lt, i)))
        | inr here ↦ let is : 0 ≡ k = omega (arith, here) in subst (λ (j : ℕ). Contains (0 ∷ range_with_len 1 (length ps)) j) is (is_first 0 (range_with_len 1 (length ps)))
      ]),
    )
