-- The target is one or the other set of names.
use Rattle.std.proofs.Math.Bool.{or-false}
use Rattle.std.proofs.Common.{◌≡◌, ℕ, ◌<◌, ◌≤◌, ◌⊎◌, List, Bool, true, false, refl, sym, ap, ◌∙◌, subst, inl, inr, length, []}
use Rattle.std.specs.Prelude.{◌||◌, ◌&&◌, not, IsTrue, IfOk, Result, Ok, Err}
use Rattle.pr_stamps.proofs.OneOf.{either, or_first, or_second}
use Rattle.pr_names.specs.Name.{IsName}
use Rattle.pr_names.specs.Span.{Span}
use Rattle.pr_sets.specs.Spans.{IsComplement, IsIntersection, IsSet, IsSetOf, IsUnion, has}
use Rattle.pr_sets.proofs.Same.{same_list}
use Rattle.pr_inval.specs.Targets.{IsOutsideOrDark, IsTargetFor}

-- the union has the names of both
fine_is : (omitted dark fine : List Span) → IsUnion omitted dark fine → IsSetOf fine (λ o. IsTrue (has dark o) ⊎ IsTrue (has omitted o))
fine_is omitted dark fine u = record {
  one_list = u.set;
  has_them = λ o name t. u.names o name ∙ elim t [ inl d ↦ or_second (has omitted o) (has dark o) d | inr m ↦ or_first (has omitted o) (has dark o) m ];
  no_others = λ o name h. elim (either (has omitted o) (has dark o) (sym (u.names o name) ∙ h)) [ inl m ↦ inr m | inr d ↦ inl d ];
}

same_test : (p q : Bool) → (p ≡ true → q ≡ true) → (q ≡ true → p ≡ true) → p ≡ q
same_test true q h g = sym (h refl)
same_test false true h g = g refl
same_test false false h g = refl

-- the set of just these names is one list
one_fine : (a b : List Span) (test : List ℕ → Type 0) → IsSetOf a test → IsSetOf b test → a ≡ b
one_fine a b test ha hb =
    same_list a b ha.one_list hb.one_list (λ o name. same_test (has a o) (has b o)
    (λ t. hb.has_them o name (ha.no_others o name t)) (λ t. ha.has_them o name (hb.no_others o name t)))

outside_or : (s d : Bool) → (not s || (d && s)) ≡ true → (s ≡ false) ⊎ (d ≡ true)
outside_or true true h = inr refl
outside_or true false h = absurd (cc)
outside_or false d h = inl refl

or_outside : (s d : Bool) → (s ≡ false) ⊎ (d ≡ true) → (not s || (d && s)) ≡ true
or_outside true d (inl h) = absurd (cc)
or_outside true d (inr h) = rw h refl
or_outside false d h = refl

-- a set is its union with the empty one
nothing_more : (a : List Span) → IsSet a → IsUnion a [] a
nothing_more a h = record { set = h; names = λ o name. sym (or-false (has a o)) }

-- what is outside and what is dark inside, which may be nothing
pub coarse_is : (dark sub outside inside all : List Span) → IsComplement sub outside → IsIntersection dark sub inside → IsUnion outside inside all → IsOutsideOrDark dark sub all
coarse_is dark sub outside inside all c i u =
    let names : (o : List ℕ) → IsName o → has all o ≡ (not (has sub o) || (has dark o && has sub o)) = λ o name.
    u.names o name ∙ ap (λ t. t || has inside o) (c.names o name) ∙ ap (λ t. not (has sub o) || t) (i.names o name)
    in
    record {
      one_list = u.set;
      has_them = λ o name t. names o name ∙ or_outside (has sub o) (has dark o) t;
      no_others = λ o name h. outside_or (has sub o) (has dark o) (sym (names o name) ∙ h);
    }

pub coarse_alone : (dark sub outside inside : List Span) → IsComplement sub outside → IsIntersection dark sub inside → inside ≡ [] → IsOutsideOrDark dark sub outside
coarse_alone dark sub outside inside c i none =
    coarse_is dark sub outside inside outside c i (subst (λ l. IsUnion outside l outside) (sym none) (nothing_more outside c.set))

-- as many intervals as the union has each list of its names has
many_fine : (omitted dark fine : List Span) → IsUnion omitted dark fine → 16 < length fine → (other : List Span) → IsSetOf other (λ o. IsTrue (has dark o) ⊎ IsTrue (has omitted o)) → 16 < length other
many_fine omitted dark fine u lt other o =
    let P : List Span → Type 0 = λ ss. 16 < length ss in
    subst P (one_fine fine other (λ n. IsTrue (has dark n) ⊎ IsTrue (has omitted n)) (fine_is omitted dark fine u) o) lt

pub coarse_target : {E : Type 0} (omitted dark sub fine : List Span) (r : Result (List Span) E) → IsUnion omitted dark fine → 16 < length fine → IfOk r (IsOutsideOrDark dark sub) → IfOk r (IsTargetFor omitted dark sub)
coarse_target omitted dark sub fine (Ok all) u lt h = inr (many_fine omitted dark fine u lt, h)
coarse_target omitted dark sub fine (Err e) u lt h = tt

-- ---- where nothing is dark

nothing_inside : (sub : List Span) → IsIntersection [] sub []
nothing_inside sub = record { set = tt; names = λ o name. refl }

pub omitted_target : {E : Type 0} (omitted sub : List Span) (r : Result (List Span) E) → IsSet omitted → length omitted ≤ 16 → IfOk r (λ set. set ≡ omitted) → IfOk r (IsTargetFor omitted [] sub)
omitted_target omitted sub (Ok set) h le is =
    subst (IsTargetFor omitted [] sub) (sym is) (inl (fine_is omitted [] omitted (nothing_more omitted h), le))
omitted_target omitted sub (Err e) h le is = tt

pub outside_target : {E : Type 0} (omitted sub : List Span) (r : Result (List Span) E) → IsSet omitted → 16 < length omitted → IfOk r (IsComplement sub) → IfOk r (IsTargetFor omitted [] sub)
outside_target {E} omitted sub (Ok set) h lt c =
    coarse_target {E = E} omitted [] sub omitted (Ok set) (nothing_more omitted h) lt (coarse_alone [] sub set [] c (nothing_inside sub) refl)
outside_target omitted sub (Err e) h lt c = tt
