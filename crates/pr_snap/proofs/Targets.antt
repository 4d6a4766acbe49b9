-- The part of names that lies in precise sets, and the vector zero.
use Rattle.std.proofs.Common.{◌≡◌, ℕ, ◌<◌, ◌+◌, ◌⊎◌, List, Bool, true, false, None, Some, refl, sym, ◌∙◌, ap, subst, arith, inl, inr, length}
use Rattle.std.specs.Prelude.{Result, Ok, Err, IfOk, ◌↔◌, ◌&&◌, not, IsTrue}
use Rattle.pr_stamps.proofs.OneOf.{either, or_first, or_second}
use Rattle.pr_names.specs.Name.{IsName}
use Rattle.pr_names.specs.Span.{Span}
use Rattle.pr_names.proofs.Places.{trichotomy}
use Rattle.pr_stamps.specs.Point.{Point}
use Rattle.pr_sets.specs.Spans.{IsAllBut, IsComplement, IsIntersection, IsUnion, has}
use Rattle.pr_vectors.specs.Vector.{Le, zero_vector}
use Rattle.pr_vectors.proofs.Vectors.{clock_of-vector_of}
use Rattle.pr_gaps.specs.Gaps.{Told, IsLeastUntold, set_at}
use Rattle.pr_snap.specs.Build.{IsPreciseName}

pub zero_le : (v : List ℕ) → Le zero_vector v
zero_le v n lt = omega (arith, clock_of-vector_of (λ _. 0) n lt)

-- the name is in the precise set of this number
abbrev pub IsPreciseAt : Told → List ℕ → ℕ → Type 0
IsPreciseAt g o i = IsTrue (set_at g.sets i o) × IsLeastUntold g i None

-- the name is in a precise set of a number below this
abbrev pub IsPreciseBelow : Told → List ℕ → ℕ → Type 0
IsPreciseBelow g o n = (i : ℕ) × (i < n) × IsPreciseAt g o i

-- one set more
pub below_more : (P : ℕ → Type 0) (n : ℕ) (A B : Type 0) → A ↔ ((i : ℕ) × (i < n) × P i) → B ↔ (A ⊎ P n) → B ↔ ((i : ℕ) × (i < n + 1) × P i)
below_more P n A B was is = (there, back)
  where
    kept : ((i : ℕ) × (i < n) × P i) → (i : ℕ) × (i < n + 1) × P i
    kept (i, lt, p) = (i, omega (arith, lt), p)

    from_either : A ⊎ P n → (i : ℕ) × (i < n + 1) × P i
    from_either (inl a) = kept (was.0 a)
    from_either (inr p) = (n, omega arith, p)

    there : B → (i : ℕ) × (i < n + 1) × P i
    there b = from_either (is.0 b)

    back : ((i : ℕ) × (i < n + 1) × P i) → B
    back (i, lt, p) = elim (trichotomy i n) [ inl l ↦ is.1 (inl (was.1 (i, l, p))) | inr r ↦ elim r [ inl e ↦ is.1 (inr (subst P e p)) | inr g ↦ absurd (omega (arith, lt, g)) ] ]

pub none_below : (P : ℕ → Type 0) (A : Type 0) → (A → ⊥) → A ↔ ((i : ℕ) × (i < 0) × P i)
none_below P A no_one = (λ a. absurd (no_one a), back)
  where
    back : ((i : ℕ) × (i < 0) × P i) → A
    back (i, lt, p) = absurd (omega (arith, lt))

pub both_of : (p q : Bool) → (p && q) ≡ true → (p ≡ true) × (q ≡ true)
both_of true q h = (refl, h)
both_of false q h = absurd (cc)

pub of_both : (p q : Bool) → p ≡ true → q ≡ true → (p && q) ≡ true
of_both p q h g = rw h g

-- the names that are in some precise set, of all sets
pub is_precise_part : (g : Told) (sub all part : List Span) → ((o : List ℕ) → IsName o → IsTrue (has all o) ↔ IsPreciseBelow g o (length g.sets + 1)) → IsIntersection sub all part → (o : List ℕ) → IsName o → IsTrue (has part o) ↔ (IsTrue (has sub o) × IsPreciseName g o)
is_precise_part g sub all part below both o name = (there, back)
  where
    named : IsPreciseBelow g o (length g.sets + 1) → IsPreciseName g o
    named (i, lt, p) = (i, omega (arith, lt), p.0, p.1)

    numbered : IsPreciseName g o → IsPreciseBelow g o (length g.sets + 1)
    numbered (i, le, s, p) = (i, omega (arith, le), (s, p))

    there : IsTrue (has part o) → IsTrue (has sub o) × IsPreciseName g o
    there h = let b = both_of (has sub o) (has all o) (sym (both.names o name) ∙ h) in (b.0, named ((below o name).0 b.1))

    back : (IsTrue (has sub o) × IsPreciseName g o) → IsTrue (has part o)
    back (s, p) = both.names o name ∙ of_both (has sub o) (has all o) s ((below o name).1 (numbered p))

-- the set of this number is precise, and its names are added
pub with_set : (g : Told) (i : ℕ) (names set with_ : List Span) → IsLeastUntold g i None → ((o : List ℕ) → IsName o → has set o ≡ set_at g.sets i o) → IsUnion names set with_ → (o : List ℕ) → IsName o → IsTrue (has with_ o) ↔ (IsTrue (has names o) ⊎ IsPreciseAt g o i)
with_set g i names set with_ precise at union o name = (there, back)
  where
    there : IsTrue (has with_ o) → IsTrue (has names o) ⊎ IsPreciseAt g o i
    there h = elim (either (has names o) (has set o) (sym (union.names o name) ∙ h)) [ inl a ↦ inl a | inr b ↦ inr (sym (at o name) ∙ b, precise) ]

    back : (IsTrue (has names o) ⊎ IsPreciseAt g o i) → IsTrue (has with_ o)
    back (inl a) = union.names o name ∙ or_first (has names o) (has set o) a
    back (inr b) = union.names o name ∙ or_second (has names o) (has set o) (at o name ∙ b.0)

-- the set of this number is not precise
pub without_set : (g : Told) (i : ℕ) (p : Point) (names : List Span) → IsLeastUntold g i (Some p) → (o : List ℕ) → IsName o → IsTrue (has names o) ↔ (IsTrue (has names o) ⊎ IsPreciseAt g o i)
without_set g i p names (lt, covers, untold, least) o name = (λ h. inl h, back)
  where
    back : (IsTrue (has names o) ⊎ IsPreciseAt g o i) → IsTrue (has names o)
    back (inl a) = a
    back (inr b) = absurd (untold (b.1 p lt covers))

not_false : (b : Bool) → not b ≡ false → b ≡ true
not_false true h = refl
not_false false h = absurd (cc)

pub all_but : (part target : List Span) (test : List ℕ → Type 0) → ((o : List ℕ) → IsName o → IsTrue (has part o) ↔ test o) → IsComplement part target → IsAllBut target test
all_but part target test is rest = record {
  one_list = rest.set;
  lacks_them = λ o name t. rest.names o name ∙ ap not ((is o name).1 t);
  no_others = λ o name h. (is o name).0 (not_false (has part o) (sym (rest.names o name) ∙ h));
}

pub if_precise_part : {E : Type 0} (g : Told) (sub all : List Span) (n : ℕ) (r : Result (List Span) E) → n ≡ length g.sets + 1 → ((o : List ℕ) → IsName o → IsTrue (has all o) ↔ IsPreciseBelow g o n) → IfOk r (IsIntersection sub all) → IfOk r (λ part. (o : List ℕ) → IsName o → IsTrue (has part o) ↔ (IsTrue (has sub o) × IsPreciseName g o))
if_precise_part g sub all n (Ok part) is below both =
    is_precise_part g sub all part (subst (λ k. (o : List ℕ) → IsName o → IsTrue (has all o) ↔ IsPreciseBelow g o k) is below) both
if_precise_part g sub all n (Err e) is below both = tt
