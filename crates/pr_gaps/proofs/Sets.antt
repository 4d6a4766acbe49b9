-- The sets of a node by number, and lists that change place by place.
use Rattle.std.proofs.Common.{◌≡◌, ℕ, ◌<◌, ◌+◌, zero, suc, List, [], ◌∷◌, ◌++◌, length, get_or, Bool, true, false, cond, refl, sym, ◌∙◌, ap, subst, arith, inl, inr}
use Rattle.std.specs.Prelude.{max}
use Rattle.std.proofs.lemmas.List.{get_or_default}
use Rattle.pr_stamps.specs.Point.{Point}
use Rattle.pr_names.specs.Span.{Span}
use Rattle.pr_sets.specs.Spans.{has}
use Rattle.pr_gaps.specs.Rows.{HasPoint}
use Rattle.pr_gaps.specs.Ranges.{Run}
use Rattle.pr_names.specs.Name.{IsName}
use Rattle.pr_sets.specs.Spans.{Meet}
use Rattle.pr_vectors.specs.Vector.{clock_of, Covers, join_of, zero_vector}
use Rattle.pr_vectors.proofs.Vectors.{clock_of-vector_of}
use Rattle.pr_gaps.specs.Gaps.{Told, IsTold, IsCovered, IsTargeted, set_at, set_or}
use Rattle.pr_sets.specs.Sets.{first_with, rest_of}

-- ---- places

pub none_push : (rows : List (List Run)) (row : List Run) → ((i : ℕ) (p : Point) → ¬ HasPoint (get_or rows i []) p) → ((p : Point) → ¬ HasPoint row p) → (i : ℕ) (p : Point) → ¬ HasPoint (get_or (rows ++ row ∷ []) i []) p
none_push [] row none new zero p = new p
none_push [] row none new (suc i) p = none i p
none_push (r ∷ rows) row none new zero p = none 0 p
none_push (r ∷ rows) row none new (suc i) p = none_push rows row (λ k. none (suc k)) new i p

pub none_at_all : (i : ℕ) (p : Point) → ¬ HasPoint (get_or {A = List Run} [] i []) p
none_at_all i p (inl run) = omega (arith, run.0, run.1)
none_at_all i p (inr (s, e, is, from, to)) = cc

-- ---- sets by number

pub nth_set : (sets : List (List Span)) (rest : List Span) (test : List ℕ → Bool) (o : List ℕ) → has rest o ≡ test o → (i : ℕ) → has (get_or sets i rest) o ≡ set_or sets test i o
nth_set [] rest test o same i = same
nth_set (s ∷ sets) rest test o same zero = refl
nth_set (s ∷ sets) rest test o same (suc i) = nth_set sets rest test o same i

pub found_set : (sets : List (List Span)) (test : List ℕ → Bool) (o : List ℕ) (i : ℕ) (d : List Span) → i < length sets → ((k : ℕ) → k < i → has (get_or sets k []) o ≡ false) → has (get_or sets i d) o ≡ true → set_or sets test i ≡ first_with sets test o
found_set [] test o i d lt none here = absurd (omega arith)
found_set (s ∷ sets) test o zero d lt none here = ap (λ b. cond b (has s) (first_with sets test o)) (sym here)
found_set (s ∷ sets) test o (suc i) d lt none here = found_set sets test o i d (omega arith) (λ k less. none (suc k) (omega arith)) here ∙ ap (λ b. cond b (has s) (first_with sets test o)) (sym (none 0 (omega arith)))

pub no_set : (sets : List (List Span)) (test : List ℕ → Bool) (o : List ℕ) → ((k : ℕ) → k < length sets → has (get_or sets k []) o ≡ false) → set_or sets test (length sets) ≡ first_with sets test o
no_set [] test o none = refl
no_set (s ∷ sets) test o none = no_set sets test o (λ k less. none (suc k) (omega arith)) ∙ ap (λ b. cond b (has s) (first_with sets test o)) (sym (none 0 (omega arith)))

meets_nth : (target : List ℕ → Bool) (sets : List (List Span)) (rest : List Span) (i : ℕ) → ((o : List ℕ) → IsName o → has rest o ≡ rest_of sets o) → Meet target (set_at sets i) → Meet target (has (get_or sets i rest))
meets_nth target sets rest i same (o, name, in_target, in_set) = (o, name, in_target, nth_set sets rest (rest_of sets) o (same o name) i ∙ in_set)

nth_meets : (target : List ℕ → Bool) (sets : List (List Span)) (rest : List Span) (i : ℕ) → ((o : List ℕ) → IsName o → has rest o ≡ rest_of sets o) → Meet target (has (get_or sets i rest)) → Meet target (set_at sets i)
nth_meets target sets rest i same (o, name, in_target, in_set) = (o, name, in_target, sym (nth_set sets rest (rest_of sets) o (same o name) i) ∙ in_set)

covers_join : (v w : List ℕ) (p : Point) → p.node < 32 → Covers v p → Covers (join_of v w) p
covers_join v w p lt covers = (covers.0, omega (arith, covers.1, clock_of-vector_of (λ n. max (clock_of v n) (clock_of w n)) p.node lt))

-- the told points after a message, by what its rows became
pub is_covered : (a b : Told) (from to : List ℕ) (target : List Span) → b.node ≡ a.node → b.sets ≡ a.sets → b.vector ≡ join_of a.vector to → ((o : List ℕ) → IsName o → has a.rest o ≡ rest_of a.sets o) → ((i : ℕ) → i < length a.rows → IsTargeted from to target a.sets a.rest i (get_or b.rows i []) (get_or a.rows i [])) → length a.rows ≡ length a.sets + 1 → IsCovered a b from to target
is_covered a b from to target node sets vector rest rows len = record {
  node = node;
  sets = sets;
  vector = vector;
  told = λ i p le lt. (
    (λ h. elim h [
      | inl own ↦ inl (own.0 ∙ node, own.1)
      | inr has ↦ elim ((rows i (omega (arith, len)) p lt).0 has) [
        | inl old ↦ inr (inl (inr old))
        | inr new ↦ inr (inr (new.0, λ m. new.1 (meets_nth _ a.sets a.rest i rest m)))
      ]
    ]),
    (λ h. elim h [
      | inl own ↦ inl (own.0 ∙ sym node, own.1)
      | inr more ↦ elim more [
        | inl told ↦ elim told [
          | inl own ↦ inl (own.0 ∙ sym node, subst (λ v. Covers v p) (sym vector) (covers_join a.vector to p lt own.1))
          | inr old ↦ inr ((rows i (omega (arith, len)) p lt).1 (inl old))
        ]
        | inr new ↦ inr ((rows i (omega (arith, len)) p lt).1 (inr (new.0, λ m. new.1 (nth_meets _ a.sets a.rest i rest m))))
      ]
    ]),
  );
}

none_zero : (p : Point) → p.node < 32 → ¬ Covers zero_vector p
none_zero p lt covers = omega (arith, covers.0, covers.1, clock_of-vector_of (λ _. 0) p.node lt)

-- of a new list no point is told
pub none_new : (t : Told) → t.node < 32 → t.vector ≡ zero_vector → ((i : ℕ) (p : Point) → ¬ HasPoint (get_or t.rows i []) p) → (i : ℕ) (p : Point) → ¬ IsTold t i p
none_new t lt zero_is none i p (inl own) = none_zero p (omega (arith, own.0, lt)) (subst (λ v. Covers v p) zero_is own.1)
none_new t lt zero_is none i p (inr has) = none i p has

-- a row that the index finds is the row at it
pub at_row : (rows : List (List Run)) (i : ℕ) (row : List Run) → row ≡ get_or rows i row → i < length rows → row ≡ get_or rows i []
at_row rows i row is lt = is ∙ get_or_default rows i row [] lt
