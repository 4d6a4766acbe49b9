-- Up to where each of a node's sets is precise.
use Rattle.std.proofs.Common.{◌≡◌, ℕ, ◌<◌, ◌≤◌, ◌+◌, ◌⊎◌, inl, inr, List, [], ◌∷◌, ◌++◌, zero, suc, refl, sym, ◌∙◌, ap, subst, arith, length, map}
use Rattle.std.specs.Prelude.{Bool, All, not, slice_index_or}
use Rattle.std.specs.List.{AllZip, list_any}
use Rattle.pr_names.specs.Span.{Span}
use Rattle.pr_sets.specs.Spans.{has}
use Rattle.pr_vectors.specs.Vector.{clock_of, IsVector}
use Rattle.pr_vectors.proofs.Vectors.{clock_of-vector_of}
use Rattle.pr_gaps.specs.Gaps.{Told, IsLastPrecise as IsLastIn, set_at, set_or}
use Rattle.pr_story.specs.declared.entry.Entry.{Entry}
use Rattle.pr_story.specs.History.{current_clock}
use Rattle.pr_story.specs.Told.{IsLastPrecise, all_sets}
use Rattle.pr_node.specs.Answering.{ArePrecise}
use Rattle.pr_node.specs.Ties.{IsGapsOf}

-- ---- the loop over the sets

abbrev pub AreSoFar : Told → ℕ → List (List ℕ) → Type 0
AreSoFar g index vectors = (length vectors ≡ index) × ((i : ℕ) → i < index → IsLastIn g i (slice_index_or vectors i [])) × All IsVector vectors

below : (i k : ℕ) → i < k + 1 → (i < k) ⊎ (i ≡ k)
below i k lt = grind arith

pub one_more : (g : Told) (index : ℕ) (was now : List (List ℕ)) (v : List ℕ) → now ≡ was ++ v ∷ [] → IsLastIn g index v → IsVector v → AreSoFar g index was → AreSoFar g (index + 1) now
one_more g index was now v is last range old = subst (λ (vs : List (List ℕ)). AreSoFar g (index + 1) vs) (sym is) (
  longer was v ∙ ap (λ (k : ℕ). k + 1) old.0,
  (λ i lt. elim (below i index lt) [
    | inl less ↦ subst (λ (x : List ℕ). IsLastIn g i x) (sym (at_left was v i (let e : length was ≡ index = old.0 in omega (arith, e, less)))) (old.1 i less)
    | inr same ↦ subst (λ (k : ℕ). IsLastIn g k (slice_index_or (was ++ v ∷ []) k [])) (sym same) (subst (λ (x : List ℕ). IsLastIn g index x) (sym (at_end was v index old.0)) last)
  ]),
  all_more was v old.2 range,
)
  where
    longer : (xs : List (List ℕ)) (v : List ℕ) → length (xs ++ v ∷ []) ≡ length xs + 1
    longer [] v = refl
    longer (x ∷ xs) v = let e : length (xs ++ v ∷ []) ≡ length xs + 1 = longer xs v in omega (arith, e)

    at_left : (xs : List (List ℕ)) (v : List ℕ) (i : ℕ) → i < length xs → slice_index_or (xs ++ v ∷ []) i [] ≡ slice_index_or xs i []
    at_left [] v i lt = absurd (omega arith)
    at_left (x ∷ xs) v zero lt = refl
    at_left (x ∷ xs) v (suc i) lt = at_left xs v i (omega arith)

    at_end : (xs : List (List ℕ)) (v : List ℕ) (i : ℕ) → length xs ≡ i → slice_index_or (xs ++ v ∷ []) i [] ≡ v
    at_end [] v zero e = refl
    at_end [] v (suc i) e = absurd (omega arith)
    at_end (x ∷ xs) v zero e = absurd (omega arith)
    at_end (x ∷ xs) v (suc i) e = at_end xs v i (omega arith)

    all_more : (xs : List (List ℕ)) (v : List ℕ) → All IsVector xs → IsVector v → All IsVector (xs ++ v ∷ [])
    all_more [] v all this zero d lt = this
    all_more [] v all this (suc k) d lt = absurd (omega arith)
    all_more (x ∷ xs) v all this zero d lt = all zero d (omega arith)
    all_more (x ∷ xs) v all this (suc k) d lt = all_more xs v (λ m d lt. all (suc m) d (omega arith)) this k d (omega arith)

pub all_found : (g : Told) (index sets : ℕ) (vectors : List (List ℕ)) → sets ≡ length g.sets + 1 → sets ≤ index → index ≤ sets → AreSoFar g index vectors → ArePrecise g vectors
all_found g index sets vectors count le ge old =
    (let e : length vectors ≡ index = old.0 in omega (arith, e, count, le, ge), λ i lt. old.1 i (omega (arith, lt, count, le)))

-- ---- of a history

pub last_is : (n : ℕ) (j : List Entry) (g : Told) (i : ℕ) (v : List ℕ) → IsGapsOf n j g → i ≤ length g.sets → length v ≡ 32 → IsLastIn g i v → IsLastPrecise n j (set_at g.sets i) v
last_is n j g i v f within long last = (
  long,
  λ w lt.
      let e : clock_of g.vector w ≡ current_clock j w = ap (λ (x : List ℕ). clock_of x w) f.vector ∙ clock_of-vector_of (current_clock j) w lt in
      let up = last w lt in (
        subst (λ (c : ℕ). clock_of v w ≤ c) e up.0,
        (λ c one le. (f.told i (record { clock = c; node = w }) within lt).0 (up.1 c one le)),
        (λ less t. up.2 (subst (λ (c : ℕ). clock_of v w < c) (sym e) less) ((f.told i (record { clock = clock_of v w + 1; node = w }) within lt).1 t)),
      ),
)

zipped : (R : (List ℕ → Bool) → List ℕ → Type 0) (sets : List (List Span)) (rest : List ℕ → Bool) (vs : List (List ℕ)) → length vs ≡ length sets + 1
    → ((i : ℕ) → i ≤ length sets → R (set_or sets rest i) (slice_index_or vs i [])) → AllZip R (map has sets ++ rest ∷ []) vs
zipped R [] rest [] long each = absurd (omega arith)
zipped R [] rest (v ∷ []) long each = (each 0 (omega arith), tt)
zipped R [] rest (v ∷ w ∷ vs) long each = absurd (omega arith)
zipped R (set ∷ sets) rest [] long each = absurd (omega arith)
zipped R (set ∷ sets) rest (v ∷ vs) long each = (each 0 (omega arith), zipped R sets rest vs (omega arith) (λ i le. each (suc i) (omega arith)))

pub states_are : (n : ℕ) (j : List Entry) (g : Told) (vectors : List (List ℕ)) → IsGapsOf n j g → ArePrecise g vectors → All IsVector vectors → AllZip (λ set v. IsLastPrecise n j set v) (all_sets g.sets) vectors
states_are n j g vectors f are ranges =
    zipped (λ set v. IsLastPrecise n j set v) g.sets (λ o. not (list_any (λ set. has set o) g.sets)) vectors are.0
    (λ i le. last_is n j g i (slice_index_or vectors i []) f le (ranges i [] (let e : length vectors ≡ length g.sets + 1 = are.0 in omega (arith, e, le))).nodes (are.1 i le))
