-- Where a stream starts at its destination.
use Rattle.std.proofs.Common.{◌≡◌, ℕ, ◌<◌, ◌≤◌, ◌+◌, ◌⊎◌, inl, inr, zero, suc, List, [], ◌∷◌, ◌++◌, map, min, sym, ◌∙◌, ap, subst, arith, length}
use Rattle.std.specs.Prelude.{Bool, All, Contains}
use Rattle.pr_stamps.specs.Point.{Point}
use Rattle.pr_names.specs.Name.{IsName}
use Rattle.pr_names.specs.Span.{Span}
use Rattle.pr_vectors.specs.Vector.{IsVector, clock_of, meet_of}
use Rattle.pr_vectors.proofs.Vectors.{clock_of-vector_of, length-vector_of}
use Rattle.pr_sets.specs.Spans.{has, Meet}
use Rattle.pr_gaps.specs.Gaps.{Told, IsLastPrecise, IsTold as IsToldIn, set_at, set_or}
use Rattle.pr_sets.specs.Sets.{rest_of}
use Rattle.pr_story.specs.declared.entry.Entry.{Entry}
use Rattle.pr_story.specs.History.{current_clock}
use Rattle.pr_story.specs.Told.{IsStart, IsTold}
use Rattle.pr_story.proofs.Sorted.{contains_none, first_or_later, is_first, is_later}
use Rattle.pr_node.specs.Ties.{IsGapsOf}

abbrev pub at : ℕ → ℕ → Point
at c w = record { clock = c; node = w }

-- of one node: each point up to the clock is told for each set with a number below k that shares a name with these, and
-- for one of these sets the next covered one is not
abbrev pub IsStartAt : Told → List Span → ℕ → ℕ → ℕ → Type 0
IsStartAt g names k w most =
    (most ≤ clock_of g.vector w)
    × ((c i : ℕ) → 1 ≤ c → c ≤ most → i < k → Meet (set_at g.sets i) (has names) → IsToldIn g i (at c w))
    × (most < clock_of g.vector w → (i : ℕ) × (i < k) × Meet (set_at g.sets i) (has names) × (IsToldIn g i (at (most + 1) w) → ⊥))

pub record IsStartBelow (g : Told) (names : List Span) (k : ℕ) (v : List ℕ) : Type 0 where
  pub nodes : length v ≡ 32
  pub each : (w : ℕ) → w < 32 → IsStartAt g names k w (clock_of v w)

pub start_first : (g : Told) (names : List Span) (v : List ℕ) → v ≡ g.vector → IsVector v → IsStartBelow g names 0 v
start_first g names v is range = record {
  nodes = range.nodes;
  each = λ w lt.
      let e : clock_of v w ≡ clock_of g.vector w = ap (λ (x : List ℕ). clock_of x w) is in
      ((omega (arith, e)), (λ c i one le below meet. absurd (omega (arith, below))), (λ low. absurd (omega (arith, e, low))));
}

split_last : (i k : ℕ) → i < k + 1 → (i < k) ⊎ (i ≡ k)
split_last i k lt = grind arith

-- one set more, which shares no name
pub start_same : (g : Told) (names : List Span) (k : ℕ) (v : List ℕ) → (Meet (set_at g.sets k) (has names) → ⊥) → IsStartBelow g names k v → IsStartBelow g names (k + 1) v
start_same g names k v none old = record {
  nodes = old.nodes;
  each = λ w lt. (
    (old.each w lt).0,
    (λ c i one le below meet. elim (split_last i k below) [
      | inl less ↦ (old.each w lt).1 c i one le less meet
      | inr same ↦ absurd (none (subst (λ (x : ℕ). Meet (set_at g.sets x) (has names)) same meet))
    ]),
    (λ low. let s = (old.each w lt).2 low in let less : s.0 < k = s.1 in (s.0, omega (arith, less), s.2, s.3)),
  );
}

which : (a b r : ℕ) → r ≡ min a b → ((r ≡ a) × (a ≤ b)) ⊎ ((r ≡ b) × (b ≤ a))
which a b r e = grind arith

-- one set more, which shares a name
pub start_more : (g : Told) (names : List Span) (k : ℕ) (v precise now : List ℕ) → Meet (set_at g.sets k) (has names) → IsLastPrecise g k precise → now ≡ meet_of v precise → IsStartBelow g names k v → IsStartBelow g names (k + 1) now
start_more g names k v precise now meet p is old = subst (λ (x : List ℕ). IsStartBelow g names (k + 1) x) (sym is) (record {
  nodes = length-vector_of (λ n. min (clock_of v n) (clock_of precise n));
  each = λ w lt.
      let r : clock_of (meet_of v precise) w ≡ min (clock_of v w) (clock_of precise w) = clock_of-vector_of (λ n. min (clock_of v n) (clock_of precise n)) w lt in
      elim (which (clock_of v w) (clock_of precise w) (clock_of (meet_of v precise) w) r) [
        | inl x ↦ subst (λ (m : ℕ). IsStartAt g names (k + 1) w m) (sym x.0) (
          (old.each w lt).0,
          (λ c i one le below m. elim (split_last i k below) [
            | inl less ↦ (old.each w lt).1 c i one le less m
            | inr same ↦ subst (λ (y : ℕ). IsToldIn g y (at c w)) (sym same) (let b : clock_of v w ≤ clock_of precise w = x.1 in (p w lt).1 c one (omega (arith, b, le)))
          ]),
          (λ low. let s = (old.each w lt).2 low in let less : s.0 < k = s.1 in (s.0, omega (arith, less), s.2, s.3)),
        )
        | inr x ↦ subst (λ (m : ℕ). IsStartAt g names (k + 1) w m) (sym x.0) (
          (p w lt).0,
          (λ c i one le below m. elim (split_last i k below) [
            | inl less ↦ let b : clock_of precise w ≤ clock_of v w = x.1 in (old.each w lt).1 c i one (omega (arith, b, le)) less m
            | inr same ↦ subst (λ (y : ℕ). IsToldIn g y (at c w)) (sym same) ((p w lt).1 c one le)
          ]),
          (λ low. (k, (omega arith), meet, (p w lt).2 low)),
        )
      ];
})

-- ---- all sets, by their numbers

numbered : (sets : List (List Span)) (rest set : List ℕ → Bool) → Contains (map has sets ++ rest ∷ []) set → (i : ℕ) × (i ≤ length sets) × (set_or sets rest i ≡ set)
numbered [] rest set c = elim (first_or_later rest [] set c) [ inl same ↦ (zero, (omega arith), same) | inr none ↦ absurd (contains_none set none) ]
numbered (s ∷ sets) rest set c = elim (first_or_later (has s) (map has sets ++ rest ∷ []) set c) [
  | inl same ↦ (zero, (omega arith), same)
  | inr later ↦ let k = numbered sets rest set later in let le : k.0 ≤ length sets = k.1 in (suc k.0, omega (arith, le), k.2)
]

among_all : (sets : List (List Span)) (rest : List ℕ → Bool) (i : ℕ) → i ≤ length sets → Contains (map has sets ++ rest ∷ []) (set_or sets rest i)
among_all [] rest i le = is_first rest []
among_all (s ∷ sets) rest zero le = is_first (has s) (map has sets ++ rest ∷ [])
among_all (s ∷ sets) rest (suc i) le = is_later (has s) (map has sets ++ rest ∷ []) (set_or sets rest i) (among_all sets rest i (omega (arith, le)))

pub start_is : (n : ℕ) (j : List Entry) (g : Told) (names : List Span) (k : ℕ) (v : List ℕ) → k ≡ length g.sets + 1 → IsStartBelow g names k v → IsGapsOf n j g → IsStart g.sets n j names v
start_is n j g names k v all so f = (
  so.nodes,
  λ w lt.
      let e : clock_of g.vector w ≡ current_clock j w = ap (λ (x : List ℕ). clock_of x w) f.vector ∙ clock_of-vector_of (current_clock j) w lt in
      let s : IsStartAt g names k w (clock_of v w) = so.each w lt in (
        subst (λ (m : ℕ). clock_of v w ≤ m) e s.0,
        (λ c one le set among meet.
            let i = numbered g.sets (rest_of g.sets) set among in
            let within : i.0 ≤ length g.sets = i.1 in
            subst (λ (x : List ℕ → Bool). IsTold n j x (at c w)) i.2
            ((f.told i.0 (at c w) i.1 lt).0 (s.1 c i.0 one le (omega (arith, within, all)) (subst (λ (x : List ℕ → Bool). Meet x (has names)) (sym i.2) meet)))),
        (λ low told.
            let i = s.2 (subst (λ (m : ℕ). clock_of v w < m) (sym e) low) in
            let less : i.0 < k = i.1 in
            let within : i.0 ≤ length g.sets = omega (arith, less, all) in
            i.3 ((f.told i.0 (at (clock_of v w + 1) w) within lt).1 (told (set_at g.sets i.0) (among_all g.sets (rest_of g.sets) i.0 within) i.2))),
      ),
)

pub meets_same : (a b c : List ℕ → Bool) → ((o : List ℕ) → IsName o → a o ≡ b o) → Meet a c → Meet b c
meets_same a b c same m = (m.0, m.1, sym (same m.0 m.1) ∙ m.2, m.3)

pub all_one : {X : Type 0} (P : X → Type 0) (x : X) → P x → All P (x ∷ [])
all_one P x p zero d lt = p
all_one P x p (suc k) d lt = absurd (omega (arith, lt))
