-- The told points of a node, by its sets.
use Rattle.std.specs.Prelude.{◌≡◌, ◌⊎◌, ◌↔◌, ◌≤◌, ◌<◌, ℕ, Bool, false, zero, suc, List, [], ◌∷◌, Option, None, Some, length, slice_index_or}
use Rattle.pr_stamps.specs.Point.{Point, Before}
use Rattle.pr_names.specs.Span.{Span}
use Rattle.pr_sets.specs.Sets.{rest_of}
use Rattle.pr_sets.specs.Spans.{has, Meet}
use Rattle.pr_vectors.specs.Vector.{clock_of, Covers, Between, join_of, raised, zero_vector}
use Rattle.pr_vectors.specs.UpTo.{IsLastClock}
use Rattle.pr_gaps.specs.Rows.{HasPoint}
use Rattle.pr_gaps.specs.Ranges.{Run}

-- a node, its declared sets and the rest, its vector, by set and node the told clocks, and whether a call was refused
-- memory
pub record Told : Type 0 where
  pub node : ℕ
  pub sets : List (List Span)
  pub rest : List Span
  pub vector : List ℕ
  pub rows : List (List Run)
  pub spent : Bool

-- ---- the sets

-- the set of this number; the last is the rest
abbrev pub set_or : List (List Span) → (List ℕ → Bool) → ℕ → List ℕ → Bool
set_or [] rest i = rest
set_or (set ∷ sets) rest zero = has set
set_or (set ∷ sets) rest (suc i) = set_or sets rest i

abbrev pub set_at : List (List Span) → ℕ → List ℕ → Bool
set_at sets i = set_or sets (rest_of sets) i

-- ---- the points

-- the point was told for the set of this row: it is the node's own, or a message told it
abbrev pub IsToldIn : ℕ → List ℕ → List Run → Point → Type 0
IsToldIn own v row p = ((p.node ≡ own) × Covers v p) ⊎ HasPoint row p

-- the point was told for the set of this number
abbrev pub IsTold : Told → ℕ → Point → Type 0
IsTold t i p = IsToldIn t.node t.vector (slice_index_or t.rows i []) p

-- of one set, by its number: the points between the vectors are told too, if the target does not meet it
abbrev pub IsTargeted : List ℕ → List ℕ → List Span → List (List Span) → List Span → ℕ → List Run → List Run → Type 0
IsTargeted from to target sets rest i now was =
    (p : Point) → p.node < 32 → HasPoint now p ↔ (HasPoint was p ⊎ (Between from to p × ¬ Meet (has target) (has (slice_index_or sets i rest))))

-- the points of a message are told for each set that its target does not meet, and its end is joined to the vector
pub record IsCovered (a b : Told) (from to : List ℕ) (target : List Span) : Type 0 where
  pub node : b.node ≡ a.node
  pub sets : b.sets ≡ a.sets
  pub vector : b.vector ≡ join_of a.vector to
  pub told : (i : ℕ) (p : Point) → i ≤ length a.sets → p.node < 32 →
      IsTold b i p ↔ (((p.node ≡ a.node) × Covers b.vector p) ⊎ (IsTold a i p ⊎ (Between from to p × ¬ Meet (has target) (set_at a.sets i))))

-- own points up to a clock are told
pub record IsOwnTold (a b : Told) (clock : ℕ) : Type 0 where
  pub node : b.node ≡ a.node
  pub sets : b.sets ≡ a.sets
  pub vector : b.vector ≡ raised a.vector (record { clock = clock; node = a.node })
  pub told : (i : ℕ) (p : Point) → i ≤ length a.sets → p.node < 32 → IsTold b i p ↔ (((p.node ≡ a.node) × Covers b.vector p) ⊎ IsTold a i p)

-- of the points of the nodes below n that the vector covers, the least in the order of stamps that is not T; none where all are
abbrev pub IsLeastOutside : (Point → Type 0) → List ℕ → ℕ → Option Point → Type 0
IsLeastOutside T v n None = (p : Point) → p.node < n → Covers v p → T p
IsLeastOutside T v n (Some p) =
    (p.node < n) × Covers v p × (¬ T p) × ((q : Point) → q.node < n → Covers v q → ¬ T q → ¬ Before q p)

-- the least covered point that is not told; none where the set is precise
abbrev pub IsLeastUntold : Told → ℕ → Option Point → Type 0
IsLeastUntold t i r = IsLeastOutside (IsTold t i) t.vector 32 r

-- per node the greatest covered clock up to which each point is told
abbrev pub IsLastPrecise : Told → ℕ → List ℕ → Type 0
IsLastPrecise t i v = (w : ℕ) → w < 32 → IsLastClock (IsTold t i) t.vector w (clock_of v w)

-- a new list: only the rest and the sets are known
pub record IsNew (t : Told) (node : ℕ) (sets : List (List Span)) : Type 0 where
  pub at : t.node ≡ node
  pub is_sets : t.sets ≡ sets
  pub works : t.spent ≡ false
  pub vector : t.vector ≡ zero_vector
  pub told : (i : ℕ) (p : Point) → i ≤ length sets → ¬ IsTold t i p

-- the least point of one node that the vector covers and that is not T
abbrev pub IsNodeOutside : (Point → Type 0) → List ℕ → ℕ → Option Point → Type 0
IsNodeOutside T v n None = (c : ℕ) → 1 ≤ c → c ≤ clock_of v n → T (record { clock = c; node = n })
IsNodeOutside T v n (Some p) =
    (p.node ≡ n) × (1 ≤ p.clock) × (p.clock ≤ clock_of v n) × (¬ T p)
    × ((c : ℕ) → 1 ≤ c → c < p.clock → T (record { clock = c; node = n }))

-- the lesser of two stamps; the second where there is no first
abbrev pub IsLesser : Option Point → Point → Point → Type 0
IsLesser None b r = r ≡ b
IsLesser (Some a) b r = ((r ≡ b) × Before b a) ⊎ ((r ≡ a) × ¬ Before b a)
