-- What a node was told of: points, for a set of names, and the names that are lit or dark. A set of names is its test.
use Rattle.std.specs.Prelude.{ℕ, List, [], ◌∷◌, ◌≡◌, ◌⊎◌, ◌≤◌, ◌<◌, ◌+◌, ◌++◌, Bool, IsTrue, map, Contains, length, false}
use Rattle.pr_stamps.specs.Point.{Point, Before}
use Rattle.pr_vectors.specs.Vector.{clock_of, Covers, Between}
use Rattle.pr_sets.specs.Sets.{rest_of}
use Rattle.pr_sets.specs.Spans.{has, Meet}
use Rattle.pr_names.specs.Span.{Span}
use Rattle.pr_inval.specs.declared.kind.Kind.{Kind}
use Rattle.pr_inval.specs.Points.{CoversPoint, target_of, is_invalidation}
use Rattle.pr_story.specs.declared.entry.Entry.{Entry}
use Rattle.pr_story.specs.History.{HasAccepted, current_clock, current_vector}

-- ---- a node's sets

-- a node's declared sets in order, and then the rest
abbrev pub all_sets : List (List Span) → List (List ℕ → Bool)
all_sets sets = map has sets ++ rest_of sets ∷ []

-- ---- told points, by the journal j of node n

-- the message tells the point for the set: it covers it, and its target shares no name with the set
abbrev pub TellsPoint : Kind → (List ℕ → Bool) → Point → Type 0
TellsPoint k set p = CoversPoint k p × ¬ Meet (has (target_of k)) set

-- n was told of the point for the set: it is n's own, or one message tells it
abbrev pub IsTold : ℕ → List Entry → (List ℕ → Bool) → Point → Type 0
IsTold n j set p =
    ((p.node ≡ n) × Covers (current_vector j) p) ⊎ ((k : Kind) × HasAccepted j k × TellsPoint k set p)

abbrev pub IsPrecise : ℕ → List Entry → (List ℕ → Bool) → Type 0
IsPrecise n j set = (p : Point) → Covers (current_vector j) p → IsTold n j set p

-- the least covered point that is not told
abbrev pub IsUntold : ℕ → List Entry → (List ℕ → Bool) → Point → Type 0
IsUntold n j set p =
    Covers (current_vector j) p × ¬ IsTold n j set p
    × ((q : Point) → Covers (current_vector j) q → ¬ IsTold n j set q → ¬ Before q p)

-- per node, the greatest covered clock up to which P holds of each point
abbrev pub IsGreatestUpTo : List Entry → (Point → Type 0) → List ℕ → Type 0
IsGreatestUpTo j P v = (length v ≡ 32) × ((w : ℕ) → w < 32 →
    (clock_of v w ≤ current_clock j w)
    × ((c : ℕ) → 1 ≤ c → c ≤ clock_of v w → P (record { clock = c; node = w }))
    × (clock_of v w < current_clock j w → ¬ P (record { clock = clock_of v w + 1; node = w })))

abbrev pub IsLastPrecise : ℕ → List Entry → (List ℕ → Bool) → List ℕ → Type 0
IsLastPrecise n j set v = IsGreatestUpTo j (IsTold n j set) v

-- where a stream of these names starts: up to there, each point is told for each of the node's sets that share a name with them
abbrev pub IsStart : List (List Span) → ℕ → List Entry → List Span → List ℕ → Type 0
IsStart sets n j names v =
    IsGreatestUpTo j (λ p. (set : List ℕ → Bool) → Contains (all_sets sets) set → Meet set (has names) → IsTold n j set p) v

-- ---- lit and dark names

-- by the journal j of node n, the name is lit at the point: it is n's own, or an invalidation covers it whose target lacks the name
abbrev pub IsLit : ℕ → List Entry → List ℕ → Point → Type 0
IsLit n j o p =
    (p.node ≡ n)
    ⊎ ((k : Kind) × HasAccepted j k × IsTrue (is_invalidation k) × CoversPoint k p × (has (target_of k) o ≡ false))

-- the name is dark at some point between the vectors
abbrev pub IsDarkBetween : ℕ → List Entry → List ℕ → List ℕ → List ℕ → Type 0
IsDarkBetween n j v w o = (p : Point) × Between v w p × ¬ IsLit n j o p
