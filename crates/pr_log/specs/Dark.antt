-- The dark names of all nodes' points.
use Rattle.std.specs.Prelude.{◌≡◌, ◌⊎◌, ◌↔◌, ◌&&◌, ◌||◌, ℕ, Bool, IsTrue, false, not, nat_eq, nat_lt, nat_le, List, [], slice_index_or}
use Rattle.pr_stamps.specs.Point.{Point}
use Rattle.pr_names.specs.Name.{IsName}
use Rattle.pr_names.specs.Span.{Span}
use Rattle.pr_sets.specs.Spans.{has}
use Rattle.pr_vectors.specs.Vector.{Between}
use Rattle.pr_log.specs.Sets.{is_lit_at}

-- the dark sets of a node's points
abbrev pub sets_of : List (List (ℕ × List Span)) → ℕ → List (ℕ × List Span)
sets_of dark n = slice_index_or dark n []

-- the name is lit at the point: own points are lit, and of the others those whose dark set lacks it
abbrev pub is_lit_in : ℕ → List (List (ℕ × List Span)) → List ℕ → Point → Bool
is_lit_in own dark o p = nat_eq p.node own || (nat_lt 0 p.clock && is_lit_at (sets_of dark p.node) o p.clock)

-- the names that the target lacks are lit too at the points between the vectors
abbrev pub IsLitToo : ℕ → List (List (ℕ × List Span)) → List (List (ℕ × List Span)) → List ℕ → List ℕ → List Span → Type 0
IsLitToo own a b from to target = (o : List ℕ) (p : Point) → IsName o →
    IsTrue (is_lit_in own b o p) ↔ (IsTrue (is_lit_in own a o p) ⊎ (Between from to p × (has target o ≡ false)))

-- of one node: at the clocks above `lo`, up to `hi`
abbrev pub IsRowRefined : ℕ → ℕ → List Span → List (ℕ × List Span) → List (ℕ × List Span) → Type 0
IsRowRefined lo hi target a b = (o : List ℕ) (c : ℕ) → IsName o →
    is_lit_at b o c ≡ (is_lit_at a o c || (nat_lt lo c && (nat_le c hi && not (has target o))))

-- the name is dark at a point between the vectors
abbrev pub IsDarkBetween : ℕ → List (List (ℕ × List Span)) → List ℕ → List ℕ → List ℕ → Type 0
IsDarkBetween own dark from to o = (p : Point) × Between from to p × (is_lit_in own dark o p ≡ false)
