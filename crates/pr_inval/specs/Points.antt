-- What a message covers. A point is a clock of a node; a write's point is its stamp.
use Rattle.std.specs.Prelude.{ℕ, List, [], Bool, true, false}
use Rattle.pr_names.specs.Span.{Span}
use Rattle.pr_inval.specs.declared.kind.Kind.{Kind}
use Rattle.pr_inval.specs.declared.kind.Kind.TheVariants.{Precise, Imprecise, Checkpoint, Body}
pub use Rattle.pr_stamps.specs.Point.{Point, Before}
pub use Rattle.pr_vectors.specs.Vector.{Between, zero_vector}

-- the start of a message, its end and its target
abbrev pub from_of : Kind → List ℕ
from_of (Precise from to write) = from
from_of (Imprecise from to target) = from
from_of (Checkpoint to target floor rows) = zero_vector
from_of (Body name stamp bytes) = zero_vector

abbrev pub to_of : Kind → List ℕ
to_of (Precise from to write) = to
to_of (Imprecise from to target) = to
to_of (Checkpoint to target floor rows) = to
to_of (Body name stamp bytes) = zero_vector

abbrev pub target_of : Kind → List Span
target_of (Precise from to write) = []
target_of (Imprecise from to target) = target
target_of (Checkpoint to target floor rows) = target
target_of (Body name stamp bytes) = []

-- the message covers the point; a body covers none
abbrev pub CoversPoint : Kind → Point → Type 0
CoversPoint k p = Between (from_of k) (to_of k) p

abbrev pub is_invalidation : Kind → Bool
is_invalidation (Precise from to write) = true
is_invalidation (Imprecise from to target) = true
is_invalidation (Checkpoint to target floor rows) = false
is_invalidation (Body name stamp bytes) = false
