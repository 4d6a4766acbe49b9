-- Journals of which their node can be made again.
use Rattle.std.specs.Prelude.{ℕ, List, [], ◌∷◌, ◌≡◌, ◌≤◌, ◌<◌, length}
use Rattle.pr_stamps.specs.Point.{IsStamp, IsPrev}
use Rattle.pr_vectors.specs.Vector.{Le}
use Rattle.pr_names.specs.Span.{Span}
use Rattle.pr_inval.specs.declared.msg.Msg.{Msg}
use Rattle.pr_inval.specs.Messages.{IsKind, IsMessage}
use Rattle.pr_inval.specs.Standing.{Standing}
use Rattle.pr_inval.specs.Points.{from_of}
use Rattle.pr_story.specs.declared.entry.Entry.{Entry}
use Rattle.pr_story.specs.declared.event.Event.{Event}
use Rattle.pr_story.specs.declared.event.Event.TheVariants.{Wrote, Accepted, Cut}
use Rattle.pr_story.specs.History.{current_clock, current_vector}
use Rattle.pr_story.specs.Lawful.{IsOwnLawful}

-- after the journal j of node n the event may tell this: a write of its own past all that it was told, with a body of at
-- most 65,536 bytes; a message of the grammar that leaves no gap; or a cut at its vector
abbrev pub MayTell : ℕ → List Entry → Event → Type 0
MayTell n j (Wrote client write body after) =
    (write.stamp.node ≡ n) × IsStamp write.stamp × IsPrev write.prev write.stamp × (length body ≤ 65536)
    × ((w : ℕ) → w < 32 → current_clock j w < write.stamp.clock)
MayTell n j (Accepted msg at) = IsKind msg.kind × Le (from_of msg.kind) (current_vector j)
MayTell n j (Cut at) = at ≡ current_vector j
MayTell n j _ = Unit {0}

-- the entries, newest first, may be those of node n: each may tell what it does after those before it, at a time that is
-- not past the greatest
abbrev pub IsOfNode : ℕ → List Entry → Type 0
IsOfNode n [] = Unit {0}
IsOfNode n (e ∷ j) = MayTell n j e.event × (e.time ≤ 4611686018427387903) × IsOfNode n j

-- ---- what a node did

-- each entry was lawful after those before it, for some streams and clients; each message that was taken is one of the
-- grammar, and no time is past the greatest
abbrev pub WasLawful : List (List Span) → ℕ → List Entry → Type 0
WasLawful sets n [] = Unit {0}
WasLawful sets n (e ∷ j) =
    ((sessions : ℕ → Standing) × (seen : ℕ → List ℕ) × IsOwnLawful sessions seen sets n j e)
    × ((msg : Msg) (at : List ℕ) → e.event ≡ Accepted msg at → IsMessage msg) × (e.time ≤ 4611686018427387903) × WasLawful sets n j

-- so the journal of whatever a node did is one of which it can be made again
abbrev pub LawfulIsToldAgain : Type 0
LawfulIsToldAgain = (sets : List (List Span)) (n : ℕ) (j : List Entry) → WasLawful sets n j → IsOfNode n j
