-- What a settle brings about.
use Rattle.std.specs.Prelude.{ℕ, List, [], ◌∷◌, ◌++◌, ◌≡◌, Bool, IsTrue}
use Rattle.pr_stamps.specs.Point.{Point}
use Rattle.pr_vectors.specs.Vector.{Le}
use Rattle.pr_sets.specs.Spans.{has}
use Rattle.pr_names.specs.Name.{IsName}
use Rattle.pr_inval.specs.Points.{CoversPoint, is_invalidation}
use Rattle.pr_story.specs.declared.event.Event.{Event}
use Rattle.pr_story.specs.declared.event.Event.TheVariants.{Sent}
use Rattle.pr_story.specs.History.{Plan, NodeEntry, journal, current_vector}
use Rattle.pr_story.specs.Told.{IsLit}
use Rattle.pr_story.specs.Turns.{standing, position, IsTurn, IdleTurn}
use Rattle.pr_story.specs.Commands.{IsNoCheckpoint}

-- the stream has nothing to send, and its destination has at least its source's vector
abbrev pub IsSettled : Plan → List NodeEntry → ℕ → Type 0
IsSettled plan h s =
    IsTurn (plan.stream s).source (journal h (plan.stream s).source) (standing plan h s) IdleTurn
    × Le (current_vector (journal h (plan.stream s).source)) (current_vector (journal h (plan.stream s).destination))

-- the destination's vector holds all that the stream has told it; so no message is under way that it needs
abbrev pub IsInTime : Plan → List NodeEntry → ℕ → Type 0
IsInTime plan h s = Le (position h s) (current_vector (journal h (plan.stream s).destination))

-- if the event sends a message of the stream, it is no checkpoint, and where it is an invalidation, each name of the
-- stream is lit for the source at each point that it covers
abbrev pub SendsLit : Plan → List NodeEntry → ℕ → Event → Type 0
SendsLit plan h s (Sent msg) = msg.stream ≡ s → IsNoCheckpoint msg.kind
    × (IsTrue (is_invalidation msg.kind) → (o : List ℕ) (p : Point) → IsName o → IsTrue (has (plan.stream s).names o) → CoversPoint msg.kind p
    → IsLit (plan.stream s).source (journal h (plan.stream s).source) o p)
SendsLit plan h s event = Unit {0}

abbrev pub AllSendLit : Plan → List NodeEntry → ℕ → List NodeEntry → Type 0
AllSendLit plan h s [] = Unit {0}
AllSendLit plan h s (e ∷ later) = SendsLit plan (later ++ h) s e.entry.event × AllSendLit plan h s later

-- the set is not empty
abbrev pub HasName : (List ℕ → Bool) → Type 0
HasName set = (o : List ℕ) × IsName o × IsTrue (set o)

-- the set is empty
abbrev pub IsNameless : (List ℕ → Bool) → Type 0
IsNameless set = (o : List ℕ) → IsName o → ¬ IsTrue (set o)
