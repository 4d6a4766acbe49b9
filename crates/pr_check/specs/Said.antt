-- What an event was asked for by.
use Rattle.std.specs.Prelude.{ℕ, ◌≡◌, List, [], cond, IsTrue}
use Rattle.pr_inval.specs.declared.kind.Kind.{Kind}
use Rattle.pr_inval.specs.declared.kind.Kind.TheVariants.{Checkpoint}
use Rattle.pr_story.specs.declared.event.Event.{Event}
use Rattle.pr_story.specs.declared.event.Event.TheVariants.{Wrote, Attached, Sent, Idle, Stale, Accepted, Gapped, Missing, Down, Answered, Behind, Moved, Cut, Dropped, Conflicts, State}
use Rattle.pr_story.specs.Commands.{Gives, ToEnd}
use Rattle.pr_text.specs.Plain.{asked_seen}
use Rattle.pr_text.specs.declared.plain.line.Asked.{Asked}
use Rattle.pr_text.specs.declared.plain.line.Asked.TheVariants as asks
use Rattle.pr_check.specs.declared.said.Said.{Said}
use Rattle.pr_check.specs.declared.said.Said.TheVariants as said

-- a checkpoint is asked for as one, and any other message by a turn of its stream
abbrev pub sending_of : ℕ → Kind → Asked
sending_of stream (Checkpoint to target floor rows) = asks.Checkpoint stream
sending_of stream kind = asks.Send stream

-- what the line of an event at node n says that it was asked for by
abbrev pub said_of : ℕ → Event → Said
said_of n (Wrote client write body after) = said.Asked (asks.Write client write.name (cond write.gone [] body) write.gone)
said_of n (Attached stream at) = said.Asked (asks.Attach stream)
said_of n (Sent msg) = said.Asked (sending_of msg.stream msg.kind)
said_of n (Idle stream) = said.Asked (asks.Send stream)
said_of n (Stale stream cut) = said.Asked (asks.Send stream)
said_of n (Accepted msg at) = said.Asked (asks.Deliver msg.stream msg.number)
said_of n (Gapped msg has) = said.Asked (asks.Deliver msg.stream msg.number)
said_of n (Missing stream number) = said.Asked (asks.Deliver stream number)
said_of n (Down stream cause) = said.End stream cause
said_of n (Answered client name reply at) = said.Asked (asks.Read client name)
said_of n (Behind client needs has) = said.Behind client
said_of n (Moved client) = said.Asked (asks.Move client n)
said_of n (Cut at) = said.Asked (asks.Cut n)
said_of n (Dropped name) = said.Asked (asks.Drop n name)
said_of n (Conflicts name found) = said.Asked (asks.Conflicts n name)
said_of n (State at cut floor precise) = said.Asked (asks.State n)

-- ---- commands

-- the event at node n is one that what was said may give
abbrev pub IsGivenBy : Said → ℕ → Event → Type 0
IsGivenBy (said.Asked asked) n event = Gives (asked_seen asked) n event
IsGivenBy (said.End stream cause) n event = Gives (ToEnd stream cause) n event
IsGivenBy (said.Behind client) n event = (needs : List ℕ) × (has : List ℕ) × (event ≡ Behind client needs has)

-- a delete has no body
abbrev pub HasItsBody : Event → Type 0
HasItsBody (Wrote client write body after) = IsTrue write.gone → body ≡ []
HasItsBody event = Unit {0}

-- what an event was asked for by may give it
abbrev pub AreGiven : Type 0
AreGiven = (n : ℕ) (event : Event) → HasItsBody event → IsGivenBy (said_of n event) n event
