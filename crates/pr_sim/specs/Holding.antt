-- What an engine keeps beside its nodes, sessions and places, and what one entry more asks of it.
use Rattle.std.specs.Prelude.{ℕ, List, ◌≡◌, ◌≤◌, ◌<◌, ◌↔◌, Bool, false, Some, None, length, get_or, reverse}
use Rattle.pr_stamps.specs.Kept.{Kept}
use Rattle.pr_inval.specs.Standing.{Remembered}
use Rattle.pr_merge.specs.Holding.{HeldState, Represents}
use Rattle.pr_node.specs.Stored.{Stored, means}
use Rattle.pr_story.specs.declared.entry.Entry.{Entry}
use Rattle.pr_story.specs.declared.event.Event.{Event}
use Rattle.pr_story.specs.declared.event.Event.TheVariants.{Wrote, Attached, Answered, Moved, Sent}
use Rattle.pr_story.specs.Counts.{Declared, IsDeclared}
use Rattle.pr_story.specs.History.{NodeEntry, journal}
use Rattle.pr_sim.specs.Running.{AreClients, AreRoutes, AreScans, AreSent, IsRunning}
use Rattle.pr_sim.specs.declared.engine.Engine.{Engine}

-- what an engine holds, as those see it who run jobs
abbrev pub held_of : Engine → HeldState Stored
held_of e = record { nodes = e.nodes.items; sessions = e.sessions.items; clients = length e.homes.items; places = e.history.items }

abbrev pub journal_of : Stored → List Entry
journal_of m = (means m).journal

-- where clients stand and what they have seen, the ends of streams and the places of their messages are those of the
-- history, and the scans are right for their streams
pub record KeepsRecords (d : Declared) (h : List NodeEntry) (e : Engine) : Type 0 where
  pub clients : AreClients d.plan h (length e.nodes.items) e.homes.items e.seen.items
  pub routes : AreRoutes d.plan (length e.nodes.items) e.routes.items
  pub sent : AreSent h e.sent.items
  pub scans : AreScans d.plan h e.scans.items
  pub many : length e.routes.items ≡ length e.sessions.items
  pub many_sent : length e.sent.items ≡ length e.sessions.items
  pub many_scans : length e.scans.items ≡ length e.sessions.items

-- there is room for so many more entries, whichever of them send messages
pub record HasRoomFor (e : Engine) (n : ℕ) : Type 0 where
  pub places : n ≤ e.history.room
  pub sent : (s : ℕ) (d : Kept ℕ) → s < length e.sent.items → n ≤ (get_or e.sent.items s d).room

-- the client of the event is one of so many
abbrev pub NamesClient : ℕ → Event → Type 0
NamesClient n (Wrote client write body after) = client < n
NamesClient n (Answered client name reply at) = client < n
NamesClient n (Moved client) = client < n
NamesClient n _ = Unit {0}

-- the message that the event sends, if it sends one, is of one of so many streams
abbrev pub IsSentOfStream : ℕ → Event → Type 0
IsSentOfStream n (Sent msg) = msg.stream < n
IsSentOfStream n _ = Unit {0}

-- the stream that the event attaches, if it attaches one, is one of so many
abbrev pub IsAttachedOfStream : ℕ → Event → Type 0
IsAttachedOfStream n (Attached stream at) = stream < n
IsAttachedOfStream n _ = Unit {0}

-- the entry, of what is declared, comes next after the history, and stands at this place
pub record IsNext (d : Declared) (h : List NodeEntry) (x : NodeEntry) (e : Engine) (place : ℕ × ℕ) : Type 0 where
  pub node : place.0 ≡ x.node
  pub at : place.1 ≡ length (journal h x.node)
  pub here : (m : Stored) × (get_or e.nodes.items place.0 None ≡ Some m) × (place.1 < length (means m).journal) × ((any : Entry) → get_or (reverse (means m).journal) place.1 any ≡ x.entry)
  pub declared : IsDeclared d.counts x.entry.event
  pub within : x.node < length e.nodes.items
  pub clients : length e.homes.items ≡ d.counts.clients
  pub streams : length e.sessions.items ≡ d.counts.streams

-- ---- running and holding

-- nothing of the engine is out, and all of it is that of the history
abbrev pub RepresentsIn : Engine → Declared → List NodeEntry → Type 0
RepresentsIn e d h = Represents (λ (m : Stored). m.id) (λ (m : Stored). (means m).sets) journal_of (λ d g. KeepsRecords d g e) d h (held_of e)

-- no node was refused memory, and these streams are attached
pub record CanGoOn (attached : ℕ → Bool) (e : Engine) : Type 0 where
  pub few : length e.nodes.items ≤ 32
  pub works : (n : ℕ) (m : Stored) → get_or e.nodes.items n None ≡ Some m → m.spent ≡ false
  pub attached_are : (s : ℕ) (x : Remembered) → get_or e.sessions.items s None ≡ Some x → x.attached ≡ attached s

-- an engine has run what gave a history, and can go on, just where it represents the history and nothing of it is spent
abbrev pub RunningRepresents : Type 0
RunningRepresents = (d : Declared) (attached : ℕ → Bool) (h : List NodeEntry) (e : Engine) → IsRunning d attached h e ↔ (RepresentsIn e d h × CanGoOn attached e)
