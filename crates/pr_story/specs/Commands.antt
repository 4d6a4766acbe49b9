-- What one command gives at its place is one event, so where nothing runs beside, the commands determine the history.
use Rattle.std.specs.Prelude.{ℕ, List, [], ◌∷◌, ◌≡◌, Bool}
use Rattle.pr_inval.specs.declared.kind.Kind.{Kind}
use Rattle.pr_inval.specs.declared.kind.Kind.TheVariants.{Checkpoint}
use Rattle.pr_story.specs.declared.cause.Cause.{Cause}
use Rattle.pr_story.specs.declared.event.Event.{Event}
use Rattle.pr_story.specs.declared.event.Event.TheVariants.{Wrote, Attached, Sent, Idle, Stale, Accepted, Gapped, Missing, Down, Answered, Behind, Moved, Cut, Dropped, Conflicts, State}
use Rattle.pr_story.specs.History.{NodeEntry}

-- what is asked for: a write of a client with its name, body and gone, a read, a move to a node, an attach, a turn or a checkpoint of a stream,
-- the delivery of a number, the end of a flow, and a cut, a drop, the conflicts and the state of a node
pub data Command : Type 0 where
  ToWrite : ℕ → List ℕ → List ℕ → Bool → Command
  ToRead : ℕ → List ℕ → Command
  ToMove : ℕ → ℕ → Command
  ToAttach : ℕ → Command
  ToSend : ℕ → Command
  ToCheckpoint : ℕ → Command
  ToDeliver : ℕ → ℕ → Command
  ToEnd : ℕ → Cause → Command
  ToCut : ℕ → Command
  ToDrop : ℕ → List ℕ → Command
  ToFindConflicts : ℕ → List ℕ → Command
  ToTellState : ℕ → Command

abbrev pub IsNoCheckpoint : Kind → Type 0
IsNoCheckpoint (Checkpoint to target floor rows) = ⊥
IsNoCheckpoint _ = Unit {0}

abbrev pub IsCheckpoint : Kind → Type 0
IsCheckpoint (Checkpoint to target floor rows) = Unit {0}
IsCheckpoint _ = ⊥

-- the event at node n is one that the command may give
abbrev pub Gives : Command → ℕ → Event → Type 0
Gives (ToWrite c o body gone) n (Wrote client write bytes after) = (client ≡ c) × (write.name ≡ o) × (bytes ≡ body) × (write.gone ≡ gone)
Gives (ToWrite c o body gone) n (Behind client needs has) = client ≡ c
Gives (ToRead c o) n (Answered client name answer at) = (client ≡ c) × (name ≡ o)
Gives (ToRead c o) n (Behind client needs has) = client ≡ c
Gives (ToMove c m) n (Moved client) = (client ≡ c) × (n ≡ m)
Gives (ToAttach s) n (Attached stream at) = stream ≡ s
Gives (ToSend s) n (Sent msg) = (msg.stream ≡ s) × IsNoCheckpoint msg.kind
Gives (ToSend s) n (Idle stream) = stream ≡ s
Gives (ToSend s) n (Stale stream cut) = stream ≡ s
Gives (ToCheckpoint s) n (Sent msg) = (msg.stream ≡ s) × IsCheckpoint msg.kind
Gives (ToDeliver s k) n (Accepted msg at) = (msg.stream ≡ s) × (msg.number ≡ k)
Gives (ToDeliver s k) n (Gapped msg has) = (msg.stream ≡ s) × (msg.number ≡ k)
Gives (ToDeliver s k) n (Missing stream number) = (stream ≡ s) × (number ≡ k)
Gives (ToEnd s cause) n (Down stream why) = (stream ≡ s) × (why ≡ cause)
Gives (ToCut m) n (Cut at) = n ≡ m
Gives (ToDrop m o) n (Dropped name) = (n ≡ m) × (name ≡ o)
Gives (ToFindConflicts m o) n (Conflicts name found) = (n ≡ m) × (name ≡ o)
Gives (ToTellState m) n (State at cut floor precise) = n ≡ m
Gives command n _ = ⊥

-- entry by entry, by the same caller, the same command may give both
abbrev pub AreOfSameCommands : List NodeEntry → List NodeEntry → Type 0
AreOfSameCommands [] [] = Unit {0}
AreOfSameCommands (e ∷ h) (f ∷ g) =
    ((command : Command) × Gives command e.node e.entry.event × Gives command f.node f.entry.event × (e.entry.caller ≡ f.entry.caller)) × AreOfSameCommands h g
AreOfSameCommands [] (f ∷ g) = ⊥
AreOfSameCommands (e ∷ h) [] = ⊥
