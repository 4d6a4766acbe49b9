-- What an engine makes of what a line says.
use Rattle.std.specs.Prelude.{length, ℕ, ◌≡◌, ◌≢◌, ◌<◌, List, [], ◌∷◌, Bool, true, false, IsTrue, Result, Ok, Err}
use Rattle.pr_story.specs.declared.event.Event.{Event}
use Rattle.pr_story.specs.Commands.{Command, Gives}
use Rattle.pr_story.specs.Counts.{Counts, Declared}
use Rattle.pr_story.specs.History.{NodeEntry}
use Rattle.pr_story.specs.Lawful.{IsLawful}
use Rattle.pr_story.specs.Scripts.{Single, attached_after}
use Rattle.pr_story.specs.Turns.{IsAttached}
use Rattle.pr_sim.specs.Making.{declared_of}
use Rattle.pr_sim.specs.Running.{IsRunning}
use Rattle.pr_sim.specs.declared.engine.Engine.{Engine}
use Rattle.pr_inval.specs.declared.node_fault.NodeFault.{NodeFault}
use Rattle.pr_stamps.specs.declared.no_memory.NoMemory.{NoMemory}
use Rattle.pr_script.specs.declared.decl.Decl.{Decl}
use Rattle.pr_text.specs.Lines.{sentence}
use Rattle.pr_text.specs.Transcripts.{plan_of}
use Rattle.pr_text.specs.declared.plain.line.Asked.{Asked}
use Rattle.pr_text.specs.declared.plain.line.Asked.TheVariants as asks
use Rattle.pr_check.specs.declared.said.Said.{Said}
use Rattle.pr_check.specs.declared.said.Said.TheVariants as said
use Rattle.pr_check.specs.Said.{HasItsBody, said_of}

-- what is asked for names what is declared, and a delete has no body
abbrev pub IsAskable : Counts → Asked → Type 0
IsAskable k (asks.Write client name body gone) = (client < k.clients) × (IsTrue gone → body ≡ [])
IsAskable k (asks.Read client name) = client < k.clients
IsAskable k (asks.Move client node) = (client < k.clients) × (node < k.nodes)
IsAskable k (asks.Attach stream) = stream < k.streams
IsAskable k (asks.Send stream) = stream < k.streams
IsAskable k (asks.Checkpoint stream) = stream < k.streams
IsAskable k (asks.Deliver stream number) = stream < k.streams
IsAskable k (asks.Cut node) = node < k.nodes
IsAskable k (asks.Drop node name) = node < k.nodes
IsAskable k (asks.Conflicts node name) = node < k.nodes
IsAskable k (asks.State node) = node < k.nodes

abbrev pub IsSayable : Counts → Said → Type 0
IsSayable k (said.Asked asked) = IsAskable k asked
IsSayable k (said.End stream cause) = stream < k.streams
IsSayable k (said.Behind client) = client < k.clients

-- each event whose line says this is one that the command may give
abbrev pub IsBy : Said → Command → Type 0
IsBy said command = (n : ℕ) (event : Event) → HasItsBody event → said_of n event ≡ said → Gives command n event

-- each stream that was ever attached still is
abbrev pub HasAllAttached : (ℕ → Bool) → List NodeEntry → Type 0
HasAllAttached attached h = (s : ℕ) → IsAttached h s → IsTrue (attached s)

-- no lawful entry has a line that says this
abbrev pub GivesNone : Said → Declared → List NodeEntry → Type 0
GivesNone said d h = (e : NodeEntry) → IsLawful d.plan h e → said_of e.node e.entry.event ≢ said

-- one entry was made, by a command that gives what was said; or no entry does
abbrev pub IsMade : Said → Declared → (ℕ → Bool) → List NodeEntry → Engine → Result Bool NoMemory → Type 0
IsMade said d attached h e (Ok true) =
    (command : Command) × IsBy said command
    × ((made : NodeEntry) × IsRunning d (attached_after (Single command) attached) (made ∷ h) e × Gives command made.node made.entry.event)
IsMade said d attached h e (Ok false) = HasAllAttached attached h → GivesNone said d h
IsMade said d attached h e (Err fault) = Unit {0}

-- how many nodes, clients and streams the engine has
abbrev pub counts_in : Engine → Counts
counts_in e = record { nodes = length e.nodes.items; clients = length e.homes.items; streams = length e.sessions.items }

-- the entry that was made has this line; or no lawful entry whose line says this has it
abbrev pub IsReplayed : List Decl → Said → List ℕ → (ℕ → Bool) → List NodeEntry → Engine → Result Bool NoMemory → Type 0
IsReplayed ds said line attached h e (Ok true) =
    (after : ℕ → Bool) × (made : NodeEntry) × IsRunning (declared_of ds) after (made ∷ h) e × (HasAllAttached attached h → HasAllAttached after (made ∷ h))
    × (sentence ds made.node made.entry.event ≡ line)
IsReplayed ds said line attached h e (Ok false) =
    HasAllAttached attached h → (other : NodeEntry) → IsLawful (plan_of ds) h other → said_of other.node other.entry.event ≡ said
    → sentence ds other.node other.entry.event ≢ line
IsReplayed ds said line attached h e (Err fault) = Unit {0}

-- a call that makes one entry did, or memory ran out
abbrev pub IsAnswered : Result (Unit {0}) NodeFault → Result Bool NoMemory → Type 0
IsAnswered (Ok done) result = result ≡ Ok true
IsAnswered (Err fault) (Err refused) = Unit {0}
IsAnswered (Err fault) (Ok b) = ⊥
