-- The nodes, sessions and history of a run, as whoever runs jobs beside each other sees them.
use Rattle.std.specs.Prelude.{ℕ, List, ◌≡◌, ◌<◌, ◌++◌, All, IsTrue, Option, Some, None, length, get_or}
use Rattle.pr_names.specs.Span.{Span}
use Rattle.pr_inval.specs.declared.msg.Msg.{Msg}
use Rattle.pr_inval.specs.Messages.{IsMessage}
use Rattle.pr_inval.specs.Standing.{Remembered, standing_of}
use Rattle.pr_story.specs.declared.entry.Entry.{Entry}
use Rattle.pr_story.specs.Counts.{AreDeclared, Declared}
use Rattle.pr_story.specs.History.{NodeEntry, Plan, WasSent}
use Rattle.pr_story.specs.History as history
use Rattle.pr_story.specs.Lawful.{Valid}
use Rattle.pr_story.specs.Laws.{StandsFor}
use Rattle.pr_story.specs.Places.{places_of}
use Rattle.pr_story.specs.Turns.{IsAttached}

-- a run at some moment: the nodes and the sessions that stand there, by number, None where one was taken; how many
-- clients there are; and where the entries of the history stand, the oldest first
pub record HeldState (N : Type 0) : Type 0 where
  pub nodes : List (Option N)
  pub sessions : List (Option Remembered)
  pub clients : ℕ
  pub places : List (ℕ × ℕ)

-- each number below the length has a value
abbrev pub AreAllHere : {X : Type 0} → List (Option X) → Type 0
AreAllHere slots = (n : ℕ) → n < length slots → (x : _) × (get_or slots n None ≡ Some x)

-- ---- sessions

-- the session stands for its stream in this history
pub record IsSession (plan : Plan) (h : List NodeEntry) (s : ℕ) (x : Remembered) : Type 0 where
  pub stream : x.stream ≡ s
  pub stands : StandsFor plan h s (standing_of x)
  pub attached : IsTrue x.attached → IsAttached h s

-- no session is out
abbrev pub AreSessions : Plan → List NodeEntry → List (Option Remembered) → Type 0
AreSessions plan h sessions = (s : ℕ) → s < length sessions → (x : Remembered) × (get_or sessions s None ≡ Some x) × IsSession plan h s x

-- ---- nodes

module _ {N : Type 0} (journal : N → List Entry) where
  -- the nodes that stand there have the journals of the history
  abbrev pub HasJournals : List NodeEntry → List (Option N) → Type 0
  HasJournals h nodes = (n : ℕ) (m : N) → get_or nodes n None ≡ Some m → journal m ≡ history.journal h n

  -- it holds the history: no node is out, and places and journals are those of the history
  pub record HasHistory (h : List NodeEntry) (s : HeldState N) : Type 0 where
    pub here : AreAllHere s.nodes
    pub journals : HasJournals h s.nodes
    pub places : s.places ≡ places_of h
    pub within : All (λ (p : ℕ × ℕ). p.0 < length s.nodes) s.places

  -- the entries at these places, which the journals of the nodes have, come behind the history
  pub record AddsPlaces (d : Declared) (h new : List NodeEntry) (s : HeldState N) (places : List (ℕ × ℕ)) : Type 0 where
    pub here : AreAllHere s.nodes
    pub journals : HasJournals (new ++ h) s.nodes
    pub before : s.places ≡ places_of h
    pub after : s.places ++ places ≡ places_of (new ++ h)
    pub speaks : AreDeclared d.counts (new ++ h)
    pub nodes : length s.nodes ≡ d.counts.nodes
    pub streams : length s.sessions ≡ d.counts.streams
    pub clients : s.clients ≡ d.counts.clients

-- a node of this number under the plan, with its journal of the history
pub record IsNodeOf {N : Type 0} (number : N → ℕ) (sets : N → List (List Span)) (journal : N → List Entry) (plan : Plan) (h : List NodeEntry) (n : ℕ) (m : N) : Type 0 where
  pub number_is : number m ≡ n
  pub sets_are : sets m ≡ plan.sets n
  pub journal_is : journal m ≡ history.journal h n

-- ---- a whole run

module _ {N : Type 0} (number : N → ℕ) (sets : N → List (List Span)) (journal : N → List Entry) (records : Declared → List NodeEntry → Type 0) where
  -- nothing is out, and all of it is that of the history, which is valid and of what is declared
  pub record Represents (d : Declared) (h : List NodeEntry) (s : HeldState N) : Type 0 where
    pub valid : Valid d.plan h
    pub speaks : AreDeclared d.counts h
    pub grammar : (msg : Msg) → WasSent h msg → IsMessage msg
    pub places : s.places ≡ places_of h
    pub nodes : (n : ℕ) → n < length s.nodes → (m : N) × (get_or s.nodes n None ≡ Some m) × IsNodeOf number sets journal d.plan h n m
    pub sessions : AreSessions d.plan h s.sessions
    pub many_nodes : length s.nodes ≡ d.counts.nodes
    pub many_streams : length s.sessions ≡ d.counts.streams
    pub many_clients : s.clients ≡ d.counts.clients
    pub records_are : records d h
