-- What an engine stands for.
use Rattle.std.specs.Prelude.{ℕ, List, ◌≡◌, ◌≤◌, ◌<◌, Bool, Option, Some, None, IsTrue, false, length, get_or}
use Rattle.std.specs.List.{range_with_len}
use Rattle.pr_stamps.specs.Kept.{Kept}
use Rattle.pr_vectors.specs.Vector.{zero_vector}
use Rattle.pr_inval.specs.declared.msg.Msg.{Msg}
use Rattle.pr_inval.specs.Standing.{Remembered}
use Rattle.pr_node.specs.Scanning.{IsScanOf, Scanned}
use Rattle.pr_node.specs.Stored.{Stored, means}
use Rattle.pr_story.specs.History.{NodeEntry, Plan, WasSent, journal}
use Rattle.pr_story.specs.Counts.{AreDeclared, Declared}
use Rattle.pr_story.specs.Lawful.{Valid}
use Rattle.pr_story.specs.Clients.{client_node, client_vector}
use Rattle.pr_inval.specs.Messages.{IsMessage}
use Rattle.pr_story.specs.Places.{places_of, sent_places}
use Rattle.pr_story.specs.Turns.{standing}
use Rattle.pr_merge.specs.Holding as holding
use Rattle.pr_merge.specs.Holding.{AreSessions}
use Rattle.pr_sim.specs.declared.engine.Engine.{Engine}
use Rattle.pr_sim.specs.declared.engine.Route.{Route}

-- ---- what holds whatever came of a call

-- the nodes that stand there have the journals of the history
abbrev pub HasJournals : List NodeEntry → List (Option Stored) → Type 0
HasJournals h nodes = holding.HasJournals (λ (m : Stored). (means m).journal) h nodes

-- the places and the nodes tell a valid history
pub record Told (plan : Plan) (h : List NodeEntry) (nodes : List (Option Stored)) (places : List (ℕ × ℕ)) : Type 0 where
  pub valid : Valid plan h
  pub grammar : (msg : Msg) → WasSent h msg → IsMessage msg
  pub places_are : places ≡ places_of h
  pub journals : HasJournals h nodes
  pub all_here : (n : ℕ) → n < length nodes → (m : Stored) × (get_or nodes n None ≡ Some m)

-- ---- what a call needs and gives again

pub record IsNode (plan : Plan) (h : List NodeEntry) (n : ℕ) (m : Stored) : Type 0 where
  pub id : m.id ≡ n
  pub sets : (means m).sets ≡ plan.sets n
  pub journal_is : (means m).journal ≡ journal h n
  pub works : m.spent ≡ false

-- no node is out
pub record AreNodes (plan : Plan) (h : List NodeEntry) (nodes : List (Option Stored)) : Type 0 where
  pub few : length nodes ≤ 32
  pub each : (n : ℕ) → n < length nodes → (m : Stored) × (get_or nodes n None ≡ Some m) × IsNode plan h n m

-- where each client stands, of so many nodes, and what it has seen
pub record AreClients (plan : Plan) (h : List NodeEntry) (count : ℕ) (homes : List ℕ) (seen : List (List ℕ)) : Type 0 where
  pub many : length seen ≡ length homes
  pub home : (c : ℕ) → c < length homes → get_or homes c 0 ≡ client_node plan h c
  pub at : (c : ℕ) → c < length homes → get_or homes c 0 < count
  pub seen_is : (c : ℕ) → c < length homes → get_or seen c zero_vector ≡ client_vector h c

-- the ends of each stream, of so many nodes
pub record AreRoutes (plan : Plan) (count : ℕ) (routes : List Route) : Type 0 where
  pub source : (s : ℕ) (d : Route) → s < length routes → (get_or routes s d).source ≡ (plan.stream s).source
  pub destination : (s : ℕ) (d : Route) → s < length routes → (get_or routes s d).destination ≡ (plan.stream s).destination
  pub from : (s : ℕ) (d : Route) → s < length routes → (get_or routes s d).source < count
  pub to : (s : ℕ) (d : Route) → s < length routes → (get_or routes s d).destination < count

-- the scan of each stream is right for it, at its source
abbrev pub AreScans : Plan → List NodeEntry → List Scanned → Type 0
AreScans plan h scans = (s : ℕ) (d : Scanned) → s < length scans → IsScanOf (get_or scans s d) (standing plan h s) (journal h (plan.stream s).source)

abbrev pub AreSent : List NodeEntry → List (Kept ℕ) → Type 0
AreSent h sent = (s : ℕ) (d : Kept ℕ) → s < length sent → (get_or sent s d).items ≡ sent_places h s

-- the engine stands for the history
pub record Stands (plan : Plan) (h : List NodeEntry) (e : Engine) : Type 0 where
  pub valid : Valid plan h
  pub grammar : (msg : Msg) → WasSent h msg → IsMessage msg
  pub places_are : e.history.items ≡ places_of h
  pub nodes : AreNodes plan h e.nodes.items
  pub sessions : AreSessions plan h e.sessions.items
  pub clients : AreClients plan h (length e.nodes.items) e.homes.items e.seen.items
  pub routes : AreRoutes plan (length e.nodes.items) e.routes.items
  pub sent : AreSent h e.sent.items
  pub scans : AreScans plan h e.scans.items
  pub many : length e.routes.items ≡ length e.sessions.items
  pub many_sent : length e.sent.items ≡ length e.sessions.items
  pub many_scans : length e.scans.items ≡ length e.sessions.items

-- the numbers below n
abbrev pub below : ℕ → List ℕ
below n = range_with_len 0 n

-- the engine has run what gave the history, of these declarations, where these streams are attached, and can go on
pub record IsRunning (d : Declared) (attached : ℕ → Bool) (h : List NodeEntry) (e : Engine) : Type 0 where
  pub stands : Stands d.plan h e
  pub speaks : AreDeclared d.counts h
  pub nodes : length e.nodes.items ≡ d.counts.nodes
  pub clients : length e.homes.items ≡ d.counts.clients
  pub streams : length e.sessions.items ≡ d.counts.streams
  pub attached_are : (s : ℕ) (x : Remembered) → get_or e.sessions.items s None ≡ Some x → x.attached ≡ attached s

-- it tells the history, whether or not it can go on: its places and journals are those of the history
pub record Tells (d : Declared) (h : List NodeEntry) (e : Engine) : Type 0 where
  pub told : Told d.plan h e.nodes.items e.history.items
  pub speaks : AreDeclared d.counts h
  pub nodes : length e.nodes.items ≡ d.counts.nodes

-- it does for some
abbrev pub IsKept : Engine → Type 0
IsKept e = (d : Declared) × (attached : ℕ → Bool) × (h : List NodeEntry) × IsRunning d attached h e

-- the stream is attached
abbrev pub HasAttached : Engine → ℕ → Type 0
HasAttached e s = (x : Remembered) × (get_or e.sessions.items s None ≡ Some x) × IsTrue x.attached
