-- Histories of declared nodes, clients and streams.
use Rattle.std.specs.Prelude.{◌≡◌, ◌≤◌, ◌<◌, ℕ, List, [], ◌∷◌, All, Option, None, Some}
use Rattle.pr_stamps.specs.Point.{Point}
use Rattle.pr_stamps.specs.declared.mark.Mark.{Mark}
use Rattle.pr_vectors.specs.Vector.{clock_of}
use Rattle.pr_inval.specs.declared.kind.Kind.{Kind}
use Rattle.pr_inval.specs.declared.kind.Kind.TheVariants.{Precise, Imprecise, Checkpoint, Body}
use Rattle.pr_inval.specs.declared.msg.Msg.{Msg}
use Rattle.pr_inval.specs.declared.row.Row.{Row}
use Rattle.pr_inval.specs.declared.write_rec.WriteRec.{WriteRec}
use Rattle.pr_story.specs.declared.event.Event.{Event}
use Rattle.pr_story.specs.declared.event.Event.TheVariants.{Wrote, Attached, Sent, Idle, Stale, Accepted, Gapped, Missing, Down, Answered, Behind, Moved, Cut, Dropped, Conflicts, State}
use Rattle.pr_story.specs.declared.reply.Reply.{Reply}
use Rattle.pr_story.specs.declared.reply.Reply.TheVariants as replies
use Rattle.pr_story.specs.declared.found.Found.{Found}
use Rattle.pr_story.specs.declared.found.Found.TheVariants as founds
use Rattle.pr_story.specs.History.{Plan, NodeEntry}
use Rattle.pr_story.specs.Lawful.{Valid}

-- how many are declared
pub record Counts : Type 0 where
  pub nodes : ℕ
  pub clients : ℕ
  pub streams : ℕ

-- what is declared: as a plan, and how many there are of each kind
pub record Declared : Type 0 where
  pub plan : Plan
  pub counts : Counts

-- ---- whose the events are

-- the client or the stream of the event is declared
abbrev pub IsDeclared : Counts → Event → Type 0
IsDeclared k (Wrote client write body after) = client < k.clients
IsDeclared k (Attached stream at) = stream < k.streams
IsDeclared k (Sent msg) = msg.stream < k.streams
IsDeclared k (Idle stream) = stream < k.streams
IsDeclared k (Stale stream cut) = stream < k.streams
IsDeclared k (Accepted msg at) = msg.stream < k.streams
IsDeclared k (Gapped msg has) = msg.stream < k.streams
IsDeclared k (Missing stream number) = stream < k.streams
IsDeclared k (Down stream cause) = stream < k.streams
IsDeclared k (Answered client name answer at) = client < k.clients
IsDeclared k (Behind client needs has) = client < k.clients
IsDeclared k (Moved client) = client < k.clients
IsDeclared k (Cut at) = Unit {0}
IsDeclared k (Dropped name) = Unit {0}
IsDeclared k (Conflicts name found) = Unit {0}
IsDeclared k (State at cut floor precise) = Unit {0}

-- each entry is at a declared node, and its client or stream is declared
abbrev pub AreDeclared : Counts → List NodeEntry → Type 0
AreDeclared k [] = Unit {0}
AreDeclared k (e ∷ h) = ((e.node < k.nodes) × IsDeclared k e.entry.event) × AreDeclared k h

-- a history under this plan, of which so many are declared: it is valid, and of declared nodes, clients and streams alone
pub record IsHistory (plan : Plan) (k : Counts) (h : List NodeEntry) : Type 0 where
  pub valid : Valid plan h
  pub declared : AreDeclared k h

-- ---- what their stamps and vectors name

module _ (nodes : ℕ) where
  abbrev pub HasStamp : Point → Type 0
  HasStamp p = p.node < nodes

  abbrev pub HasPrev : Option Point → Type 0
  HasPrev None = Unit {0}
  HasPrev (Some p) = HasStamp p

  -- nodes that are not declared have no clock
  abbrev pub HasVector : List ℕ → Type 0
  HasVector v = (n : ℕ) → nodes ≤ n → clock_of v n ≡ 0

  abbrev pub HasWrite : WriteRec → Type 0
  HasWrite w = HasStamp w.stamp × HasPrev w.prev

  abbrev pub HasMark : Mark → Type 0
  HasMark m = HasStamp m.stamp × HasPrev m.prev

  abbrev pub HasRow : Row → Type 0
  HasRow r = HasStamp r.newest × All HasMark r.marks

  abbrev pub HasPair : Point × Point → Type 0
  HasPair p = HasStamp p.0 × HasStamp p.1

  abbrev pub HasKind : Kind → Type 0
  HasKind (Precise from to write) = HasVector from × HasVector to × HasWrite write
  HasKind (Imprecise from to target) = HasVector from × HasVector to
  HasKind (Checkpoint to target floor rows) = HasVector to × HasVector floor × All HasRow rows
  HasKind (Body name stamp bytes) = HasStamp stamp

  abbrev pub HasReply : Reply → Type 0
  HasReply replies.Never = Unit {0}
  HasReply (replies.Value stamp bytes) = HasStamp stamp
  HasReply (replies.Imprecise untold) = HasStamp untold
  HasReply (replies.Body stamp) = HasStamp stamp
  HasReply (replies.Gone stamp) = HasStamp stamp

  abbrev pub HasFound : Found → Type 0
  HasFound (founds.Pairs pairs) = All HasPair pairs
  HasFound (founds.Imprecise untold) = HasStamp untold

-- the event is of a declared client or stream, and its stamps and vectors name declared nodes alone
module _ (k : Counts) where
  abbrev pub HasMsg : Msg → Type 0
  HasMsg msg = (msg.stream < k.streams) × HasKind k.nodes msg.kind

  abbrev pub HasEvent : Event → Type 0
  HasEvent (Wrote client write body after) = (client < k.clients) × HasWrite k.nodes write × HasVector k.nodes after
  HasEvent (Attached stream at) = (stream < k.streams) × HasVector k.nodes at
  HasEvent (Sent msg) = HasMsg msg
  HasEvent (Idle stream) = stream < k.streams
  HasEvent (Stale stream cut) = (stream < k.streams) × HasVector k.nodes cut
  HasEvent (Accepted msg at) = HasMsg msg × HasVector k.nodes at
  HasEvent (Gapped msg has) = HasMsg msg × HasVector k.nodes has
  HasEvent (Missing stream number) = stream < k.streams
  HasEvent (Down stream cause) = stream < k.streams
  HasEvent (Answered client name reply at) = (client < k.clients) × HasReply k.nodes reply × HasVector k.nodes at
  HasEvent (Behind client needs has) = (client < k.clients) × HasVector k.nodes needs × HasVector k.nodes has
  HasEvent (Moved client) = client < k.clients
  HasEvent (Cut at) = HasVector k.nodes at
  HasEvent (Dropped name) = Unit {0}
  HasEvent (Conflicts name found) = HasFound k.nodes found
  HasEvent (State at cut floor precise) = HasVector k.nodes at × HasVector k.nodes cut × HasVector k.nodes floor × All (HasVector k.nodes) precise

  -- each entry is at a declared node, and names what is declared
  abbrev pub AllNamed : List NodeEntry → Type 0
  AllNamed [] = Unit {0}
  AllNamed (e ∷ h) = (e.node < k.nodes) × HasEvent e.entry.event × AllNamed h
