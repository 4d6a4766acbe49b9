-- The numbers, names, vectors, sets and bytes that an event may have: those that its type allows.
use Rattle.std.specs.Prelude.{ℕ, List, ◌<◌, ◌^◌, Option, Some, None, All}
use Rattle.pr_stamps.specs.Point.{Point, IsStamp}
use Rattle.pr_vectors.specs.Vector.{IsVector}
use Rattle.pr_names.specs.Name.{IsName}
use Rattle.pr_sets.specs.Spans.{IsSet}
use Rattle.pr_inval.specs.declared.kind.Kind.{Kind}
use Rattle.pr_inval.specs.declared.kind.Kind.TheVariants.{Precise, Imprecise, Checkpoint, Body}
use Rattle.pr_inval.specs.declared.msg.Msg.{Msg}
use Rattle.pr_inval.specs.declared.row.Row.{Row}
use Rattle.pr_story.specs.declared.reply.Reply.{Reply}
use Rattle.pr_story.specs.declared.reply.Reply.TheVariants as reply
use Rattle.pr_story.specs.declared.found.Found.{Found}
use Rattle.pr_story.specs.declared.found.Found.TheVariants as found
use Rattle.pr_inval.specs.declared.write_rec.WriteRec.{WriteRec}
use Rattle.pr_story.specs.declared.event.Event.{Event}
use Rattle.pr_story.specs.declared.event.Event.TheVariants.{Wrote, Attached, Sent, Idle, Stale, Accepted, Gapped, Missing, Down, Answered, Behind, Moved, Cut, Dropped, Conflicts, State}
use Rattle.pr_stamps.specs.declared.mark.Mark.{Mark}

abbrev pub IsBytes : List ℕ → Type 0
IsBytes bytes = All (λ b. b < 256) bytes

abbrev pub IsStampOrNone : Option Point → Type 0
IsStampOrNone None = Unit {0}
IsStampOrNone (Some s) = IsStamp s

abbrev pub IsWrite : WriteRec → Type 0
IsWrite x = IsName x.name × IsStamp x.stamp × IsStampOrNone x.prev

abbrev pub IsRow : Row → Type 0
IsRow row = IsName row.name × IsStamp row.newest × All (λ (m : Mark). IsStamp m.stamp × IsStampOrNone m.prev) row.marks

abbrev pub IsKind : Kind → Type 0
IsKind (Precise from to write) = IsVector from × IsVector to × IsWrite write
IsKind (Imprecise from to target) = IsVector from × IsVector to × IsSet target
IsKind (Checkpoint to target floor rows) = IsVector to × IsSet target × IsVector floor × All IsRow rows
IsKind (Body name stamp bytes) = IsName name × IsStamp stamp × IsBytes bytes

abbrev pub IsMsg : Msg → Type 0
IsMsg msg = (msg.time < 2 ^ 64) × (msg.stream < 2 ^ 32) × (msg.number < 2 ^ 64) × IsKind msg.kind

abbrev pub IsReply : Reply → Type 0
IsReply reply.Never = Unit {0}
IsReply (reply.Value stamp bytes) = IsStamp stamp × IsBytes bytes
IsReply (reply.Imprecise untold) = IsStamp untold
IsReply (reply.Body stamp) = IsStamp stamp
IsReply (reply.Gone stamp) = IsStamp stamp

abbrev pub IsFinding : Found → Type 0
IsFinding (found.Pairs pairs) = All (λ (p : Point × Point). IsStamp p.0 × IsStamp p.1) pairs
IsFinding (found.Imprecise untold) = IsStamp untold

-- the numbers, names, vectors, sets and bytes of an event are such as its type allows
abbrev pub IsInRange : Event → Type 0
IsInRange (Wrote client write body after) = IsWrite write × IsBytes body × (client < 2 ^ 32) × IsVector after
IsInRange (Attached stream at) = (stream < 2 ^ 32) × IsVector at
IsInRange (Sent msg) = IsMsg msg
IsInRange (Idle stream) = stream < 2 ^ 32
IsInRange (Stale stream cut) = (stream < 2 ^ 32) × IsVector cut
IsInRange (Accepted msg at) = IsMsg msg × IsVector at
IsInRange (Gapped msg has) = IsMsg msg × IsVector has
IsInRange (Missing stream number) = (stream < 2 ^ 32) × (number < 2 ^ 64)
IsInRange (Down stream cause) = stream < 2 ^ 32
IsInRange (Answered client name answer at) = (client < 2 ^ 32) × IsName name × IsReply answer × IsVector at
IsInRange (Behind client needs has) = (client < 2 ^ 32) × IsVector needs × IsVector has
IsInRange (Moved client) = client < 2 ^ 32
IsInRange (Cut at) = IsVector at
IsInRange (Dropped name) = IsName name
IsInRange (Conflicts name answer) = IsName name × IsFinding answer
IsInRange (State at cut floor precise) = IsVector at × IsVector cut × IsVector floor × All IsVector precise
