-- Which entries have a spelling.
use Rattle.std.specs.Prelude.{◌<◌, ◌^◌, ℕ, List, Option, Some, None, length}
use Rattle.std.specs.List.{AllByRecursion}
use Rattle.pr_stamps.specs.Point.{Point, IsStamp}
use Rattle.pr_vectors.specs.Vector.{IsVector}
use Rattle.pr_names.specs.Name.{IsName}
use Rattle.pr_inval.specs.Messages.{IsMessage}
use Rattle.pr_inval.specs.declared.msg.Msg.{Msg}
use Rattle.pr_inval.specs.declared.write_rec.WriteRec.{WriteRec}
use Rattle.pr_story.specs.declared.entry.Entry.{Entry}
use Rattle.pr_story.specs.declared.event.Event.{Event}
use Rattle.pr_story.specs.declared.event.Event.TheVariants.{Wrote, Attached, Sent, Idle, Stale, Accepted, Gapped, Missing, Down, Answered, Cut, Dropped, Conflicts, State, Moved, Behind}
use Rattle.pr_story.specs.declared.found.Found.{Found}
use Rattle.pr_story.specs.declared.found.Found.TheVariants as founds
use Rattle.pr_story.specs.declared.reply.Reply.{Reply}
use Rattle.pr_story.specs.declared.reply.Reply.TheVariants as replies
use Rattle.pr_wire.specs.Messages.{HasSpelling}
use Rattle.pr_wire.specs.Spelling.{content}
use Rattle.pr_wire.specs.declared.format.Format.TheVariants.{Two}
use Rattle.pr_keep.specs.Spelling.{entry_text}

-- ---- what a caller has to know: a message in the event is one of the grammar

abbrev pub HasMessage : Event → Type 0
HasMessage (Sent msg) = IsMessage msg
HasMessage (Accepted msg at) = IsMessage msg
HasMessage (Gapped msg has) = IsMessage msg
HasMessage _ = Unit {0}

-- ---- what each entry in memory meets besides: its parts are in range

abbrev pub IsStampOrNone : Option Point → Type 0
IsStampOrNone None = Unit {0}
IsStampOrNone (Some p) = IsStamp p

pub record IsAnyWrite (w : WriteRec) : Type 0 where
  pub name : IsName w.name
  pub stamp : IsStamp w.stamp
  pub prev : IsStampOrNone w.prev

abbrev pub IsPair : Point × Point → Type 0
IsPair p = IsStamp p.0 × IsStamp p.1

-- a message with a frame, whose length 8 bytes tell
pub record IsFramed (m : Msg) : Type 0 where
  pub spelled : HasSpelling Two m
  pub short : length (content Two m) < 2 ^ 64

-- items that a count of 8 bytes tells
pub record IsCountedList {A : Type 0} (valid : A → Type 0) (xs : List A) : Type 0 where
  pub each : AllByRecursion valid xs
  pub few : length xs < 2 ^ 64

abbrev pub IsCounted : List ℕ → Type 0
IsCounted bytes = length bytes < 2 ^ 64

abbrev pub IsReply : Reply → Type 0
IsReply replies.Never = Unit {0}
IsReply (replies.Value stamp bytes) = IsStamp stamp × IsCounted bytes
IsReply (replies.Imprecise untold) = IsStamp untold
IsReply (replies.Body stamp) = IsStamp stamp
IsReply (replies.Gone stamp) = IsStamp stamp

abbrev pub IsFound : Found → Type 0
IsFound (founds.Pairs pairs) = IsCountedList IsPair pairs
IsFound (founds.Imprecise untold) = IsStamp untold

abbrev pub IsFour : ℕ → Type 0
IsFour n = n < 2 ^ 32

abbrev pub IsEight : ℕ → Type 0
IsEight n = n < 2 ^ 64

abbrev pub IsEvent : Event → Type 0
IsEvent (Wrote client write body after) = IsFour client × IsAnyWrite write × IsCounted body × IsVector after
IsEvent (Attached stream at) = IsFour stream × IsVector at
IsEvent (Sent msg) = IsFramed msg
IsEvent (Idle stream) = IsFour stream
IsEvent (Stale stream cut) = IsFour stream × IsVector cut
IsEvent (Accepted msg at) = IsFramed msg × IsVector at
IsEvent (Gapped msg has) = IsFramed msg × IsVector has
IsEvent (Missing stream number) = IsFour stream × IsEight number
IsEvent (Down stream cause) = IsFour stream
IsEvent (Answered client name reply at) = IsFour client × IsName name × IsReply reply × IsVector at
IsEvent (Cut at) = IsVector at
IsEvent (Dropped name) = IsName name
IsEvent (Conflicts name found) = IsName name × IsFound found
IsEvent (State at cut floor precise) = IsVector at × IsVector cut × IsVector floor × IsCountedList IsVector precise
IsEvent (Moved client) = IsFour client
IsEvent (Behind client needs has) = IsFour client × IsVector needs × IsVector has

-- ---- entries that have a spelling, and entries that have a record

pub record IsSpelled (e : ℕ × Entry) : Type 0 where
  pub node : e.0 < 32
  pub time : IsEight e.1.time
  pub caller : IsFour e.1.caller
  pub event : IsEvent e.1.event

pub record IsKeepable (e : ℕ × Entry) : Type 0 where
  pub spelled : IsSpelled e
  pub short : length (entry_text e) < 2 ^ 64
