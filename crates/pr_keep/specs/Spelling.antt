-- The one spelling of an entry with its node (docs/KEPT.md).
use Rattle.std.specs.Prelude.{ℕ, List, [], ◌∷◌, ◌++◌, length}
use Rattle.pr_stamps.specs.Point.{Point}
use Rattle.pr_story.specs.declared.cause.Cause.{Cause}
use Rattle.pr_story.specs.declared.cause.Cause.TheVariants as causes
use Rattle.pr_story.specs.declared.entry.Entry.{Entry}
use Rattle.pr_story.specs.declared.event.Event.{Event}
use Rattle.pr_story.specs.declared.event.Event.TheVariants.{Wrote, Attached, Sent, Idle, Stale, Accepted, Gapped, Missing, Down, Answered, Cut, Dropped, Conflicts, State, Moved, Behind}
use Rattle.pr_story.specs.declared.found.Found.{Found}
use Rattle.pr_story.specs.declared.found.Found.TheVariants as founds
use Rattle.pr_story.specs.declared.reply.Reply.{Reply}
use Rattle.pr_story.specs.declared.reply.Reply.TheVariants as replies
use Rattle.pr_wire.specs.Spelling.{eight, four, list_text, name_text, spelling, stamp_text, vector_text, write_text}
use Rattle.pr_wire.specs.declared.format.Format.TheVariants.{Two}

-- bytes behind their count
unfoldable pub counted_text : List ℕ → List ℕ
counted_text bytes = eight (length bytes) ++ bytes

unfoldable pub pair_text : Point × Point → List ℕ
pair_text p = stamp_text p.0 ++ stamp_text p.1

abbrev pub cause_byte : Cause → ℕ
cause_byte causes.Failed = 1
cause_byte causes.Ended = 2
cause_byte causes.Gap = 3

unfoldable pub cause_text : Cause → List ℕ
cause_text cause = cause_byte cause ∷ []

-- which answer it is, and its fields
abbrev pub reply_byte : Reply → ℕ
reply_byte replies.Never = 1
reply_byte (replies.Value stamp bytes) = 2
reply_byte (replies.Imprecise untold) = 3
reply_byte (replies.Body stamp) = 4
reply_byte (replies.Gone stamp) = 5

unfoldable pub reply_fields : Reply → List ℕ
reply_fields replies.Never = []
reply_fields (replies.Value stamp bytes) = stamp_text stamp ++ counted_text bytes
reply_fields (replies.Imprecise untold) = stamp_text untold
reply_fields (replies.Body stamp) = stamp_text stamp
reply_fields (replies.Gone stamp) = stamp_text stamp

unfoldable pub reply_text : Reply → List ℕ
reply_text reply = reply_byte reply ∷ reply_fields reply

abbrev pub found_byte : Found → ℕ
found_byte (founds.Pairs pairs) = 1
found_byte (founds.Imprecise untold) = 2

unfoldable pub found_fields : Found → List ℕ
found_fields (founds.Pairs pairs) = list_text pair_text pairs
found_fields (founds.Imprecise untold) = stamp_text untold

unfoldable pub found_text : Found → List ℕ
found_text found = found_byte found ∷ found_fields found

-- which kind an event is
abbrev pub event_byte : Event → ℕ
event_byte (Wrote client write body after) = 1
event_byte (Attached stream at) = 2
event_byte (Sent msg) = 3
event_byte (Idle stream) = 4
event_byte (Stale stream cut) = 5
event_byte (Accepted msg at) = 6
event_byte (Gapped msg has) = 7
event_byte (Missing stream number) = 8
event_byte (Down stream cause) = 9
event_byte (Answered client name reply at) = 10
event_byte (Cut at) = 11
event_byte (Dropped name) = 12
event_byte (Conflicts name found) = 13
event_byte (State at cut floor precise) = 14
event_byte (Moved client) = 15
event_byte (Behind client needs has) = 16

-- an event's fields, in their order
unfoldable pub event_fields : Event → List ℕ
event_fields (Wrote client write body after) = four client ++ (write_text Two write ++ (counted_text body ++ vector_text after))
event_fields (Attached stream at) = four stream ++ vector_text at
event_fields (Sent msg) = spelling Two msg
event_fields (Idle stream) = four stream
event_fields (Stale stream cut) = four stream ++ vector_text cut
event_fields (Accepted msg at) = spelling Two msg ++ vector_text at
event_fields (Gapped msg has) = spelling Two msg ++ vector_text has
event_fields (Missing stream number) = four stream ++ eight number
event_fields (Down stream cause) = four stream ++ cause_text cause
event_fields (Answered client name reply at) = four client ++ (name_text name ++ (reply_text reply ++ vector_text at))
event_fields (Cut at) = vector_text at
event_fields (Dropped name) = name_text name
event_fields (Conflicts name found) = name_text name ++ found_text found
event_fields (State at cut floor precise) = vector_text at ++ (vector_text cut ++ (vector_text floor ++ list_text vector_text precise))
event_fields (Moved client) = four client
event_fields (Behind client needs has) = four client ++ (vector_text needs ++ vector_text has)

unfoldable pub event_text : Event → List ℕ
event_text event = event_byte event ∷ event_fields event

-- the node, the time, the caller, the event's kind, and its fields
unfoldable pub entry_text : ℕ × Entry → List ℕ
entry_text e = e.0 ∷ (eight e.1.time ++ (four e.1.caller ++ event_text e.1.event))
