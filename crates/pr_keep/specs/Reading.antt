-- Reading an entry from the front of bytes, field by field.
use Rattle.std.specs.Prelude.{ℕ, Bool, true, cond, nat_lt, ◌==◌, List, length, Option, Some, None}
use Rattle.pr_stamps.specs.Point.{Point}
use Rattle.pr_inval.specs.declared.msg.Msg.{Msg}
use Rattle.pr_inval.specs.declared.write_rec.WriteRec.{WriteRec}
use Rattle.pr_story.specs.declared.cause.Cause.{Cause}
use Rattle.pr_story.specs.declared.cause.Cause.TheVariants as causes
use Rattle.pr_story.specs.declared.entry.Entry.{Entry}
use Rattle.pr_story.specs.declared.event.Event.{Event}
use Rattle.pr_story.specs.declared.event.Event.TheVariants.{Wrote, Attached, Sent, Idle, Stale, Accepted, Gapped, Missing, Down, Answered, Cut, Dropped, Conflicts, State, Moved, Behind}
use Rattle.pr_story.specs.declared.found.Found.{Found}
use Rattle.pr_story.specs.declared.found.Found.TheVariants as founds
use Rattle.pr_story.specs.declared.reply.Reply.{Reply}
use Rattle.pr_story.specs.declared.reply.Reply.TheVariants as replies
use Rattle.pr_wire.specs.Reading.{◌>>=◌, byte_at, bytes_at, eight_at, four_at, given, gone_at, list_at, message_at, name_at, prev_at, stamp_at, vector_at}
use Rattle.pr_wire.specs.declared.format.Format.TheVariants.{Two}

-- ---- parts

unfoldable pub counted_at : List ℕ → Option (List ℕ × List ℕ)
counted_at bytes = do
  len ← eight_at bytes
  bytes_at len.0 len.1

-- a write, whatever it says of the one before it
unfoldable pub write_at : List ℕ → Option (WriteRec × List ℕ)
write_at bytes = do
  name ← name_at bytes
  stamp ← stamp_at name.1
  prev ← prev_at stamp.1
  gone ← gone_at Two prev.1
  Some (record { name = name.0; stamp = stamp.0; prev = prev.0; gone = gone.0 }, gone.1)

-- a message by its frame in format 2
unfoldable pub frame_at : List ℕ → Option (Msg × List ℕ)
frame_at bytes = do
  format ← byte_at bytes
  two ← given (format.0 == 2) format.1
  len ← eight_at two
  content ← bytes_at len.0 len.1
  msg ← message_at Two content.0
  Some (msg, content.1)

unfoldable pub pair_at : List ℕ → Option ((Point × Point) × List ℕ)
pair_at bytes = do
  first ← stamp_at bytes
  second ← stamp_at first.1
  Some ((first.0, second.0), second.1)

-- any item may stand behind any others
abbrev pub in_any_order : {A : Type 0} → List A → A → Bool
in_any_order xs x = true

abbrev pub vectors_at : List ℕ → Option (List (List ℕ) × List ℕ)
vectors_at bytes = list_at vector_at in_any_order bytes

abbrev pub pairs_at : List ℕ → Option (List (Point × Point) × List ℕ)
pairs_at bytes = list_at pair_at in_any_order bytes

abbrev pub cause_of : ℕ → Option Cause
cause_of byte = cond (byte == 1) (Some causes.Failed) (cond (byte == 2) (Some causes.Ended) (cond (byte == 3) (Some causes.Gap) None))

unfoldable pub cause_at : List ℕ → Option (Cause × List ℕ)
cause_at bytes = do
  byte ← byte_at bytes
  cause ← cause_of byte.0
  Some (cause, byte.1)

unfoldable pub value_at : List ℕ → Option (Reply × List ℕ)
value_at bytes = do
  stamp ← stamp_at bytes
  value ← counted_at stamp.1
  Some (replies.Value stamp.0 value.0, value.1)

unfoldable pub stamped_at : {A : Type 0} → (Point → A) → List ℕ → Option (A × List ℕ)
stamped_at answer bytes = do
  stamp ← stamp_at bytes
  Some (answer stamp.0, stamp.1)

unfoldable pub reply_by : ℕ → List ℕ → Option (Reply × List ℕ)
reply_by kind bytes =
    cond (kind == 1) (Some (replies.Never, bytes))
    (cond (kind == 2) (value_at bytes)
    (cond (kind == 3) (stamped_at replies.Imprecise bytes)
    (cond (kind == 4) (stamped_at replies.Body bytes)
    (cond (kind == 5) (stamped_at replies.Gone bytes) None))))

unfoldable pub reply_at : List ℕ → Option (Reply × List ℕ)
reply_at bytes = do
  kind ← byte_at bytes
  reply_by kind.0 kind.1

unfoldable pub found_pairs_at : List ℕ → Option (Found × List ℕ)
found_pairs_at bytes = do
  pairs ← pairs_at bytes
  Some (founds.Pairs pairs.0, pairs.1)

unfoldable pub found_by : ℕ → List ℕ → Option (Found × List ℕ)
found_by kind bytes =
    cond (kind == 1) (found_pairs_at bytes)
    (cond (kind == 2) (stamped_at founds.Imprecise bytes) None)

unfoldable pub found_at : List ℕ → Option (Found × List ℕ)
found_at bytes = do
  kind ← byte_at bytes
  found_by kind.0 kind.1

-- ---- the fields of each kind of event

unfoldable pub wrote_at : List ℕ → Option (Event × List ℕ)
wrote_at bytes = do
  client ← four_at bytes
  write ← write_at client.1
  body ← counted_at write.1
  after ← vector_at body.1
  Some (Wrote client.0 write.0 body.0 after.0, after.1)

unfoldable pub attached_at : List ℕ → Option (Event × List ℕ)
attached_at bytes = do
  stream ← four_at bytes
  at ← vector_at stream.1
  Some (Attached stream.0 at.0, at.1)

unfoldable pub sent_at : List ℕ → Option (Event × List ℕ)
sent_at bytes = do
  msg ← frame_at bytes
  Some (Sent msg.0, msg.1)

unfoldable pub idle_at : List ℕ → Option (Event × List ℕ)
idle_at bytes = do
  stream ← four_at bytes
  Some (Idle stream.0, stream.1)

unfoldable pub stale_at : List ℕ → Option (Event × List ℕ)
stale_at bytes = do
  stream ← four_at bytes
  cut ← vector_at stream.1
  Some (Stale stream.0 cut.0, cut.1)

unfoldable pub accepted_at : List ℕ → Option (Event × List ℕ)
accepted_at bytes = do
  msg ← frame_at bytes
  at ← vector_at msg.1
  Some (Accepted msg.0 at.0, at.1)

unfoldable pub gapped_at : List ℕ → Option (Event × List ℕ)
gapped_at bytes = do
  msg ← frame_at bytes
  has ← vector_at msg.1
  Some (Gapped msg.0 has.0, has.1)

unfoldable pub missing_at : List ℕ → Option (Event × List ℕ)
missing_at bytes = do
  stream ← four_at bytes
  number ← eight_at stream.1
  Some (Missing stream.0 number.0, number.1)

unfoldable pub down_at : List ℕ → Option (Event × List ℕ)
down_at bytes = do
  stream ← four_at bytes
  cause ← cause_at stream.1
  Some (Down stream.0 cause.0, cause.1)

unfoldable pub answered_at : List ℕ → Option (Event × List ℕ)
answered_at bytes = do
  client ← four_at bytes
  name ← name_at client.1
  reply ← reply_at name.1
  at ← vector_at reply.1
  Some (Answered client.0 name.0 reply.0 at.0, at.1)

unfoldable pub cut_at : List ℕ → Option (Event × List ℕ)
cut_at bytes = do
  at ← vector_at bytes
  Some (Cut at.0, at.1)

unfoldable pub dropped_at : List ℕ → Option (Event × List ℕ)
dropped_at bytes = do
  name ← name_at bytes
  Some (Dropped name.0, name.1)

unfoldable pub conflicts_at : List ℕ → Option (Event × List ℕ)
conflicts_at bytes = do
  name ← name_at bytes
  found ← found_at name.1
  Some (Conflicts name.0 found.0, found.1)

unfoldable pub state_at : List ℕ → Option (Event × List ℕ)
state_at bytes = do
  at ← vector_at bytes
  cut ← vector_at at.1
  floor ← vector_at cut.1
  precise ← vectors_at floor.1
  Some (State at.0 cut.0 floor.0 precise.0, precise.1)

unfoldable pub moved_at : List ℕ → Option (Event × List ℕ)
moved_at bytes = do
  client ← four_at bytes
  Some (Moved client.0, client.1)

unfoldable pub behind_at : List ℕ → Option (Event × List ℕ)
behind_at bytes = do
  client ← four_at bytes
  needs ← vector_at client.1
  has ← vector_at needs.1
  Some (Behind client.0 needs.0 has.0, has.1)

-- ---- an event by its kind, in two halves

unfoldable pub late_event_by : ℕ → List ℕ → Option (Event × List ℕ)
late_event_by kind bytes =
    cond (kind == 9) (down_at bytes)
    (cond (kind == 10) (answered_at bytes)
    (cond (kind == 11) (cut_at bytes)
    (cond (kind == 12) (dropped_at bytes)
    (cond (kind == 13) (conflicts_at bytes)
    (cond (kind == 14) (state_at bytes)
    (cond (kind == 15) (moved_at bytes)
    (cond (kind == 16) (behind_at bytes) None)))))))

unfoldable pub event_by : ℕ → List ℕ → Option (Event × List ℕ)
event_by kind bytes =
    cond (kind == 1) (wrote_at bytes)
    (cond (kind == 2) (attached_at bytes)
    (cond (kind == 3) (sent_at bytes)
    (cond (kind == 4) (idle_at bytes)
    (cond (kind == 5) (stale_at bytes)
    (cond (kind == 6) (accepted_at bytes)
    (cond (kind == 7) (gapped_at bytes)
    (cond (kind == 8) (missing_at bytes) (late_event_by kind bytes))))))))

unfoldable pub event_at : List ℕ → Option (Event × List ℕ)
event_at bytes = do
  kind ← byte_at bytes
  event_by kind.0 kind.1

-- ---- an entry with its node

unfoldable pub node_at : List ℕ → Option (ℕ × List ℕ)
node_at bytes = do
  node ← byte_at bytes
  given (nat_lt node.0 32) node

unfoldable pub entry_at : List ℕ → Option ((ℕ × Entry) × List ℕ)
entry_at bytes = do
  node ← node_at bytes
  time ← eight_at node.1
  caller ← four_at time.1
  event ← event_at caller.1
  Some ((node.0, record { time = time.0; caller = caller.0; event = event.0 }), event.1)

-- the entry of which all the bytes are the spelling
unfoldable pub whole_entry_at : List ℕ → Option (ℕ × Entry)
whole_entry_at bytes = do
  entry ← entry_at bytes
  given (length entry.1 == 0) entry.0
