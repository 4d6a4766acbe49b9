-- What a line is read as: an event, and its node where the line names it. What the line does not show is left at 0.
use Rattle.std.specs.Prelude.{ℕ, ◌+◌, Bool, true, false, cond, List, [], ◌∷◌, Option, Some, None, codes}
use Rattle.std.specs.Str.{bytes_eq}
use Rattle.pr_vectors.specs.Vector.{zero_vector}
use Rattle.pr_inval.specs.declared.kind.Kind.{Kind}
use Rattle.pr_inval.specs.declared.kind.Kind.TheVariants.{Precise, Imprecise, Checkpoint, Body}
use Rattle.pr_inval.specs.declared.msg.Msg.{Msg}
use Rattle.pr_script.specs.declared.decl.Decl.{Decl}
use Rattle.pr_script.specs.declared.kind.Kind.TheVariants as kinds
use Rattle.pr_script.specs.Fields.{name_of, number_in, value_of}
use Rattle.pr_script.specs.Labels.{number_among}
use Rattle.pr_script.specs.Texts.{last_text}
use Rattle.pr_story.specs.declared.cause.Cause.{Cause}
use Rattle.pr_story.specs.declared.cause.Cause.TheVariants as causes
use Rattle.pr_story.specs.declared.event.Event.{Event}
use Rattle.pr_story.specs.declared.event.Event.TheVariants.{Wrote, Attached, Sent, Idle, Stale, Accepted, Gapped, Missing, Down, Answered, Behind, Moved, Cut, Dropped, Conflicts, State}
use Rattle.pr_story.specs.declared.found.Found.{Found}
use Rattle.pr_story.specs.declared.found.Found.TheVariants as founds
use Rattle.pr_story.specs.declared.reply.Reply.{Reply}
use Rattle.pr_story.specs.declared.reply.Reply.TheVariants as replies
use Rattle.pr_text.specs.Lines.{sentence}
use Rattle.pr_check.specs.Said.{said_of}
use Rattle.pr_check.specs.declared.said.Said.{Said}
use Rattle.pr_check.specs.declared.told.Told.{Told}
use Rattle.pr_check.specs.Fields.{◌>>=◌, behind, field_at, items_of, parts}
use Rattle.pr_check.specs.Parts.{pairs_read, prev_read, rows_read, target_read, stamp_read, vector_read}

-- ---- what names no declaration

-- a message that tells nothing from here on
abbrev pub empty_from : List ℕ → Kind
empty_from from = Imprecise from zero_vector []

abbrev pub msg_with : ℕ → ℕ → Kind → Msg
msg_with stream number kind = record { time = 0; stream = stream; number = number; kind = kind }

-- how many fields an answer has
abbrev pub width_of : Reply → ℕ
width_of replies.Never = 1
width_of (replies.Value stamp bytes) = 3
width_of (replies.Imprecise untold) = 2
width_of (replies.Body stamp) = 2
width_of (replies.Gone stamp) = 2

abbrev pub cause_read : List ℕ → Option Cause
cause_read word =
    cond (bytes_eq word (codes "failed")) (Some causes.Failed) (
    cond (bytes_eq word (codes "ended")) (Some causes.Ended) (
    cond (bytes_eq word (codes "gap")) (Some causes.Gap) None))

abbrev pub count_at : ℕ → List ℕ → Option ℕ
count_at n line = number_in 0 18446744073709551615 (field_at n line)

-- of one set at least
abbrev pub state_with : List ℕ → List ℕ → List ℕ → List (List ℕ) → Option Event
state_with at cut floor [] = None
state_with at cut floor (v ∷ vs) = Some (State at cut floor (v ∷ vs))

unfoldable pub dropped_of : List ℕ → Option Event
dropped_of line = name_of (field_at 2 line) >>= λ name. Some (Dropped name)

abbrev pub placed : ℕ → Option Event → Option Told
placed n read = read >>= λ event. Some (record { node = n; event = event })

module _ (ds : List Decl) where
  -- ---- messages

  unfoldable pub precise_of : Bool → List ℕ → Option Kind
  precise_of gone rest = do
    name ← name_of (field_at 1 rest)
    stamp ← stamp_read ds (field_at 2 rest)
    prev ← prev_read ds (field_at 4 rest)
    from ← vector_read ds (field_at 6 rest)
    to ← vector_read ds (field_at 8 rest)
    Some (Precise from to (record { name = name; stamp = stamp; prev = prev; gone = gone }))

  unfoldable pub imprecise_of : List ℕ → Option Kind
  imprecise_of rest = do
    target ← target_read (field_at 1 rest)
    from ← vector_read ds (field_at 3 rest)
    to ← vector_read ds (field_at 5 rest)
    Some (Imprecise from to target)

  unfoldable pub checkpoint_of : List ℕ → Option Kind
  checkpoint_of rest = do
    target ← target_read (field_at 1 rest)
    to ← vector_read ds (field_at 3 rest)
    floor ← vector_read ds (field_at 5 rest)
    rows ← rows_read ds (field_at 7 rest)
    Some (Checkpoint to target floor rows)

  unfoldable pub body_of : List ℕ → Option Kind
  body_of rest = do
    name ← name_of (field_at 1 rest)
    stamp ← stamp_read ds (field_at 2 rest)
    bytes ← value_of (last_text (field_at 3 rest))
    Some (Body name stamp bytes)

  unfoldable pub kind_with : List ℕ → List ℕ → Option Kind
  kind_with word rest =
      cond (bytes_eq word (codes "precise")) (precise_of false rest) (
      cond (bytes_eq word (codes "gone")) (precise_of true rest) (
      cond (bytes_eq word (codes "imprecise")) (imprecise_of rest) (
      cond (bytes_eq word (codes "checkpoint")) (checkpoint_of rest) (
      cond (bytes_eq word (codes "body")) (body_of rest) None))))

  -- what stands behind a message's stream and number
  abbrev pub kind_read : List ℕ → Option Kind
  kind_read rest = kind_with (field_at 0 rest) rest

  -- ---- answers

  unfoldable pub value_of_read : List ℕ → Option Reply
  value_of_read rest = do
    stamp ← stamp_read ds (field_at 1 rest)
    bytes ← value_of (last_text (field_at 2 rest))
    Some (replies.Value stamp bytes)

  unfoldable pub reply_with : List ℕ → List ℕ → Option Reply
  reply_with word rest =
      cond (bytes_eq word (codes "never")) (Some replies.Never) (
      cond (bytes_eq word (codes "value")) (value_of_read rest) (
      cond (bytes_eq word (codes "imprecise")) (stamp_read ds (field_at 1 rest) >>= λ p. Some (replies.Imprecise p)) (
      cond (bytes_eq word (codes "body")) (stamp_read ds (field_at 1 rest) >>= λ p. Some (replies.Body p)) (
      cond (bytes_eq word (codes "gone")) (stamp_read ds (field_at 1 rest) >>= λ p. Some (replies.Gone p)) None))))

  unfoldable pub found_read : List ℕ → Option Found
  found_read rest =
      cond (bytes_eq (field_at 0 rest) (codes "imprecise")) (stamp_read ds (field_at 1 rest) >>= λ p. Some (founds.Imprecise p))
      (pairs_read ds (field_at 0 rest) >>= λ pairs. Some (founds.Pairs pairs))

  -- ---- events

  abbrev pub stream_at : List ℕ → Option ℕ
  stream_at line = number_among kinds.Stream ds (field_at 1 line)

  abbrev pub client_at : List ℕ → Option ℕ
  client_at line = number_among kinds.Client ds (field_at 1 line)

  abbrev pub node_at : List ℕ → Option ℕ
  node_at line = number_among kinds.Node ds (field_at 1 line)

  -- a write's fields behind its text, or a delete's behind its name
  unfoldable pub wrote_with : Bool → List ℕ → List ℕ → List ℕ → Option Event
  wrote_with gone body line rest = do
    client ← client_at line
    name ← name_of (field_at 2 line)
    stamp ← stamp_read ds (field_at 0 rest)
    prev ← prev_read ds (field_at 2 rest)
    after ← vector_read ds (field_at 4 rest)
    Some (Wrote client (record { name = name; stamp = stamp; prev = prev; gone = gone }) body after)

  unfoldable pub write_of : List ℕ → Option Event
  write_of line = do
    body ← value_of (last_text (field_at 3 line))
    wrote_with false body line (behind 4 line)

  unfoldable pub delete_of : List ℕ → Option Event
  delete_of line = wrote_with true [] line (behind 3 line)

  unfoldable pub attached_of : List ℕ → Option Event
  attached_of line = do
    stream ← stream_at line
    at ← vector_read ds (field_at 3 line)
    Some (Attached stream at)

  unfoldable pub sent_of : List ℕ → Option Event
  sent_of line = do
    stream ← stream_at line
    number ← count_at 2 line
    kind ← kind_read (behind 3 line)
    Some (Sent (msg_with stream number kind))

  unfoldable pub idle_of : List ℕ → Option Event
  idle_of line = stream_at line >>= λ stream. Some (Idle stream)

  unfoldable pub stale_of : List ℕ → Option Event
  stale_of line = do
    stream ← stream_at line
    cut ← vector_read ds (field_at 3 line)
    Some (Stale stream cut)

  unfoldable pub accepted_of : List ℕ → Option Event
  accepted_of line = do
    stream ← stream_at line
    number ← count_at 2 line
    at ← vector_read ds (field_at 4 line)
    Some (Accepted (msg_with stream number (empty_from zero_vector)) at)

  unfoldable pub gapped_of : List ℕ → Option Event
  gapped_of line = do
    stream ← stream_at line
    number ← count_at 2 line
    from ← vector_read ds (field_at 4 line)
    has ← vector_read ds (field_at 6 line)
    Some (Gapped (msg_with stream number (empty_from from)) has)

  unfoldable pub missing_of : List ℕ → Option Event
  missing_of line = do
    stream ← stream_at line
    number ← count_at 2 line
    Some (Missing stream number)

  unfoldable pub down_of : List ℕ → Option Event
  down_of line = do
    stream ← stream_at line
    cause ← cause_read (field_at 2 line)
    Some (Down stream cause)

  unfoldable pub answered_of : List ℕ → Option Event
  answered_of line = do
    client ← client_at line
    name ← name_of (field_at 2 line)
    reply ← reply_with (field_at 3 line) (behind 3 line)
    at ← vector_read ds (field_at (width_of reply + 4) line)
    Some (Answered client name reply at)

  unfoldable pub behind_of : List ℕ → Option Event
  behind_of line = do
    client ← client_at line
    needs ← vector_read ds (field_at 3 line)
    has ← vector_read ds (field_at 5 line)
    Some (Behind client needs has)

  unfoldable pub cut_of : List ℕ → Option Event
  cut_of line = vector_read ds (field_at 3 line) >>= λ at. Some (Cut at)

  unfoldable pub conflicts_of : List ℕ → Option Event
  conflicts_of line = do
    name ← name_of (field_at 2 line)
    found ← found_read (behind 3 line)
    Some (Conflicts name found)

  unfoldable pub state_of : List ℕ → Option Event
  state_of line = do
    at ← vector_read ds (field_at 3 line)
    cut ← vector_read ds (field_at 5 line)
    floor ← vector_read ds (field_at 7 line)
    precise ← items_of (vector_read ds) (parts 32 (behind 9 line))
    state_with at cut floor precise

  -- ---- lines

  unfoldable pub moved_of : List ℕ → Option Told
  moved_of line = do
    client ← client_at line
    node ← number_among kinds.Node ds (field_at 2 line)
    Some (record { node = node; event = Moved client })

  unfoldable pub at_node : List ℕ → List ℕ → Option Event
  at_node word line =
      cond (bytes_eq word (codes "cut")) (cut_of line) (
      cond (bytes_eq word (codes "drop")) (dropped_of line) (
      cond (bytes_eq word (codes "conflicts")) (conflicts_of line) (
      cond (bytes_eq word (codes "state")) (state_of line) None)))

  unfoldable pub node_told : List ℕ → List ℕ → Option Told
  node_told word line = do
    node ← node_at line
    placed node (at_node word line)

  unfoldable pub client_told : List ℕ → List ℕ → Option Told
  client_told word line =
      cond (bytes_eq word (codes "write")) (placed 0 (write_of line)) (
      cond (bytes_eq word (codes "delete")) (placed 0 (delete_of line)) (
      cond (bytes_eq word (codes "read")) (placed 0 (answered_of line)) (
      cond (bytes_eq word (codes "behind")) (placed 0 (behind_of line)) (
      cond (bytes_eq word (codes "move")) (moved_of line) (node_told word line)))))

  unfoldable pub message_told : List ℕ → List ℕ → Option Told
  message_told word line =
      cond (bytes_eq word (codes "send")) (placed 0 (sent_of line)) (
      cond (bytes_eq word (codes "accept")) (placed 0 (accepted_of line)) (
      cond (bytes_eq word (codes "gap")) (placed 0 (gapped_of line)) (
      cond (bytes_eq word (codes "missing")) (placed 0 (missing_of line)) (client_told word line))))

  unfoldable pub stream_told : List ℕ → List ℕ → Option Told
  stream_told word line =
      cond (bytes_eq word (codes "attach")) (placed 0 (attached_of line)) (
      cond (bytes_eq word (codes "idle")) (placed 0 (idle_of line)) (
      cond (bytes_eq word (codes "stale")) (placed 0 (stale_of line)) (
      cond (bytes_eq word (codes "down")) (placed 0 (down_of line)) (message_told word line))))

  unfoldable pub told_of : List ℕ → Option Told
  told_of line = stream_told (field_at 0 line) line

-- what the event says, where the line is its line
abbrev pub said_if : List Decl → ℕ → Event → List ℕ → Option Said
said_if ds n event line = cond (bytes_eq (sentence ds n event) line) (Some (said_of n event)) None
