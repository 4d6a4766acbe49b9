-- The line of each event.
use Rattle.std.specs.Prelude.{ℕ, List, [], ◌∷◌, ◌++◌, map, Bool, true, false, codes, decimal, cond}
use Rattle.pr_sets.specs.Text.{set_text}
use Rattle.pr_inval.specs.Points.{from_of}
use Rattle.pr_inval.specs.declared.kind.Kind.{Kind}
use Rattle.pr_inval.specs.declared.kind.Kind.TheVariants.{Precise, Imprecise, Checkpoint, Body}
use Rattle.pr_inval.specs.declared.write_rec.WriteRec.{WriteRec}
use Rattle.pr_script.specs.declared.decl.Decl.{Decl}
use Rattle.pr_story.specs.declared.event.Event.{Event}
use Rattle.pr_story.specs.declared.event.Event.TheVariants.{Wrote, Attached, Sent, Idle, Stale, Accepted, Gapped, Missing, Down, Answered, Behind, Moved, Cut, Dropped, Conflicts, State}
use Rattle.pr_story.specs.declared.cause.Cause.{Cause}
use Rattle.pr_story.specs.declared.cause.Cause.TheVariants as causes
use Rattle.pr_story.specs.declared.reply.Reply.{Reply}
use Rattle.pr_story.specs.declared.reply.Reply.TheVariants as replies
use Rattle.pr_story.specs.declared.found.Found.{Found}
use Rattle.pr_story.specs.declared.found.Found.TheVariants as founds
use Rattle.pr_script.specs.declared.kind.Kind.TheVariants as kinds
use Rattle.pr_script.specs.Printing.{label_text as label, quoted}
use Rattle.pr_text.specs.Texts.{pairs_text, prev_text, rows_text, stamp_text, vector_text, more}

-- the line's first word, which tells the kind of event
abbrev pub word_of : Event → List ℕ
word_of (Wrote client write body after) = cond write.gone (codes "delete") (codes "write")
word_of (Attached s at) = codes "attach"
word_of (Sent msg) = codes "send"
word_of (Idle s) = codes "idle"
word_of (Stale s cut) = codes "stale"
word_of (Accepted msg at) = codes "accept"
word_of (Gapped msg has) = codes "gap"
word_of (Missing s number) = codes "missing"
word_of (Down s cause) = codes "down"
word_of (Answered client name reply at) = codes "read"
word_of (Behind client needs has) = codes "behind"
word_of (Moved client) = codes "move"
word_of (Cut at) = codes "cut"
word_of (Dropped name) = codes "drop"
word_of (Conflicts name found) = codes "conflicts"
word_of (State at cut floor precise) = codes "state"

abbrev pub cause_text : Cause → List ℕ
cause_text causes.Failed = codes "failed"
cause_text causes.Ended = codes "ended"
cause_text causes.Gap = codes "gap"

module _ (ds : List Decl) where
  -- a write's stamp, and the newest one of its name before it
  abbrev pub stamp_fields : WriteRec → List (List ℕ)
  stamp_fields w = stamp_text ds w.stamp ∷ codes "over" ∷ prev_text ds w.prev ∷ []

  -- a write's text; a delete has none
  abbrev pub body_fields : Bool → List ℕ → List (List ℕ)
  body_fields true body = []
  body_fields false body = quoted body ∷ []

  abbrev pub span_fields : List ℕ → List ℕ → List (List ℕ)
  span_fields from to = codes "from" ∷ vector_text ds from ∷ codes "to" ∷ vector_text ds to ∷ []

  abbrev pub kind_fields : Kind → List (List ℕ)
  kind_fields (Precise from to write) = cond write.gone (codes "gone") (codes "precise") ∷ write.name ∷ (stamp_fields write ++ span_fields from to)
  kind_fields (Imprecise from to target) = codes "imprecise" ∷ set_text target ∷ span_fields from to
  kind_fields (Checkpoint to target floor rows) =
      codes "checkpoint" ∷ set_text target ∷ codes "to" ∷ vector_text ds to ∷ codes "floor" ∷ vector_text ds floor ∷ codes "rows" ∷ rows_text ds rows ∷ []
  kind_fields (Body name stamp bytes) = codes "body" ∷ name ∷ stamp_text ds stamp ∷ quoted bytes ∷ []

  abbrev pub reply_fields : Reply → List (List ℕ)
  reply_fields replies.Never = codes "never" ∷ []
  reply_fields (replies.Value stamp bytes) = codes "value" ∷ stamp_text ds stamp ∷ quoted bytes ∷ []
  reply_fields (replies.Imprecise untold) = codes "imprecise" ∷ stamp_text ds untold ∷ []
  reply_fields (replies.Body stamp) = codes "body" ∷ stamp_text ds stamp ∷ []
  reply_fields (replies.Gone stamp) = codes "gone" ∷ stamp_text ds stamp ∷ []

  abbrev pub found_fields : Found → List (List ℕ)
  found_fields (founds.Pairs pairs) = pairs_text ds pairs ∷ []
  found_fields (founds.Imprecise untold) = codes "imprecise" ∷ stamp_text ds untold ∷ []

  -- what stands behind the first word, for an event at node n
  abbrev pub fields_of : ℕ → Event → List (List ℕ)
  fields_of n (Wrote client write body after) =
      label kinds.Client ds client ∷ write.name ∷ (body_fields write.gone body ++ (stamp_fields write ++ codes "after" ∷ vector_text ds after ∷ []))
  fields_of n (Attached s at) = label kinds.Stream ds s ∷ codes "at" ∷ vector_text ds at ∷ []
  fields_of n (Sent msg) = label kinds.Stream ds msg.stream ∷ decimal msg.number ∷ kind_fields msg.kind
  fields_of n (Idle s) = label kinds.Stream ds s ∷ []
  fields_of n (Stale s cut) = label kinds.Stream ds s ∷ codes "cut" ∷ vector_text ds cut ∷ []
  fields_of n (Accepted msg at) = label kinds.Stream ds msg.stream ∷ decimal msg.number ∷ codes "at" ∷ vector_text ds at ∷ []
  fields_of n (Gapped msg has) =
      label kinds.Stream ds msg.stream ∷ decimal msg.number ∷ codes "needs" ∷ vector_text ds (from_of msg.kind) ∷ codes "has" ∷ vector_text ds has ∷ []
  fields_of n (Missing s number) = label kinds.Stream ds s ∷ decimal number ∷ []
  fields_of n (Down s cause) = label kinds.Stream ds s ∷ cause_text cause ∷ []
  fields_of n (Answered client name reply at) =
      label kinds.Client ds client ∷ name ∷ (reply_fields reply ++ codes "at" ∷ vector_text ds at ∷ [])
  fields_of n (Behind client needs has) =
      label kinds.Client ds client ∷ codes "needs" ∷ vector_text ds needs ∷ codes "has" ∷ vector_text ds has ∷ []
  fields_of n (Moved client) = label kinds.Client ds client ∷ label kinds.Node ds n ∷ []
  fields_of n (Cut at) = label kinds.Node ds n ∷ codes "at" ∷ vector_text ds at ∷ []
  fields_of n (Dropped name) = label kinds.Node ds n ∷ name ∷ []
  fields_of n (Conflicts name found) = label kinds.Node ds n ∷ name ∷ found_fields found
  fields_of n (State at cut floor precise) =
      label kinds.Node ds n ∷ codes "at" ∷ vector_text ds at ∷ codes "cut" ∷ vector_text ds cut ∷ codes "floor" ∷ vector_text ds floor
      ∷ codes "precise" ∷ map (vector_text ds) precise

  -- what the line of an event at node n says: the word, and each field behind a space
  abbrev pub sentence : ℕ → Event → List ℕ
  sentence n event = word_of event ++ more 32 (fields_of n event)

  abbrev pub line_text : ℕ → Event → List ℕ
  line_text n event = sentence n event ++ 10 ∷ []
