-- The printed line of an event is read again, but for what it does not show.
use Rattle.std.proofs.Common.{◌≡◌, ℕ, ◌+◌, Bool, true, false, cond, List, [], ◌∷◌, ◌++◌, drop, get_or, map, inl, Some, refl, ap, ◌∙◌, arith}
use Rattle.std.specs.Prelude.{All, codes}
use Rattle.std.proofs.lemmas.Bool.Decides.{nat_tests}
use Rattle.std.proofs.lemmas.List.Elements.{All-head, All-tail}
use Rattle.pr_vectors.specs.Vector.{IsVector, zero_vector}
use Rattle.pr_inval.specs.Points.{from_of}
use Rattle.pr_inval.specs.declared.kind.Kind.{Kind}
use Rattle.pr_inval.specs.declared.kind.Kind.TheVariants.{Precise, Imprecise, Checkpoint, Body}
use Rattle.pr_inval.specs.declared.msg.Msg.{Msg}
use Rattle.pr_inval.specs.declared.write_rec.WriteRec.{WriteRec}
use Rattle.pr_script.specs.declared.decl.Decl.{Decl}
use Rattle.pr_script.specs.declared.kind.Kind.TheVariants as kinds
use Rattle.pr_script.specs.Labels.{AreLabels, labels_of}
use Rattle.pr_script.specs.Printing.{label_text as label}
use Rattle.pr_story.specs.Counts.{HasKind, HasVector}
use Rattle.pr_story.specs.Ranges.{IsKind}
use Rattle.pr_story.specs.declared.cause.Cause.{Cause}
use Rattle.pr_story.specs.declared.cause.Cause.TheVariants as causes
use Rattle.pr_story.specs.declared.event.Event.{Event}
use Rattle.pr_story.specs.declared.event.Event.TheVariants.{Wrote, Attached, Sent, Idle, Stale, Accepted, Gapped, Missing, Down, Answered, Behind, Moved, Cut, Dropped, Conflicts, State}
use Rattle.pr_story.specs.declared.reply.Reply.{Reply}
use Rattle.pr_story.specs.declared.reply.Reply.TheVariants as replies
use Rattle.pr_story.specs.declared.found.Found.{Found}
use Rattle.pr_text.specs.Lines.{body_fields, cause_text, fields_of, sentence, stamp_fields, word_of}
use Rattle.pr_text.specs.Numbers.{nodes_of}
use Rattle.pr_text.specs.Texts.{clocks, joined, vector_text}
use Rattle.pr_text.proofs.Cut.{is_not, is_plain, of_all}
use Rattle.pr_text.proofs.Messages.{all_both}
use Rattle.pr_text.proofs.Same.{AllItems, small_clocks, vector_plain}
use Rattle.pr_text.proofs.Fields.{AllClosed}
use Rattle.pr_text.proofs.Sentences.{event_closed, word_plain}
use Rattle.pr_check.specs.Events.{accepted_of, answered_of, at_node, attached_of, behind_of, cause_read, client_told, conflicts_of, cut_of, delete_of, down_of, dropped_of, empty_from, found_read, gapped_of, idle_of, kind_read, message_told, missing_of, moved_of, msg_with, node_told, reply_with, sent_of, stale_of, state_of, state_with, stream_told, told_of, width_of, write_of, wrote_with}
use Rattle.pr_check.specs.Fields.{behind, field_at, items_of, parts}
use Rattle.pr_check.specs.Lines.{IsTellableAt}
use Rattle.pr_check.specs.Parts.{vector_read}
use Rattle.pr_check.specs.declared.told.Told.{Told}
use Rattle.pr_check.proofs.FieldsAgain.{behind_again, fields_again, fields_behind}
use Rattle.pr_check.proofs.KindsAgain.{found_again, kind_again, reply_again}
use Rattle.pr_check.proofs.PartsAgain.{AreParts, items_again, listed_some, parts_again}
use Rattle.pr_check.proofs.ReadAgain.{label_at, name_at, number_at, prev_at, stamp_at, text_at, vector_at}
use Rattle.pr_check.proofs.VectorLoops.{zero_declared, zero_is}
use Rattle.pr_check.proofs.VectorsAgain.{vector_again}

-- what is read of the line of an event
abbrev pub seen : ℕ → Event → Told
seen n (Wrote client write body after) = record { node = 0; event = Wrote client write (cond write.gone [] body) after }
seen n (Sent msg) = record { node = 0; event = Sent (msg_with msg.stream msg.number msg.kind) }
seen n (Accepted msg at) = record { node = 0; event = Accepted (msg_with msg.stream msg.number (empty_from zero_vector)) at }
seen n (Gapped msg has) = record { node = 0; event = Gapped (msg_with msg.stream msg.number (empty_from (from_of msg.kind))) has }
seen n (Moved client) = record { node = n; event = Moved client }
seen n (Cut at) = record { node = n; event = Cut at }
seen n (Dropped name) = record { node = n; event = Dropped name }
seen n (Conflicts name found) = record { node = n; event = Conflicts name found }
seen n (State at cut floor precise) = record { node = n; event = State at cut floor precise }
seen n event = record { node = 0; event = event }

module _ (ds : List Decl) (a : AreLabels ds) where
  -- the fields of the event's line
  abbrev line_fields : ℕ → Event → List (List ℕ)
  line_fields n e = word_of e ∷ fields_of ds n e

  closed : (n : ℕ) (e : Event) → IsTellableAt ds n e → AllClosed (line_fields n e)
  closed n e t = (inl (word_plain e), event_closed ds a n e (record { node = t.0; range = t.1.range; numbers = t.1.declared }))

  -- the event's line is read as what it shows
  abbrev Again : ℕ → Event → Type 0
  Again n e = told_of ds (sentence ds n e) ≡ Some (seen n e)

  -- ---- events of streams

  attached_again : (n : ℕ) (s : ℕ) (at : List ℕ) → IsTellableAt ds n (Attached s at) → Again n (Attached s at)
  unfolding told_of stream_told attached_of
  attached_again n s at t =
      let e = Attached s at in
      let line = sentence ds n e in
      let fs = line_fields n e in
      let h = fields_again fs (closed n e t) in
      rw (h 0, label_at ds a line fs h 1 kinds.Stream s t.1.declared.0 refl, vector_at ds a line fs h 3 at t.1.range.1 t.1.declared.1 refl) refl

  idle_again : (n : ℕ) (s : ℕ) → IsTellableAt ds n (Idle s) → Again n (Idle s)
  unfolding told_of stream_told idle_of
  idle_again n s t =
      let e = Idle s in
      let line = sentence ds n e in
      let fs = line_fields n e in
      let h = fields_again fs (closed n e t) in
      rw (h 0, label_at ds a line fs h 1 kinds.Stream s t.1.declared refl) refl

  stale_again : (n : ℕ) (s : ℕ) (cut : List ℕ) → IsTellableAt ds n (Stale s cut) → Again n (Stale s cut)
  unfolding told_of stream_told stale_of
  stale_again n s cut t =
      let e = Stale s cut in
      let line = sentence ds n e in
      let fs = line_fields n e in
      let h = fields_again fs (closed n e t) in
      rw (h 0, label_at ds a line fs h 1 kinds.Stream s t.1.declared.0 refl, vector_at ds a line fs h 3 cut t.1.range.1 t.1.declared.1 refl) refl

  cause_again : (c : Cause) → cause_read (cause_text c) ≡ Some c
  cause_again causes.Failed = refl
  cause_again causes.Ended = refl
  cause_again causes.Gap = refl

  down_again : (n : ℕ) (s : ℕ) (cause : Cause) → IsTellableAt ds n (Down s cause) → Again n (Down s cause)
  unfolding told_of stream_told down_of
  down_again n s cause t =
      let e = Down s cause in
      let line = sentence ds n e in
      let fs = line_fields n e in
      let h = fields_again fs (closed n e t) in
      let why : cause_read (field_at 2 line) ≡ Some cause = ap cause_read (h 2) ∙ cause_again cause in
      rw (h 0, label_at ds a line fs h 1 kinds.Stream s t.1.declared refl, why) refl

  -- ---- messages

  sent_again : (n : ℕ) (msg : Msg) → IsTellableAt ds n (Sent msg) → Again n (Sent msg)
  unfolding told_of stream_told message_told sent_of
  sent_again n msg t =
      let e = Sent msg in
      let line = sentence ds n e in
      let fs = line_fields n e in
      let h = fields_again fs (closed n e t) in
      let kind : kind_read ds (behind 3 line) ≡ Some msg.kind = kind_again ds a (behind 3 line) msg.kind t.1.range.3 t.1.declared.1 (fields_behind 3 fs (closed n e t)) in
      rw (h 0, label_at ds a line fs h 1 kinds.Stream msg.stream t.1.declared.0 refl, number_at ds a line fs h 2 msg.number t.1.range.2 refl, kind) refl

  accepted_again : (n : ℕ) (msg : Msg) (at : List ℕ) → IsTellableAt ds n (Accepted msg at) → Again n (Accepted msg at)
  unfolding told_of stream_told message_told accepted_of
  accepted_again n msg at t =
      let e = Accepted msg at in
      let line = sentence ds n e in
      let fs = line_fields n e in
      let h = fields_again fs (closed n e t) in
      rw (h 0, label_at ds a line fs h 1 kinds.Stream msg.stream t.1.declared.0.0 refl, number_at ds a line fs h 2 msg.number t.1.range.0.2 refl, vector_at ds a line fs h 4 at t.1.range.1 t.1.declared.1 refl) refl

  from_again : (k : Kind) → IsKind k → HasKind (nodes_of ds) k → IsVector (from_of k) × HasVector (nodes_of ds) (from_of k)
  from_again (Precise from to write) i d = (i.0, d.0)
  from_again (Imprecise from to target) i d = (i.0, d.0)
  from_again (Checkpoint to target floor rows) i d = (zero_is, zero_declared (nodes_of ds))
  from_again (Body name stamp bytes) i d = (zero_is, zero_declared (nodes_of ds))

  gapped_again : (n : ℕ) (msg : Msg) (has : List ℕ) → IsTellableAt ds n (Gapped msg has) → Again n (Gapped msg has)
  unfolding told_of stream_told message_told gapped_of
  gapped_again n msg has t =
      let e = Gapped msg has in
      let line = sentence ds n e in
      let fs = line_fields n e in
      let h = fields_again fs (closed n e t) in
      let from = from_again msg.kind t.1.range.0.3 t.1.declared.0.1 in
      rw (h 0, label_at ds a line fs h 1 kinds.Stream msg.stream t.1.declared.0.0 refl, number_at ds a line fs h 2 msg.number t.1.range.0.2 refl, vector_at ds a line fs h 4 (from_of msg.kind) from.0 from.1 refl, vector_at ds a line fs h 6 has t.1.range.1 t.1.declared.1 refl) refl

  missing_again : (n : ℕ) (s : ℕ) (number : ℕ) → IsTellableAt ds n (Missing s number) → Again n (Missing s number)
  unfolding told_of stream_told message_told missing_of
  missing_again n s number t =
      let e = Missing s number in
      let line = sentence ds n e in
      let fs = line_fields n e in
      let h = fields_again fs (closed n e t) in
      rw (h 0, label_at ds a line fs h 1 kinds.Stream s t.1.declared refl, number_at ds a line fs h 2 number t.1.range.1 refl) refl

  -- ---- events of clients

  -- a write's fields behind its word, for a delete or a write
  abbrev wrote_fields : Bool → ℕ → WriteRec → List ℕ → List ℕ → List (List ℕ)
  wrote_fields g client w body after = cond g (codes "delete") (codes "write") ∷ label kinds.Client ds client ∷ w.name ∷ (body_fields ds g body ++ (stamp_fields ds w ++ codes "after" ∷ vector_text ds after ∷ []))

  wrote_again : (g : Bool) (n client : ℕ) (w : WriteRec) (body after : List ℕ) → IsTellableAt ds n (Wrote client w body after) → AllClosed (wrote_fields g client w body after)
      → told_of ds (joined 32 (wrote_fields g client w body after)) ≡ Some (record { node = 0; event = Wrote client (record { name = w.name; stamp = w.stamp; prev = w.prev; gone = g }) (cond g [] body) after })
  unfolding told_of stream_told message_told client_told write_of delete_of wrote_with
  wrote_again true n client w body after t c =
      let fs = wrote_fields true client w body after in
      let line = joined 32 fs in
      let h = fields_again fs c in
      let rest = behind 3 line in
      let k = fields_behind 3 fs c in
      rw (
        h 0,
        label_at ds a line fs h 1 kinds.Client client t.1.declared.0 refl,
        name_at ds a line fs h 2 w.name t.1.range.0.0 refl,
        stamp_at ds a rest (drop 3 fs) k 0 w.stamp t.1.range.0.1 t.1.declared.1.0 refl,
        prev_at ds a rest (drop 3 fs) k 2 w.prev t.1.range.0.2 t.1.declared.1.1 refl,
        vector_at ds a rest (drop 3 fs) k 4 after t.1.range.3 t.1.declared.2 refl,
      ) refl
  wrote_again false n client w body after t c =
      let fs = wrote_fields false client w body after in
      let line = joined 32 fs in
      let h = fields_again fs c in
      let rest = behind 4 line in
      let k = fields_behind 4 fs c in
      rw (
        h 0,
        text_at ds a line fs h 3 body t.1.range.1 refl,
        label_at ds a line fs h 1 kinds.Client client t.1.declared.0 refl,
        name_at ds a line fs h 2 w.name t.1.range.0.0 refl,
        stamp_at ds a rest (drop 4 fs) k 0 w.stamp t.1.range.0.1 t.1.declared.1.0 refl,
        prev_at ds a rest (drop 4 fs) k 2 w.prev t.1.range.0.2 t.1.declared.1.1 refl,
        vector_at ds a rest (drop 4 fs) k 4 after t.1.range.3 t.1.declared.2 refl,
      ) refl

  -- the vector stands behind the answer
  at_place : (client : ℕ) (name : List ℕ) (r : Reply) (at : List ℕ) (n : ℕ) → get_or (line_fields n (Answered client name r at)) (width_of r + 4) [] ≡ vector_text ds at
  at_place client name replies.Never at n = refl
  at_place client name (replies.Value stamp bytes) at n = refl
  at_place client name (replies.Imprecise untold) at n = refl
  at_place client name (replies.Body stamp) at n = refl
  at_place client name (replies.Gone stamp) at n = refl

  answered_again : (n : ℕ) (client : ℕ) (name : List ℕ) (reply : Reply) (at : List ℕ) → IsTellableAt ds n (Answered client name reply at) → Again n (Answered client name reply at)
  unfolding told_of stream_told message_told client_told answered_of
  answered_again n client name reply at t =
      let e = Answered client name reply at in
      let line = sentence ds n e in
      let fs = line_fields n e in
      let h = fields_again fs (closed n e t) in
      let read : reply_with ds (field_at 3 line) (behind 3 line) ≡ Some reply =
      reply_again ds a (behind 3 line) (field_at 3 line) reply (codes "at" ∷ vector_text ds at ∷ []) t.1.range.2 t.1.declared.1 (fields_behind 3 fs (closed n e t)) (h 3) in
      rw (h 0, label_at ds a line fs h 1 kinds.Client client t.1.declared.0 refl, name_at ds a line fs h 2 name t.1.range.1 refl, read, vector_at ds a line fs h (width_of reply + 4) at t.1.range.3 t.1.declared.2 (at_place client name reply at n)) refl

  refused_again : (n : ℕ) (client : ℕ) (needs : List ℕ) (has : List ℕ) → IsTellableAt ds n (Behind client needs has) → Again n (Behind client needs has)
  unfolding told_of stream_told message_told client_told behind_of
  refused_again n client needs has t =
      let e = Behind client needs has in
      let line = sentence ds n e in
      let fs = line_fields n e in
      let h = fields_again fs (closed n e t) in
      rw (h 0, label_at ds a line fs h 1 kinds.Client client t.1.declared.0 refl, vector_at ds a line fs h 3 needs t.1.range.1 t.1.declared.1 refl, vector_at ds a line fs h 5 has t.1.range.2 t.1.declared.2 refl) refl

  moved_again : (n : ℕ) (client : ℕ) → IsTellableAt ds n (Moved client) → Again n (Moved client)
  unfolding told_of stream_told message_told client_told moved_of
  moved_again n client t =
      let e = Moved client in
      let line = sentence ds n e in
      let fs = line_fields n e in
      let h = fields_again fs (closed n e t) in
      rw (h 0, label_at ds a line fs h 1 kinds.Client client t.1.declared refl, label_at ds a line fs h 2 kinds.Node n t.0 refl) refl

  -- ---- events of nodes

  cut_again : (n : ℕ) (at : List ℕ) → IsTellableAt ds n (Cut at) → Again n (Cut at)
  unfolding told_of stream_told message_told client_told node_told at_node cut_of
  cut_again n at t =
      let e = Cut at in
      let line = sentence ds n e in
      let fs = line_fields n e in
      let h = fields_again fs (closed n e t) in
      rw (h 0, label_at ds a line fs h 1 kinds.Node n t.0 refl, vector_at ds a line fs h 3 at t.1.range t.1.declared refl) refl

  dropped_again : (n : ℕ) (name : List ℕ) → IsTellableAt ds n (Dropped name) → Again n (Dropped name)
  unfolding told_of stream_told message_told client_told node_told at_node dropped_of
  dropped_again n name t =
      let e = Dropped name in
      let line = sentence ds n e in
      let fs = line_fields n e in
      let h = fields_again fs (closed n e t) in
      rw (h 0, label_at ds a line fs h 1 kinds.Node n t.0 refl, name_at ds a line fs h 2 name t.1.range refl) refl

  conflicts_again : (n : ℕ) (name : List ℕ) (found : Found) → IsTellableAt ds n (Conflicts name found) → Again n (Conflicts name found)
  unfolding told_of stream_told message_told client_told node_told at_node conflicts_of
  conflicts_again n name found t =
      let e = Conflicts name found in
      let line = sentence ds n e in
      let fs = line_fields n e in
      let h = fields_again fs (closed n e t) in
      let read : found_read ds (behind 3 line) ≡ Some found = found_again ds a (behind 3 line) found t.1.range.1 t.1.declared (fields_behind 3 fs (closed n e t)) in
      rw (h 0, label_at ds a line fs h 1 kinds.Node n t.0 refl, name_at ds a line fs h 2 name t.1.range.0 refl, read) refl

  abbrev IsShownVector : List ℕ → Type 0
  IsShownVector v = IsVector v × HasVector (nodes_of ds) v

  space_not_plain : (b : ℕ) → is_plain b ≡ true → is_not 32 b ≡ true
  space_not_plain b e = grind (arith, nat_tests)

  vector_parts : (vs : List (List ℕ)) → All IsShownVector vs → AreParts 32 (map (vector_text ds) vs)
  vector_parts [] h = tt
  vector_parts (v ∷ vs) h =
      let d = All-head IsShownVector v vs h in (
        (
          of_all is_plain (is_not 32) (vector_text ds v) space_not_plain (vector_plain ds a v d),
          listed_some (clocks (labels_of kinds.Node ds) 0 v) (AllItems (labels_of kinds.Node ds) 0 v (a.each kinds.Node) (small_clocks ds a v d)),
        ),
        vector_parts vs (All-tail IsShownVector v vs h),
      )

  vectors_again : (vs : List (List ℕ)) → All IsVector vs → All (HasVector (nodes_of ds)) vs → items_of (vector_read ds) (parts 32 (joined 32 (map (vector_text ds) vs))) ≡ Some vs
  vectors_again vs i d =
      let both = all_both IsVector (HasVector (nodes_of ds)) IsShownVector (λ v r k. (r, k)) vs i d in
      ap (items_of (vector_read ds)) (parts_again 32 (map (vector_text ds) vs) (vector_parts vs both))
      ∙ items_again (vector_read ds) (vector_text ds) IsShownVector (λ v k. vector_again ds a v k.0 k.1) vs both

  some_sets : (at cut floor : List ℕ) (precise : List (List ℕ)) → (precise ≡ [] → ⊥) → state_with at cut floor precise ≡ Some (State at cut floor precise)
  some_sets at cut floor [] some = absurd (some refl)
  some_sets at cut floor (v ∷ vs) some = refl

  state_again : (n : ℕ) (at : List ℕ) (cut : List ℕ) (floor : List ℕ) (precise : List (List ℕ)) → IsTellableAt ds n (State at cut floor precise) → Again n (State at cut floor precise)
  unfolding told_of stream_told message_told client_told node_told at_node state_of
  state_again n at cut floor precise t =
      let e = State at cut floor precise in
      let line = sentence ds n e in
      let fs = line_fields n e in
      let h = fields_again fs (closed n e t) in
      let read : items_of (vector_read ds) (parts 32 (behind 9 line)) ≡ Some precise =
      ap (λ (b : List ℕ). items_of (vector_read ds) (parts 32 b)) (behind_again 9 fs (closed n e t)) ∙ vectors_again precise t.1.range.3 t.1.declared.3 in
      rw (h 0, label_at ds a line fs h 1 kinds.Node n t.0 refl, vector_at ds a line fs h 3 at t.1.range.0 t.1.declared.0 refl, vector_at ds a line fs h 5 cut t.1.range.1 t.1.declared.1 refl, vector_at ds a line fs h 7 floor t.1.range.2 t.1.declared.2 refl, read, some_sets at cut floor precise t.1.sets) refl

  -- ---- each event

  pub told_again : (n : ℕ) (e : Event) → IsTellableAt ds n e → Again n e
  told_again n (Wrote client w body after) t = wrote_again w.gone n client w body after t (closed n (Wrote client w body after) t)
  told_again n (Attached s at) t = attached_again n s at t
  told_again n (Sent msg) t = sent_again n msg t
  told_again n (Idle s) t = idle_again n s t
  told_again n (Stale s cut) t = stale_again n s cut t
  told_again n (Accepted msg at) t = accepted_again n msg at t
  told_again n (Gapped msg has) t = gapped_again n msg has t
  told_again n (Missing s number) t = missing_again n s number t
  told_again n (Down s cause) t = down_again n s cause t
  told_again n (Answered client name reply at) t = answered_again n client name reply at t
  told_again n (Behind client needs has) t = refused_again n client needs has t
  told_again n (Moved client) t = moved_again n client t
  told_again n (Cut at) t = cut_again n at t
  told_again n (Dropped name) t = dropped_again n name t
  told_again n (Conflicts name found) t = conflicts_again n name found t
  told_again n (State at cut floor precise) t = state_again n at cut floor precise t
