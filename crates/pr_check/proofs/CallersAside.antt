-- Callers' numbers count for nothing: what a journal or a history says is what it says without them. Most of what
-- follows is a path: a definition once more, between what it says without the numbers and what it says with them.
use Rattle.std.proofs.Common.{◌≡◌, ◌⊎◌, ◌≤◌, ◌<◌, ◌+◌, ℕ, Bool, true, false, cond, List, [], ◌∷◌, Option, Some, None, max, nat_eq, inl, inr, refl, ap, subst, ◌∙◌, length}
use Rattle.std.specs.Prelude.{Contains, IsTrue, ◌↔◌}
use Rattle.std.specs.List.{AllZip}
use Rattle.pr_names.specs.Name.{IsName}
use Rattle.pr_names.specs.Order.{name_lt}
use Rattle.pr_names.specs.Span.{Span}
use Rattle.pr_sets.specs.Sets.{set_of}
use Rattle.pr_sets.specs.Spans.{IsAllBut, IsSetOf, Meet, has}
use Rattle.pr_stamps.specs.Point.{Before, Point}
use Rattle.pr_stamps.specs.declared.mark.Mark.{Mark}
use Rattle.pr_vectors.specs.Vector.{Between, Covers, Le, below_of, clock_of, cut_of, join_of, vector_of}
use Rattle.pr_inval.specs.Points.{CoversPoint, from_of, is_invalidation, target_of, to_of}
use Rattle.pr_inval.specs.Standing.{Standing}
use Rattle.pr_inval.specs.declared.kind.Kind.{Kind}
use Rattle.pr_inval.specs.declared.kind.Kind.TheVariants.{Precise, Imprecise, Checkpoint, Body}
use Rattle.pr_inval.specs.declared.row.Row.{Row}
use Rattle.pr_inval.specs.declared.write_rec.WriteRec.{WriteRec}
use Rattle.pr_story.specs.Clients.{client_node, client_vector, node_after, seen_after}
use Rattle.pr_story.specs.History.{Accepts, NodeEntry, Plan, SomeEvent, Writes, Sends, clock_brought, current_clock, current_vector, entries, journal}
use Rattle.pr_story.specs.Knowledge.{AreConflicts, IsAnswer, IsCoveredMark, IsFound, IsGone, IsGreatest, IsMark, IsNewest, IsNewestKnown, Knows, KnowsGone, NamesStamp, TellsOf, WasNamed, body_after, cut_in, cuts_of, first_of, floor_after, floor_of, gone_told, held_body, known_gone, known_mark, mark_told}
use Rattle.pr_story.specs.Lawful.{DownAfter, HasCause, IsLawful, IsPlaced, MayCome, MayComeByWorld, has_from, heard_time, is_after_gap, is_gap, last_time}
use Rattle.pr_story.specs.Lines.{without_callers}
use Rattle.pr_story.specs.Told.{IsDarkBetween, IsGreatestUpTo, IsLastPrecise, IsLit, IsPrecise, IsStart, IsTold, IsUntold, TellsPoint, all_sets}
use Rattle.pr_story.specs.Turns.{Attaches, EndsAtVector, EndsBeforeNext, HoldsCut, HoldsVector, IdleTurn, IsBodyToSend, IsNextBody, IsNextWrite, IsOmitted, IsSnapshot, IsSnapshotRow, IsTarget, IsTurn, IsWithheld, IsWriteToSend, SendTurn, StaleTurn, Turn, WithholdsNone, count_after, has_sent, is_of_stream, is_timed, position, position_after, sent_after, sent_count, standing, stream_time}
use Rattle.pr_story.specs.declared.entry.Entry.{Entry}
use Rattle.pr_story.specs.declared.event.Event.{Event}
use Rattle.pr_story.specs.declared.event.Event.TheVariants.{Wrote, Attached, Sent, Idle, Stale, Accepted, Gapped, Missing, Down, Answered, Behind, Moved, Cut, Dropped, Conflicts, State}
use Rattle.pr_story.specs.declared.found.Found.{Found}
use Rattle.pr_story.specs.declared.found.Found.TheVariants as founds
use Rattle.pr_story.specs.declared.reply.Reply.{Reply}
use Rattle.pr_story.specs.declared.reply.Reply.TheVariants as replies
use Rattle.pr_inval.specs.declared.msg.Msg.{Msg}

-- ---- both ways

pub record Both (P Q : Type 0) : Type 0 where
  pub there : P → Q
  pub back : Q → P

pub both : {P Q : Type 0} → P ≡ Q → Both P Q
both p = record { there = λ x. coe 0 1 (i. p i) x; back = λ x. coe 1 0 (i. p i) x }

pub both_then : {P Q R : Type 0} → Both P Q → Both Q R → Both P R
both_then a b = record { there = λ x. b.there (a.there x); back = λ x. a.back (b.back x) }

same_both : {P : Type 0} → Both P P
same_both = record { there = λ x. x; back = λ x. x }

-- ---- journals

abbrev pub without : List Entry → List Entry
without [] = []
without (e ∷ j) = record { time = e.time; caller = 0; event = e.event } ∷ without j

some : (P : Event → Type 0) (j : List Entry) → SomeEvent P (without j) ≡ SomeEvent P j
some P [] = refl
some P (e ∷ j) = λ i. P e.event ⊎ some P j i

clock : (j : List Entry) (w : ℕ) → current_clock (without j) w ≡ current_clock j w
clock [] w = refl
clock (e ∷ j) w = λ i. max (clock j w i) (clock_brought e.event w)

vector : (j : List Entry) → current_vector (without j) ≡ current_vector j
vector j = λ i. vector_of (λ w. clock j w i)

last : (j : List Entry) → last_time (without j) ≡ last_time j
last [] = refl
last (e ∷ j) = refl

gap : (j : List Entry) (s : ℕ) → is_after_gap (without j) s ≡ is_after_gap j s
gap [] s = refl
gap (e ∷ j) s = λ i. cond (is_of_stream e.event s) (is_gap e.event) (gap j s i)

knows : (j : List Entry) (x : WriteRec) → Knows (without j) x ≡ Knows j x
knows [] x = refl
knows (e ∷ j) x = λ i. knows j x i ⊎ (TellsOf e.event x × ((y : WriteRec) → some (λ event. TellsOf event y) j i → y.stamp ≡ x.stamp → y ≡ x))

gone : (j : List Entry) (o : List ℕ) (s : Point) → known_gone (without j) o s ≡ known_gone j o s
gone [] o s = refl
gone (e ∷ j) o s = λ i. first_of (gone j o s i) (gone_told e.event o s)

body : (j : List Entry) (o : List ℕ) (t : Point) → held_body (without j) o t ≡ held_body j o t
body [] o t = refl
body (e ∷ j) o t = λ i. body_after e.event o t (body j o t i)

cuts : (j : List Entry) → cuts_of (without j) ≡ cuts_of j
cuts [] = refl
cuts (e ∷ j) = λ i. join_of (cuts j i) (cut_in e.event)

floors : (j : List Entry) → floor_of (without j) ≡ floor_of j
floors [] = refl
floors (e ∷ j) = λ i. join_of (floors j i) (floor_after e.event)

marked : (j : List Entry) (o : List ℕ) (s : Point) → known_mark (without j) o s ≡ known_mark j o s
marked [] o s = refl
marked (e ∷ j) o s = λ i. first_of (marked j o s i) (mark_told e.event o s)

module _ (n : ℕ) (j : List Entry) where
  -- ---- what the node knows

  named : (o : List ℕ) (s : Point) → WasNamed (without j) o s ≡ WasNamed j o s
  named o s = some (λ event. NamesStamp event o s) j

  newest_known : (o : List ℕ) (t : Option Point) → IsNewestKnown (without j) o t ≡ IsNewestKnown j o t
  newest_known o t = λ i. IsGreatest (λ s. named o s i) t

  knows_gone : (o : List ℕ) (s : Point) (g : Bool) → KnowsGone (without j) o s g ≡ KnowsGone j o s g
  knows_gone o s g = λ i. gone j o s i ≡ Some g

  is_mark : (o : List ℕ) (m : Mark) → IsMark (without j) o m ≡ IsMark j o m
  is_mark o m = λ i. (marked j o m.stamp i ≡ Some m) × (Covers (floors j i) m.stamp → ⊥)

  -- ---- what it was told of

  told : (set : List ℕ → Bool) (p : Point) → IsTold n (without j) set p ≡ IsTold n j set p
  told set p = λ i. ((p.node ≡ n) × Covers (vector j i) p) ⊎ ((k : Kind) × some (λ event. Accepts event k) j i × TellsPoint k set p)

  precise : (set : List ℕ → Bool) → IsPrecise n (without j) set ≡ IsPrecise n j set
  precise set = λ i. (p : Point) → Covers (vector j i) p → told set p i

  untold : (set : List ℕ → Bool) (p : Point) → IsUntold n (without j) set p ≡ IsUntold n j set p
  untold set p = λ i. Covers (vector j i) p × (told set p i → ⊥) × ((q : Point) → Covers (vector j i) q → (told set q i → ⊥) → Before q p → ⊥)

  up_to : (P Q : Point → Type 0) → ((p : Point) → P p ≡ Q p) → (v : List ℕ) → IsGreatestUpTo (without j) P v ≡ IsGreatestUpTo j Q v
  up_to P Q same v = λ i. (length v ≡ 32) × ((w : ℕ) → w < 32 →
      (clock_of v w ≤ clock j w i)
      × ((c : ℕ) → 1 ≤ c → c ≤ clock_of v w → same (record { clock = c; node = w }) i)
      × (clock_of v w < clock j w i → same (record { clock = clock_of v w + 1; node = w }) i → ⊥))

  last_precise : (set : List ℕ → Bool) (v : List ℕ) → IsLastPrecise n (without j) set v ≡ IsLastPrecise n j set v
  last_precise set v = up_to (IsTold n (without j) set) (IsTold n j set) (told set) v

  start : (sets : List (List Span)) (names : List Span) (v : List ℕ) → IsStart sets n (without j) names v ≡ IsStart sets n j names v
  start sets names v =
      up_to (λ p. (set : List ℕ → Bool) → Contains (all_sets sets) set → Meet set (has names) → IsTold n (without j) set p)
      (λ p. (set : List ℕ → Bool) → Contains (all_sets sets) set → Meet set (has names) → IsTold n j set p)
      (λ p i. (set : List ℕ → Bool) → Contains (all_sets sets) set → Meet set (has names) → told set p i) v

  lit : (o : List ℕ) (p : Point) → IsLit n (without j) o p ≡ IsLit n j o p
  lit o p = λ i. (p.node ≡ n) ⊎ ((k : Kind) × some (λ event. Accepts event k) j i × IsTrue (is_invalidation k) × CoversPoint k p × (has (target_of k) o ≡ false))

  dark : (v w o : List ℕ) → IsDarkBetween n (without j) v w o ≡ IsDarkBetween n j v w o
  dark v w o = λ i. (p : Point) × Between v w p × (lit o p i → ⊥)

  -- ---- what it has to send

  to_send : (names : List Span) (p : List ℕ) (x : WriteRec) → IsWriteToSend (without j) names p x ≡ IsWriteToSend j names p x
  to_send names p x = λ i. knows j x i × IsTrue (has names x.name) × (Covers p x.stamp → ⊥)

  next_write : (names : List Span) (p : List ℕ) (x : WriteRec) → IsNextWrite (without j) names p x ≡ IsNextWrite j names p x
  next_write names p x = λ i. to_send names p x i × ((y : WriteRec) → to_send names p y i → Before y.stamp x.stamp → ⊥)

  body_to_send : (session : Standing) (o : List ℕ) (t : Point) (bytes : List ℕ) → IsBodyToSend (without j) session o t bytes ≡ IsBodyToSend j session o t bytes
  body_to_send session o t bytes =
      λ i. IsTrue (has session.names o) × newest_known o (Some t) i × knows_gone o t false i × (body j o t i ≡ Some bytes) × (session.sent o t ≡ false)

  next_body : (session : Standing) (o : List ℕ) (t : Point) (bytes : List ℕ) → IsNextBody (without j) session o t bytes ≡ IsNextBody j session o t bytes
  next_body session o t bytes =
      λ i. body_to_send session o t bytes i × ((name : List ℕ) (stamp : Point) (text : List ℕ) → body_to_send session name stamp text i → name_lt name o ≡ false)

  omitted : (names : List Span) (v w o : List ℕ) → IsOmitted (without j) names v w o ≡ IsOmitted j names v w o
  omitted names v w o = λ i. (has names o ≡ false) × ((x : WriteRec) × knows j x i × (x.name ≡ o) × Between v w x.stamp)

  withheld : (names : List Span) (v w o : List ℕ) → IsWithheld n (without j) names v w o ≡ IsWithheld n j names v w o
  withheld names v w o = λ i. dark v w o i ⊎ omitted names v w o i

  target : (names : List Span) (v w : List ℕ) (t : List Span) → IsTarget n (without j) names v w t ≡ IsTarget n j names v w t
  target names v w t =
      λ i. (IsSetOf t (λ o. withheld names v w o i) × (length t ≤ 16))
      ⊎ (((fine : List Span) → IsSetOf fine (λ o. withheld names v w o i) → 16 < length fine)
      × IsSetOf t (λ o. (has names o ≡ false) ⊎ dark v w o i))

  holds_cut : (session : Standing) → HoldsCut (without j) session ≡ HoldsCut j session
  holds_cut session = λ i. Le (cuts j i) session.position

  holds_vector : (session : Standing) → HoldsVector (without j) session ≡ HoldsVector j session
  holds_vector session = λ i. Le (vector j i) session.position

  ends_at : (session : Standing) (to : List ℕ) → EndsAtVector (without j) session to ≡ EndsAtVector j session to
  ends_at session to = λ i. ((x : WriteRec) → to_send session.names session.position x i → ⊥) × (to ≡ join_of session.position (vector j i))

  ends_before : (session : Standing) (to : List ℕ) → EndsBeforeNext n (without j) session to ≡ EndsBeforeNext n j session to
  ends_before session to =
      λ i. (t : WriteRec) × next_write session.names session.position t i × (to ≡ join_of session.position (below_of (vector j i) t.stamp))
      × ((o : List ℕ) × IsName o × withheld session.names session.position to o i)

  withholds_none : (session : Standing) (s : Point) → WithholdsNone n (without j) session s ≡ WithholdsNone n j session s
  withholds_none session s =
      λ i. (o : List ℕ) → IsName o → withheld session.names session.position (join_of session.position (below_of (vector j i) s)) o i → ⊥

  turn : (session : Standing) (t : Turn) → IsTurn n (without j) session t ≡ IsTurn n j session t
  turn session (StaleTurn cut) = λ i. (cut ≡ cuts j i) × (holds_cut session i → ⊥)
  turn session IdleTurn =
      λ i. holds_cut session i × holds_vector session i
      × (IsTrue session.bodies → (o : List ℕ) (t : Point) (bytes : List ℕ) → body_to_send session o t bytes i → ⊥)
  turn session (SendTurn (Body o t bytes)) = λ i. holds_cut session i × holds_vector session i × IsTrue session.bodies × next_body session o t bytes i
  turn session (SendTurn (Imprecise from to t)) =
      λ i. holds_cut session i × (holds_vector session i → ⊥) × (from ≡ session.position)
      × target session.names session.position to t i × (ends_at session to i ⊎ ends_before session to i)
  turn session (SendTurn (Precise from to write)) =
      λ i. holds_cut session i × (holds_vector session i → ⊥) × (from ≡ session.position)
      × next_write session.names session.position write i × (to ≡ join_of session.position (cut_of (vector j i) write.stamp))
      × withholds_none session write.stamp i
  turn session (SendTurn (Checkpoint to t floor rows)) = refl

  -- ---- checkpoints

  row_both : (t : List Span) (row : Row) → Both (IsSnapshotRow (without j) t row) (IsSnapshotRow j t row)
  row_both t row =
      let newest = both (newest_known row.name (Some row.newest)) in
      let gone_so = both (knows_gone row.name row.newest row.gone) in
      let marks_so : (mark : Mark) → Both (Contains row.marks mark ↔ IsMark (without j) row.name mark) (Contains row.marks mark ↔ IsMark j row.name mark) = λ mark. both (λ i. Contains row.marks mark ↔ is_mark row.name mark i) in
      record {
        there = λ r. record { outside = r.outside; newest = newest.there r.newest; gone = gone_so.there r.gone; marks = λ mark. (marks_so mark).there (r.marks mark); marks_rise = r.marks_rise };
        back = λ r. record { outside = r.outside; newest = newest.back r.newest; gone = gone_so.back r.gone; marks = λ mark. (marks_so mark).back (r.marks mark); marks_rise = r.marks_rise };
      }

  snapshot : (sets : List (List Span)) (names : List Span) (k : Kind) → Both (IsSnapshot sets n (without j) names k) (IsSnapshot sets n j names k)
  snapshot sets names (Checkpoint to t floor rows) =
      let at = both (λ i. to ≡ vector j i) in
      let floor_so = both (λ i. floor ≡ floors j i) in
      let all_but = both (λ i. IsAllBut t (λ o. IsTrue (has names o) × precise (set_of sets o) i)) in
      let named_so = both (λ i. (o : List ℕ) (s : Point) → IsName o → has t o ≡ false → named o s i → (row : Row) × Contains rows row × (row.name ≡ o)) in
      record {
        there = λ s. (at.there s.0, floor_so.there s.1, all_but.there s.2, λ row has_it. (row_both t row).there (s.3 row has_it), named_so.there s.4, s.5);
        back = λ s. (at.back s.0, floor_so.back s.1, all_but.back s.2, λ row has_it. (row_both t row).back (s.3 row has_it), named_so.back s.4, s.5);
      }
  snapshot sets names (Precise from to write) = same_both
  snapshot sets names (Imprecise from to t) = same_both
  snapshot sets names (Body o t bytes) = same_both

  -- ---- what may come by it

  module _ (Newest : List ℕ → Option Point → Type 0) (Gone : List ℕ → Point → Bool → Type 0) (Marks : List ℕ → Mark → Type 0)
      (sessions : ℕ → Standing) (seen : ℕ → List ℕ) (sets : List (List Span)) (time : ℕ) where
    answer : (o : List ℕ) (reply : Reply) → IsAnswer (Newest o) (Gone o) sets n (without j) o reply ≡ IsAnswer (Newest o) (Gone o) sets n j o reply
    answer o (replies.Imprecise p) = untold (set_of sets o) p
    answer o replies.Never = λ i. precise (set_of sets o) i × Newest o None
    answer o (replies.Gone t) = λ i. precise (set_of sets o) i × Newest o (Some t) × Gone o t true
    answer o (replies.Body t) = λ i. precise (set_of sets o) i × Newest o (Some t) × Gone o t false × (body j o t i ≡ None)
    answer o (replies.Value t bytes) = λ i. precise (set_of sets o) i × Newest o (Some t) × Gone o t false × (body j o t i ≡ Some bytes)

    found : (o : List ℕ) (f : Found) → IsFound (Marks o) sets n (without j) o f ≡ IsFound (Marks o) sets n j o f
    found o (founds.Imprecise p) = untold (set_of sets o) p
    found o (founds.Pairs pairs) = λ i. precise (set_of sets o) i × AreConflicts (Marks o) pairs

    sends : (msg : Msg) → Both (MayCome Newest Gone Marks sessions seen sets n (without j) time (Sent msg)) (MayCome Newest Gone Marks sessions seen sets n j time (Sent msg))
    sends msg =
        let turns = both (turn (sessions msg.stream) (SendTurn msg.kind)) in
        let shot = snapshot sets (sessions msg.stream).names msg.kind in
        record {
          there = λ s. (s.0, s.1, elim s.2 [ inl a ↦ inl (turns.there a) | inr b ↦ inr (shot.there b) ]);
          back = λ s. (s.0, s.1, elim s.2 [ inl a ↦ inl (turns.back a) | inr b ↦ inr (shot.back b) ]);
        }

    pub may_come : (event : Event) → Both (MayCome Newest Gone Marks sessions seen sets n (without j) time event) (MayCome Newest Gone Marks sessions seen sets n j time event)
    may_come (Wrote client write text after) = both (λ i.
        (length text ≤ 65536) × (after ≡ vector j i) × (write.stamp.node ≡ n)
        × ((w : ℕ) → w < 32 → clock j w i < write.stamp.clock)
        × ((w : ℕ) × (w < 32) × (write.stamp.clock ≡ clock j w i + 1))
        × newest_known write.name write.prev i
        × (IsTrue write.gone → text ≡ [])
        × Le (seen client) (vector j i))
    may_come (Attached s at) = both (start sets (sessions s).names at)
    may_come (Sent msg) = sends msg
    may_come (Idle s) = both (turn (sessions s) IdleTurn)
    may_come (Stale s cut) = both (turn (sessions s) (StaleTurn cut))
    may_come (Accepted msg at) = both (λ i. Le (from_of msg.kind) (vector j i) × (at ≡ join_of (vector j i) (to_of msg.kind)))
    may_come (Gapped msg has_it) = both (λ i. IsTrue (has_from msg.kind) × (Le (from_of msg.kind) (vector j i) → ⊥) × (has_it ≡ vector j i))
    may_come (Missing s number) = same_both
    may_come (Down s cause) = same_both
    may_come (Answered client o reply at) = both (λ i. answer o reply i × (at ≡ vector j i) × Le (seen client) (vector j i))
    may_come (Behind client needs has_it) = both (λ i. (needs ≡ seen client) × (Le needs (vector j i) → ⊥) × (has_it ≡ vector j i))
    may_come (Moved client) = same_both
    may_come (Cut at) = both (λ i. at ≡ vector j i)
    may_come (Dropped o) = same_both
    may_come (Conflicts o f) = both (found o f)
    may_come (State at cut floor many) = both (λ i.
        (at ≡ vector j i) × (cut ≡ cuts j i) × (floor ≡ floors j i)
        × AllZip (λ set v. last_precise set v i) (all_sets sets) many)

-- ---- histories

some_entry : (P : Event → Type 0) (h : List NodeEntry) → SomeEvent P (entries (without_callers h)) ≡ SomeEvent P (entries h)
some_entry P [] = refl
some_entry P (e ∷ h) = λ i. P e.entry.event ⊎ some_entry P h i

home : (plan : Plan) (h : List NodeEntry) (c : ℕ) → client_node plan (without_callers h) c ≡ client_node plan h c
home plan [] c = refl
home plan (e ∷ h) c = λ i. node_after e.entry.event e.node c (home plan h c i)

has_seen : (h : List NodeEntry) (c : ℕ) → client_vector (without_callers h) c ≡ client_vector h c
has_seen [] c = refl
has_seen (e ∷ h) c = λ i. seen_after e.entry.event c (has_seen h c i)

count : (h : List NodeEntry) (s : ℕ) → sent_count (without_callers h) s ≡ sent_count h s
count [] s = refl
count (e ∷ h) s = λ i. count_after e.entry.event s (count h s i)

place : (h : List NodeEntry) (s : ℕ) → position (without_callers h) s ≡ position h s
place [] s = refl
place (e ∷ h) s = λ i. position_after e.entry.event s (place h s i)

was_sent : (h : List NodeEntry) (s : ℕ) (o : List ℕ) (t : Point) → has_sent (without_callers h) s o t ≡ has_sent h s o t
was_sent [] s o t = refl
was_sent (e ∷ h) s o t = λ i. sent_after e.entry.event s o t (was_sent h s o t i)

times : (h : List NodeEntry) (s : ℕ) → stream_time (without_callers h) s ≡ stream_time h s
times [] s = refl
times (e ∷ h) s = λ i. max (times h s i) (cond (is_timed e.entry.event s) e.entry.time 0)

stands : (plan : Plan) (h : List NodeEntry) → standing plan (without_callers h) ≡ standing plan h
stands plan h = λ i s. record {
  names = (plan.stream s).names;
  bodies = (plan.stream s).bodies;
  position = place h s i;
  number = count h s i;
  time = times h s i;
  sent = λ o t. was_sent h s o t i;
}

journal_by : (b : Bool) (e : Entry) (j k : List Entry) → j ≡ without k → cond b (record { time = e.time; caller = 0; event = e.event } ∷ j) j ≡ without (cond b (e ∷ k) k)
journal_by true e j k same = ap (λ (l : List Entry). record { time = e.time; caller = 0; event = e.event } ∷ l) same
journal_by false e j k same = same

journals : (h : List NodeEntry) (n : ℕ) → journal (without_callers h) n ≡ without (journal h n)
journals [] n = refl
journals (e ∷ h) n = journal_by (nat_eq e.node n) e.entry (journal (without_callers h) n) (journal h n) (journals h n)

module _ (plan : Plan) (h : List NodeEntry) where
  written : (x : WriteRec) (text dep : List ℕ) → SomeEvent (λ event. Writes event x text dep) (entries (without_callers h)) ≡ SomeEvent (λ event. Writes event x text dep) (entries h)
  written x text dep = some_entry (λ event. Writes event x text dep) h

  is_placed : (n : ℕ) (event : Event) → IsPlaced plan (without_callers h) n event ≡ IsPlaced plan h n event
  is_placed n (Wrote client write text after) = λ i. n ≡ home plan h client i
  is_placed n (Answered client o reply at) = λ i. n ≡ home plan h client i
  is_placed n (Behind client needs has_it) = λ i. n ≡ home plan h client i
  is_placed n _ = refl

  after_gap : (n s : ℕ) → is_after_gap (journal (without_callers h) n) s ≡ is_after_gap (journal h n) s
  after_gap n s = λ i. (ap (λ (j : List Entry). is_after_gap j s) (journals h n) ∙ gap (journal h n) s) i

  has_cause : (n : ℕ) (event : Event) → HasCause (without_callers h) n event ≡ HasCause h n event
  has_cause n (Sent msg) = some_entry (λ event. Attaches event msg.stream) h
  has_cause n (Idle s) = some_entry (λ event. Attaches event s) h
  has_cause n (Stale s cut) = some_entry (λ event. Attaches event s) h
  has_cause n (Accepted msg at) = some_entry (λ event. Sends event msg) h
  has_cause n (Gapped msg has_it) = some_entry (λ event. Sends event msg) h
  has_cause n (Missing s number) = λ i. (msg : Msg) → some_entry (λ event. Sends event msg) h i → msg.stream ≡ s → msg.number ≡ number → ⊥
  has_cause n (Down s cause) = λ i. some_entry (λ event. Attaches event s) h i × DownAfter cause (after_gap n s i)
  has_cause n _ = refl

  -- the world's words, and how streams and clients stand
  by_world : (n time : ℕ) (event : Event) →
      Both (MayCome (IsNewest (without_callers h) (current_vector (without (journal h n)))) (IsGone (without_callers h)) (IsCoveredMark (without_callers h) (current_vector (without (journal h n))) (floor_of (without (journal h n))))
      (standing plan (without_callers h)) (client_vector (without_callers h)) (plan.sets n) n (without (journal h n)) time event)
      (MayCome (IsNewest h (current_vector (journal h n))) (IsGone h) (IsCoveredMark h (current_vector (journal h n)) (floor_of (journal h n)))
      (standing plan h) (client_vector h) (plan.sets n) n (without (journal h n)) time event)
  by_world n time event = both (λ i.
      MayCome (λ o t. IsGreatest (λ s. (x : WriteRec) × (text : List ℕ) × (dep : List ℕ) × written x text dep i × (x.name ≡ o) × (x.stamp ≡ s) × Covers (vector (journal h n) i) s) t)
      (λ o s g. (x : WriteRec) × (text : List ℕ) × (dep : List ℕ) × written x text dep i × (x.name ≡ o) × (x.stamp ≡ s) × (x.gone ≡ g))
      (λ o mark. ((x : WriteRec) × (text : List ℕ) × (dep : List ℕ) × written x text dep i × (x.name ≡ o) × (x.stamp ≡ mark.stamp) × (x.prev ≡ mark.prev))
      × Covers (vector (journal h n) i) mark.stamp × (Covers (floors (journal h n) i) mark.stamp → ⊥))
      (stands plan h i) (λ c. has_seen h c i) (plan.sets n) n (without (journal h n)) time event)

  at_journal : (n time : ℕ) (event : Event) →
      Both (MayComeByWorld plan (without_callers h) n time event)
      (MayCome (IsNewest (without_callers h) (current_vector (without (journal h n)))) (IsGone (without_callers h)) (IsCoveredMark (without_callers h) (current_vector (without (journal h n))) (floor_of (without (journal h n))))
      (standing plan (without_callers h)) (client_vector (without_callers h)) (plan.sets n) n (without (journal h n)) time event)
  at_journal n time event = both (λ i.
      MayCome (IsNewest (without_callers h) (current_vector (journals h n i))) (IsGone (without_callers h)) (IsCoveredMark (without_callers h) (current_vector (journals h n i)) (floor_of (journals h n i)))
      (standing plan (without_callers h)) (client_vector (without_callers h)) (plan.sets n) n (journals h n i) time event)

  may_come_so : (n time : ℕ) (event : Event) → Both (MayComeByWorld plan (without_callers h) n time event) (MayComeByWorld plan h n time event)
  may_come_so n time event =
      both_then (both_then (at_journal n time event) (by_world n time event))
      (may_come n (journal h n) (IsNewest h (current_vector (journal h n))) (IsGone h) (IsCoveredMark h (current_vector (journal h n)) (floor_of (journal h n))) (standing plan h) (client_vector h) (plan.sets n) time event)

  last_so : (n : ℕ) → last_time (journal (without_callers h) n) ≡ last_time (journal h n)
  last_so n = ap (λ (j : List Entry). last_time j) (journals h n) ∙ last (journal h n)

  pub lawful_both : (e : NodeEntry) → Both (IsLawful plan (without_callers h) e) (IsLawful plan h e)
  lawful_both e =
      let placed_so = both (is_placed e.node e.entry.event) in
      let cause_so = both (has_cause e.node e.entry.event) in
      let may = may_come_so e.node e.entry.time e.entry.event in
      let time_so = both (λ i. e.entry.time ≡ max (last_so e.node i) (heard_time (stands plan h i) e.entry.event) + 1) in
      record {
        there = λ l. record { node = l.node; in_range = l.in_range; in_range_time = l.in_range_time; in_range_caller = l.in_range_caller; placed = placed_so.there l.placed; cause = cause_so.there l.cause; may_come = may.there l.may_come; time = time_so.there l.time };
        back = λ l. record { node = l.node; in_range = l.in_range; in_range_time = l.in_range_time; in_range_caller = l.in_range_caller; placed = placed_so.back l.placed; cause = cause_so.back l.cause; may_come = may.back l.may_come; time = time_so.back l.time };
      }

-- what may come behind one history may come behind another that is the same but for callers' numbers
pub lawful_same : (plan : Plan) (h g : List NodeEntry) (e : NodeEntry) → without_callers g ≡ without_callers h → IsLawful plan g e → IsLawful plan h e
lawful_same plan h g e same l = (lawful_both plan h e).there (subst (λ (k : List NodeEntry). IsLawful plan k e) same ((lawful_both plan g e).back l))
