-- What a node's own journal allows is lawful in the history.
use Rattle.std.proofs.Common.{◌≡◌, ℕ, ◌+◌, inl, inr, List, refl, sym, ◌∙◌, ap, subst, max, nat_eq}
use Rattle.std.specs.Prelude.{Some, None, true, false, IsTrue, ◌↔◌, Bool}
use Rattle.std.proofs.lemmas.Bool.Decides.{Decides-eqb}
use Rattle.pr_stamps.specs.Point.{Point}
use Rattle.pr_stamps.specs.declared.mark.Mark.{Mark}
use Rattle.pr_names.specs.Span.{Span}
use Rattle.pr_inval.specs.declared.kind.Kind.TheVariants.{Precise, Imprecise, Checkpoint, Body}
use Rattle.pr_story.specs.declared.entry.Entry.{Entry}
use Rattle.pr_story.specs.declared.event.Event.{Event}
use Rattle.pr_story.specs.declared.event.Event.TheVariants.{Wrote, Attached, Sent, Idle, Stale, Accepted, Gapped, Missing, Down, Answered, Behind, Moved, Cut, Dropped, Conflicts, State}
use Rattle.pr_story.specs.declared.reply.Reply.{Reply}
use Rattle.pr_story.specs.declared.reply.Reply.TheVariants as reply
use Rattle.pr_story.specs.declared.found.Found.{Found}
use Rattle.pr_story.specs.declared.found.Found.TheVariants as found
use Rattle.pr_story.specs.History.{Plan, NodeEntry, journal, current_vector}
use Rattle.pr_story.specs.Told.{IsStart}
use Rattle.pr_sets.specs.Sets.{set_of}
use Rattle.pr_story.specs.Knowledge.{IsNewestKnown, IsNewest, IsMark, IsCoveredMark, KnowsGone, IsGone, IsAnswer, IsFound, AreConflicts, floor_of}
use Rattle.pr_vectors.specs.Vector.{Le}
use Rattle.pr_story.specs.Clients.{is_with_needs, client_vector}
use Rattle.pr_inval.specs.Standing.{Standing}
use Rattle.pr_story.specs.Turns.{standing, is_with_session, position, has_sent, IsTurn, IsSnapshot, Turn, StaleTurn, IdleTurn, SendTurn}
use Rattle.pr_story.specs.Lawful.{MayCome, heard_time, last_time}
use Rattle.pr_story.specs.Laws.{StandsFor}
use Rattle.pr_story.proofs.World.{World}
use Rattle.pr_story.proofs.Precise.{newest_both, gone_both, marks_both, set_has}
use Rattle.pr_story.proofs.Steps.{valid_world}
use Rattle.pr_story.specs.Statements.{OneMore}

pub itself : (s : ℕ) → IsTrue (nat_eq s s)
itself s = (Decides-eqb s s).1 refl

-- ---- turns

module _ (n : ℕ) (j : List Entry) (names : List Span) (bodies : Bool) (p : List ℕ) (k t : ℕ) (A B : List ℕ → Point → Bool)
    (both : (o : List ℕ) (s : Point) → A o s ≡ B o s) where
  turn_sent : (turn : Turn) → IsTurn n j (record { names = names; bodies = bodies; position = p; number = k; time = t; sent = A }) turn
      → IsTurn n j (record { names = names; bodies = bodies; position = p; number = k; time = t; sent = B }) turn
  turn_sent (StaleTurn cut) u = u
  turn_sent IdleTurn u = (u.0, u.1, λ b o s bytes d. u.2 b o s bytes (d.0, d.1, d.2, d.3, both o s ∙ d.4))
  turn_sent (SendTurn (Body o s bytes)) u = (
    u.0,
    u.1,
    u.2,
    ((u.3.0.0, u.3.0.1, u.3.0.2, u.3.0.3, sym (both o s) ∙ u.3.0.4), λ name stamp body d. u.3.1 name stamp body (d.0, d.1, d.2, d.3, both name stamp ∙ d.4)),
  )
  turn_sent (SendTurn (Imprecise from to target)) u = u
  turn_sent (SendTurn (Precise from to write)) u = u
  turn_sent (SendTurn (Checkpoint to target floor rows)) u = u

turn_stands : (plan : Plan) (h : List NodeEntry) (s n : ℕ) (j : List Entry) (st : Standing) (turn : Turn) → StandsFor plan h s st → IsTurn n j st turn → IsTurn n j (standing plan h s) turn
turn_stands plan h s n j st turn f u =
    let a : IsTurn n j (record st { names = (plan.stream s).names }) turn = subst (λ (x : List Span). IsTurn n j (record st { names = x }) turn) f.names u in
    let b : IsTurn n j (record st { names = (plan.stream s).names; bodies = (plan.stream s).bodies }) turn = subst (λ (x : Bool). IsTurn n j (record st { names = (plan.stream s).names; bodies = x }) turn) f.bodies a in
    let c : IsTurn n j (record st { names = (plan.stream s).names; bodies = (plan.stream s).bodies; position = position h s }) turn = subst (λ (x : List ℕ). IsTurn n j (record st { names = (plan.stream s).names; bodies = (plan.stream s).bodies; position = x }) turn) f.position b in
    let d : IsTurn n j (record st { names = (plan.stream s).names; bodies = (plan.stream s).bodies; position = position h s; number = (standing plan h s).number }) turn = subst (λ (x : ℕ). IsTurn n j (record st { names = (plan.stream s).names; bodies = (plan.stream s).bodies; position = position h s; number = x }) turn) f.number c in
    let e : IsTurn n j (record st { names = (plan.stream s).names; bodies = (plan.stream s).bodies; position = position h s; number = (standing plan h s).number; time = (standing plan h s).time }) turn = subst (λ (x : ℕ). IsTurn n j (record st { names = (plan.stream s).names; bodies = (plan.stream s).bodies; position = position h s; number = (standing plan h s).number; time = x }) turn) f.time d in
    turn_sent n j (plan.stream s).names (plan.stream s).bodies (position h s) (standing plan h s).number (standing plan h s).time st.sent (has_sent h s) f.sent turn e

-- ---- answers

conflicts_like : (P Q : Mark → Type 0) → ((m : Mark) → P m ↔ Q m) → (pairs : List (Point × Point)) → AreConflicts P pairs → AreConflicts Q pairs
conflicts_like P Q both pairs c = (
  λ x y p q. c.0 x y ((both x).1 p) ((both y).1 q),
  λ s t i. let r = c.1 s t i in (r.0, r.1, (both r.0).0 r.2, (both r.1).0 r.3, r.4, r.5, r.6, r.7),
  c.2,
)

module _ (plan : Plan) (h : List NodeEntry) (f : World h) (n : ℕ) where
  answer_world : (o : List ℕ) (r : Reply) → IsAnswer (IsNewestKnown (journal h n) o) (KnowsGone (journal h n) o) (plan.sets n) n (journal h n) o r → IsAnswer (IsNewest h (current_vector (journal h n)) o) (IsGone h o) (plan.sets n) n (journal h n) o r
  answer_world o (reply.Imprecise p) a = a
  answer_world o reply.Never a = (a.0, (newest_both h f n (set_of (plan.sets n) o) o (set_has (plan.sets n) o) a.0 None).0 a.1)
  answer_world o (reply.Gone t) a = (a.0, (newest_both h f n (set_of (plan.sets n) o) o (set_has (plan.sets n) o) a.0 (Some t)).0 a.1, (gone_both h f n o t true a.1.0).0 a.2)
  answer_world o (reply.Body t) a = (a.0, (newest_both h f n (set_of (plan.sets n) o) o (set_has (plan.sets n) o) a.0 (Some t)).0 a.1, (gone_both h f n o t false a.1.0).0 a.2, a.3)
  answer_world o (reply.Value t bytes) a = (a.0, (newest_both h f n (set_of (plan.sets n) o) o (set_has (plan.sets n) o) a.0 (Some t)).0 a.1, (gone_both h f n o t false a.1.0).0 a.2, a.3)

  found_world : (o : List ℕ) (r : Found) → IsFound (IsMark (journal h n) o) (plan.sets n) n (journal h n) o r → IsFound (IsCoveredMark h (current_vector (journal h n)) (floor_of (journal h n)) o) (plan.sets n) n (journal h n) o r
  found_world o (found.Imprecise p) a = a
  found_world o (found.Pairs pairs) a = (a.0, conflicts_like (IsMark (journal h n) o) (IsCoveredMark h (current_vector (journal h n)) (floor_of (journal h n)) o) (λ m. marks_both h f n (set_of (plan.sets n) o) o (set_has (plan.sets n) o) a.0 m) pairs a.1)

  module _ (st : ℕ → Standing) (seen : ℕ → List ℕ) (time : ℕ) where
    may_come : (event : Event) → ((s : ℕ) → IsTrue (is_with_session event s) → StandsFor plan h s (st s))
        → ((c : ℕ) → IsTrue (is_with_needs event c) → seen c ≡ client_vector h c)
        → MayCome (IsNewestKnown (journal h n)) (KnowsGone (journal h n)) (IsMark (journal h n)) st seen (plan.sets n) n (journal h n) time event
        → MayCome (λ o. IsNewest h (current_vector (journal h n)) o) (λ o. IsGone h o) (λ o. IsCoveredMark h (current_vector (journal h n)) (floor_of (journal h n)) o) (standing plan h) (client_vector h) (plan.sets n) n (journal h n) time event
    may_come (Wrote client write body after) s c m = (m.0, m.1, m.2, m.3, m.4, m.5, m.6, subst (λ (v : List ℕ). Le v (current_vector (journal h n))) (c client (itself client)) m.7)
    may_come (Attached stream at) s c m = subst (λ (x : List Span). IsStart (plan.sets n) n (journal h n) x at) (s stream (itself stream)).names m
    may_come (Sent msg) s c m =
        let f : StandsFor plan h msg.stream (st msg.stream) = s msg.stream (itself msg.stream) in (
          m.0 ∙ ap (λ (k : ℕ). k + 1) f.number,
          m.1,
          elim m.2 [
            | inl turn ↦ inl (turn_stands plan h msg.stream n (journal h n) (st msg.stream) (SendTurn msg.kind) f turn)
            | inr snap ↦ inr (subst (λ (x : List Span). IsSnapshot (plan.sets n) n (journal h n) x msg.kind) f.names snap)
          ],
        )
    may_come (Idle stream) s c m = turn_stands plan h stream n (journal h n) (st stream) IdleTurn (s stream (itself stream)) m
    may_come (Stale stream cut) s c m = turn_stands plan h stream n (journal h n) (st stream) (StaleTurn cut) (s stream (itself stream)) m
    may_come (Accepted msg at) s c m = m
    may_come (Gapped msg has) s c m = m
    may_come (Missing stream number) s c m = m
    may_come (Down stream cause) s c m = m
    may_come (Answered client o answer at) s c m = (answer_world o answer m.0, m.1, subst (λ (v : List ℕ). Le v (current_vector (journal h n))) (c client (itself client)) m.2)
    may_come (Behind client needs has) s c m = (m.0 ∙ c client (itself client), m.1, m.2)
    may_come (Moved client) s c m = m
    may_come (Cut at) s c m = m
    may_come (Dropped o) s c m = m
    may_come (Conflicts o answer) s c m = found_world o answer m
    may_come (State at cut floor precise) s c m = m

    heard : (event : Event) → ((s : ℕ) → IsTrue (is_with_session event s) → StandsFor plan h s (st s)) → heard_time st event ≡ heard_time (standing plan h) event
    heard (Attached stream at) s = (s stream (itself stream)).time
    heard (Sent msg) s = (s msg.stream (itself msg.stream)).time
    heard (Idle stream) s = (s stream (itself stream)).time
    heard (Stale stream cut) s = (s stream (itself stream)).time
    heard (Down stream cause) s = (s stream (itself stream)).time
    heard _ s = refl

pub one_more : OneMore
one_more plan h e st seen v stands needs node placed cause own =
    let f : World h = valid_world plan h v in (
      record {
        node = node;
        in_range = own.in_range;
        in_range_time = own.in_range_time;
        in_range_caller = own.in_range_caller;
        placed = placed;
        cause = cause;
        may_come = may_come plan h f e.node st seen e.entry.time e.entry.event stands needs own.may_come;
        time = own.time ∙ ap (λ (k : ℕ). max (last_time (journal h e.node)) k + 1) (heard plan h f e.node st seen e.entry.time e.entry.event stands);
      },
      v,
    )
