-- How an answer goes on, turn after turn, and how it ends.
use Rattle.std.proofs.Common.{◌≡◌, ◌≤◌, ◌+◌, ◌-◌, ℕ, List, [], ◌∷◌, ◌++◌, length, Bool, true, false, Option, Some, None, Result, Ok, Err, refl, sym, ap, subst, ◌∙◌, append_assoc, arith}
use Rattle.std.specs.Io.KnownBytes.{Appends}
use Rattle.std.proofs.lemmas.List.{take-append-le}
use Rattle.pr_names.specs.Span.{Span}
use Rattle.pr_stamps.specs.Point.{Point}
use Rattle.pr_inval.specs.declared.msg.Msg.{Msg}
use Rattle.pr_inval.specs.declared.node_fault.NodeFault.{NodeFault}
use Rattle.pr_inval.specs.declared.node_fault.NodeFault.TheVariants as node_faults
use Rattle.pr_inval.specs.Standing.{HasBegun, IsNewSession, SessionMeaning, Standing}
use Rattle.pr_node.specs.Stored.{NodeMeaning}
use Rattle.pr_story.specs.declared.entry.Entry.{Entry}
use Rattle.pr_story.specs.Lawful.{last_time}
use Rattle.pr_wire.specs.declared.format.Format.TheVariants.{Two}
use Rattle.pr_wire.specs.Spelling.{spelling}
use Rattle.pr_serve.specs.declared.ask.Ask.{Ask}
use Rattle.pr_serve.specs.declared.serve_fault.ServeFault.{ServeFault}
use Rattle.pr_serve.specs.declared.serve_fault.ServeFault.TheVariants as faults
use Rattle.pr_serve.specs.Answers.{EndsBy, HasRun, HasWritten, IsAnswered, IsMade, IsSessionAt, IsStoppedBy, IsTurned, IsTurnedOut, place}
use Rattle.pr_serve.specs.Faults.{fault_for}
use Rattle.pr_serve.specs.Output.{Answering, IsWhole, IsWholeAt, Next, Run, Turn, begun, frame_of, frames}
use Rattle.pr_serve.specs.Sinks.{IsWritten, Sink, Wrote, WroteSome}
use Rattle.pr_serve.proofs.Written.{wrote_none, wrote_some_then, wrote_then}

-- ---- entries behind others

pub frames_then : (es ds : List Entry) → frames (es ++ ds) ≡ frames es ++ frames ds
frames_then [] ds = refl
frames_then (e ∷ es) ds = ap (λ (t : List ℕ). frame_of e.event ++ t) (frames_then es ds) ∙ sym (append_assoc (frame_of e.event) (frames es) (frames ds))

run_then : (sets : List (List Span)) (n stream : ℕ) (a b c : Answering) (es ds : List Entry) → Run sets n stream a es b → Run sets n stream b ds c → Run sets n stream a (es ++ ds) c
run_then sets n stream a b c [] ds p q = subst (λ (k : Answering). Run sets n stream k ds c) p q
run_then sets n stream a b c (e ∷ es) ds p q = (p.0, p.1, run_then sets n stream p.0 b c es ds p.2 q)

module _ (x y z : NodeMeaning) (stream other : ℕ) (from mid here to : Answering) (es ds : List Entry) (same_stream : other ≡ stream) (same : here ≡ mid) where
  pub goes_then : HasRun x y stream from es mid → HasRun y z other here ds to → HasRun x z stream from (es ++ ds) to
  goes_then p q =
      let by_sets : Run x.sets y.id other here ds to = subst (λ (k : List (List Span)). Run k y.id other here ds to) p.same_sets q.run in
      let by_id : Run x.sets x.id other here ds to = subst (λ (k : ℕ). Run x.sets k other here ds to) p.same_id by_sets in
      let by_stream : Run x.sets x.id stream here ds to = subst (λ (k : ℕ). Run x.sets x.id k here ds to) same_stream by_id in
      let by_place : Run x.sets x.id stream mid ds to = subst (λ (k : Answering). Run x.sets x.id stream k ds to) same by_stream in
      record {
        run = run_then x.sets x.id stream from mid to es ds p.run by_place;
        journal = q.journal;
        same_id = q.same_id ∙ p.same_id;
        same_sets = q.same_sets ∙ p.same_sets;
      }

-- ---- a turn

-- nothing was written
nothing : (a : Sink) (text : List ℕ) → text ≡ [] → Wrote a a text
nothing a text none = subst (λ (t : List ℕ). Wrote a a t) (sym none) (wrote_none a)

refused_at : (a : Sink) (text : List ℕ) (to : Answering) (fault : NodeFault) → text ≡ [] → ¬ IsWhole to → IsStoppedBy to fault → EndsBy a a text to (fault_for fault)
refused_at a text to (node_faults.Worn at) none part stopped = (stopped.0, part, stopped.1, nothing a text none)
refused_at a text to node_faults.NoMemory none part stopped = nothing a text none

module _ (x y : NodeMeaning) (s t : SessionMeaning) (a b : Sink) (left : ℕ) where
  pub turn_stopped : (fault : NodeFault) (answer : ServeFault) (r : Result Bool ServeFault) → r ≡ Err answer → answer ≡ fault_for fault → IsMade x y s t left (Err fault) → IsTurned x y s t a a left r
  turn_stopped fault answer r is gives (es, to, run, none, part, stopped) =
      subst (λ (k : Result Bool ServeFault). IsTurned x y s t a a left k) (sym is)
      (record { entries = es; to = to; run = run; ends = subst (λ (k : ServeFault). EndsBy a a (frames es) to k) (sym gives) (refused_at a (frames es) to fault none part stopped) })

  pub turn_idle : IsMade x y s t left (Ok None) → IsTurned x y s t a a left (Ok false)
  turn_idle (es, to, run, session, none, next) = (to, record { entries = es; run = run; wrote = nothing a (frames es) none }, next)

  unwritten : (es : List Entry) (to : Answering) (m : Msg) (answer : ServeFault) → frames es ≡ spelling Two m → IsWritten a b (spelling Two m) (Err answer) → EndsBy a b (frames es) to answer
  unwritten es to m faults.WriteFault is (count, lt, some) = (count, subst (λ (t : List ℕ). WroteSome a b t count) (sym is) some)
  unwritten es to m (faults.BadBytes at) is w = absurd w
  unwritten es to m faults.ReadFault is w = absurd w
  unwritten es to m faults.TooLarge is w = absurd w
  unwritten es to m (faults.Worn at) is w = absurd w
  unwritten es to m faults.NoMemory is w = absurd w

  pub turn_unwritten : (m : Msg) (answer : ServeFault) (r : Result Bool ServeFault) → r ≡ Err answer → IsMade x y s t left (Ok (Some m)) → IsWritten a b (spelling Two m) (Err answer) → IsTurned x y s t a b left r
  turn_unwritten m answer r is made w =
      let n = made.1 in
      subst (λ (k : Result Bool ServeFault). IsTurned x y s t a b left k) (sym is)
      (record { entries = n.0; to = n.1; run = n.2; ends = unwritten n.0 n.1 m answer n.4 w })

  pub turn_written : (m : Msg) → IsMade x y s t left (Ok (Some m)) → Wrote a b (spelling Two m) → IsTurned x y s t a b left (Ok true)
  turn_written m made w =
      let n = made.1 in
      (n.1, record { entries = n.0; run = n.2; wrote = subst (λ (t : List ℕ). Wrote a b t) (sym n.4) w }, n.3, n.5, n.6)

-- ---- turn after turn

-- an answer has come so far
pub record HasCome (x y : NodeMeaning) (s t : SessionMeaning) (a b : Sink) (turns left : ℕ) : Type 0 where
  pub to : Answering
  pub written : HasWritten x y s.stream (place x s turns) a b to
  pub session : IsSessionAt s t to
  pub next : to.next ≡ Turn
  pub is_left : to.left ≡ left

pub none_come : (x : NodeMeaning) (s : SessionMeaning) (a : Sink) (turns : ℕ) → s.attached ≡ true → s.standing.time ≤ last_time x.journal → HasCome x x s s a a turns turns
none_come x s a turns attached timely = record {
  to = place x s turns;
  written = record { entries = []; run = record { run = refl; journal = refl; same_id = refl; same_sets = refl }; wrote = wrote_none a };
  session = record { standing = refl; stream = refl; attached = attached; timely = timely };
  next = refl;
  is_left = refl;
}

same_answering : (a b : Answering) → a.journal ≡ b.journal → a.standing ≡ b.standing → a.left ≡ b.left → a.next ≡ b.next → a ≡ b
same_answering a b journal standing left next i = record { journal = journal i; standing = standing i; left = left i; next = next i }

module _ (x y z : NodeMeaning) (s t u : SessionMeaning) (a b c : Sink) (turns left : ℕ) (come : HasCome x y s t a b turns left) where
  -- where the next turn begins
  begins_here : place y t left ≡ come.to
  begins_here = same_answering (place y t left) come.to come.written.run.journal come.session.standing (sym come.is_left) (sym come.next)

  pub timely_here : t.standing.time ≤ last_time y.journal
  timely_here = omega (arith, come.session.timely, ap (λ (k : Standing). k.time) come.session.standing, ap last_time come.written.run.journal)

  runs_on : (ds : List Entry) (to : Answering) → HasRun y z t.stream (place y t left) ds to → HasRun x z s.stream (place x s turns) (come.written.entries ++ ds) to
  runs_on ds to run = goes_then x y z s.stream t.stream (place x s turns) come.to (place y t left) to come.written.entries ds come.session.stream begins_here come.written.run run

  writes_on : (to : Answering) → HasWritten y z t.stream (place y t left) b c to → HasWritten x z s.stream (place x s turns) a c to
  writes_on to w = record {
    entries = come.written.entries ++ w.entries;
    run = runs_on w.entries to w.run;
    wrote = subst (λ (t : List ℕ). Wrote a c t) (sym (frames_then come.written.entries w.entries)) (wrote_then a b c (frames come.written.entries) (frames w.entries) come.written.wrote w.wrote);
  }

  pub comes_on : IsTurned y z t u b c left (Ok true) → HasCome x z s u a c turns (left - 1)
  comes_on (to, written, session, next, more) = record {
    to = to;
    written = writes_on to written;
    session = record { standing = session.standing; stream = session.stream ∙ come.session.stream; attached = session.attached; timely = session.timely };
    next = next;
    is_left = omega (arith, more);
  }

  pub ends_idle : IsTurned y z t u b c left (Ok false) → IsTurnedOut x z s a c turns (Ok tt)
  ends_idle (to, written, next) = (to, writes_on to written, subst (λ (n : Next). IsWholeAt n to.left) (sym next) tt)

  ends_on : (text more : List ℕ) (to : Answering) (fault : ServeFault) → Wrote a b text → EndsBy b c more to fault → EndsBy a c (text ++ more) to fault
  ends_on text more to (faults.Worn at) before (is, part, last, wrote) = (is, part, last, wrote_then a b c text more before wrote)
  ends_on text more to faults.WriteFault before (count, some) = (length text + count, wrote_some_then a b c text more count before some)
  ends_on text more to faults.NoMemory before wrote = wrote_then a b c text more before wrote
  ends_on text more to (faults.BadBytes at) before e = absurd e
  ends_on text more to faults.ReadFault before e = absurd e
  ends_on text more to faults.TooLarge before e = absurd e

  pub breaks_on : (fault : ServeFault) (r : Result (Unit {0}) ServeFault) → r ≡ Err fault → IsTurned y z t u b c left (Err fault) → IsTurnedOut x z s a c turns r
  breaks_on fault r is broken =
      subst (λ (k : Result (Unit {0}) ServeFault). IsTurnedOut x z s a c turns k) (sym is)
      (record {
        entries = come.written.entries ++ broken.entries;
        to = broken.to;
        run = runs_on broken.entries broken.to broken.run;
        ends = subst (λ (t : List ℕ). EndsBy a c t broken.to fault) (sym (frames_then come.written.entries broken.entries)) (ends_on (frames come.written.entries) (frames broken.entries) broken.to fault come.written.wrote broken.ends);
      })

pub all_turned : (x y : NodeMeaning) (s t : SessionMeaning) (a b : Sink) (turns left : ℕ) → HasCome x y s t a b turns left → left ≡ 0 → IsTurnedOut x y s a b turns (Ok tt)
all_turned x y s t a b turns left come none = (come.to, come.written, subst (λ (n : Next). IsWholeAt n come.to.left) (sym come.next) (come.is_left ∙ none))

-- ---- an answer

same_standing : (a b : Standing) → a.names ≡ b.names → a.bodies ≡ b.bodies → a.position ≡ b.position → a.number ≡ b.number → a.time ≡ b.time → ((o : List ℕ) (t : Point) → a.sent o t ≡ b.sent o t) → a ≡ b
same_standing a b names bodies position number time sent i = record { names = names i; bodies = bodies i; position = position i; number = number i; time = time i; sent = λ o t. sent o t i }

pub begins : (x : NodeMeaning) (q : Ask) (new s : SessionMeaning) → IsNewSession new q.stream q.sub q.bodies → HasBegun new s q.start → place x s q.turns ≡ begun x.journal q
begins x q new s fresh start = same_answering (place x s q.turns) (begun x.journal q) refl
    (same_standing s.standing (begun x.journal q).standing (start.names ∙ fresh.is_names) (start.bodies ∙ fresh.is_bodies) start.position (start.number ∙ fresh.number) (start.time ∙ fresh.time) start.sent) refl refl

module _ (x y : NodeMeaning) (q : Ask) (s : SessionMeaning) (a b c : Sink) (same_stream : s.stream ≡ q.stream) (same : place x s q.turns ≡ begun x.journal q) where
  asked_run : (es : List Entry) (to : Answering) → HasRun x y s.stream (place x s q.turns) es to → HasRun x y q.stream (begun x.journal q) es to
  asked_run es to run =
      let by_stream : HasRun x y q.stream (place x s q.turns) es to = subst (λ (k : ℕ). HasRun x y k (place x s q.turns) es to) same_stream run in
      subst (λ (k : Answering). HasRun x y q.stream k es to) same by_stream

  pub answer_broken : (fault : ServeFault) (r : Result (Unit {0}) ServeFault) → r ≡ Err fault → IsTurnedOut x y s a b q.turns (Err fault) → IsAnswered q x y a b r
  answer_broken fault r is broken =
      subst (λ (k : Result (Unit {0}) ServeFault). IsAnswered q x y a b k) (sym is)
      (record { entries = broken.entries; to = broken.to; run = asked_run broken.entries broken.to broken.run; ends = broken.ends })

  no_end : (text : List ℕ) (to : Answering) (fault : ServeFault) → Wrote a b text → IsWritten b c (0 ∷ []) (Err fault) → EndsBy a c text to fault
  no_end text to faults.WriteFault before (count, lt, some) = (length text, none_of count (omega (arith, lt)) some)
    where
      none_of : (n : ℕ) → n ≡ 0 → WroteSome b c (0 ∷ []) n → WroteSome a c text (length text)
      none_of n is w =
          let at_front = wrote_some_then a b c text (0 ∷ []) n before w in
          let here : WroteSome a c (text ++ 0 ∷ []) (length text) = subst (λ (k : ℕ). WroteSome a c (text ++ 0 ∷ []) k) (ap (λ (k : ℕ). length text + k) is ∙ omega arith) at_front in
          record { text = subst (λ (t : List ℕ). Appends a.text c.text t) (take-append-le (length text) text (0 ∷ []) (omega arith)) here.text; risen = here.risen }
  no_end text to (faults.BadBytes at) before w = absurd w
  no_end text to faults.ReadFault before w = absurd w
  no_end text to faults.TooLarge before w = absurd w
  no_end text to (faults.Worn at) before w = absurd w
  no_end text to faults.NoMemory before w = absurd w

  pub answered : (r : Result (Unit {0}) ServeFault) → IsTurnedOut x y s a b q.turns (Ok tt) → IsWritten b c (0 ∷ []) r → IsAnswered q x y a c r
  answered (Ok done) (to, written, whole) w =
      let run = asked_run written.entries to written.run in
      record {
        text = frames written.entries ++ 0 ∷ [];
        output = (written.entries, to, run.run, whole, refl, run.journal);
        wrote = wrote_then a b c (frames written.entries) (0 ∷ []) written.wrote w;
        same_id = run.same_id;
        same_sets = run.same_sets;
      }
  answered (Err fault) (to, written, whole) w =
      record {
        entries = written.entries;
        to = to;
        run = asked_run written.entries to written.run;
        ends = no_end (frames written.entries) to fault written.wrote w;
      }

-- ---- as the results were answered

pub made_as : (x y : NodeMeaning) (s t : SessionMeaning) (left : ℕ) (o other : Option Msg) → o ≡ other → IsMade x y s t left (Ok o) → IsMade x y s t left (Ok other)
made_as x y s t left o other is made = subst (λ (k : Option Msg). IsMade x y s t left (Ok k)) is made

pub none_is : (o : Option Msg) → ((m : Msg) → o ≡ Some m → ⊥) → o ≡ None
none_is None none = refl
none_is (Some m) none = absurd (none m refl)

pub turned_as : (x y : NodeMeaning) (s t : SessionMeaning) (a b : Sink) (left : ℕ) (v other : Bool) → v ≡ other → IsTurned x y s t a b left (Ok v) → IsTurned x y s t a b left (Ok other)
turned_as x y s t a b left v other is turned = subst (λ (k : Bool). IsTurned x y s t a b left (Ok k)) is turned
