-- What a settle comes to.
use Rattle.std.proofs.Common.{◌≡◌, ℕ, ◌+◌, ◌<◌, ◌≤◌, List, [], ◌∷◌, ◌++◌, Result, Ok, Err, refl, sym, ◌∙◌, ap, subst, max, length, reverse, arith}
use Rattle.std.specs.Prelude.{Bool, IsTrue, Contains, None, OnOk, filter}
use Rattle.std.proofs.lemmas.List.{append_assoc, get_or_append_left, get_or_push, length-append, reverse-reverse}
use Rattle.pr_vectors.specs.Vector.{clock_of}
use Rattle.pr_inval.specs.declared.node_fault.NodeFault.{NodeFault}
use Rattle.pr_story.specs.declared.event.Event.{Event}
use Rattle.pr_story.specs.History.{NodeEntry, current_vector, journal}
use Rattle.pr_story.specs.Lawful.{Valid}
use Rattle.pr_story.specs.Scripts.{AreAttaches, IsSettle, JobAfterJob, LineBegins, Settle, events_of}
use Rattle.pr_story.specs.Settling.{IsSettled}
use Rattle.pr_story.specs.Turns.{position}
use Rattle.pr_story.proofs.Basics.{clock_at, vector_clock}
use Rattle.pr_story.proofs.Settling.{AllAfter, Arrives, after, after_reversed, all_attached, arrives_begins, arrives_sends, arrives_stays, arrives_takes, settles_settle}
use Rattle.pr_sim.specs.Commands.{Ends, IsCause, attached_of}
use Rattle.pr_sim.specs.Running.{IsRunning, Tells, below}
use Rattle.pr_story.specs.Counts.{Declared}
use Rattle.pr_sim.specs.Settles.{AreAtRest, AreInTime, AttachesAnew, HasRounds, MakesPart}
use Rattle.pr_story.specs.Scripts.{AreRounds}
use Rattle.pr_sim.proofs.Attaching.{just_one}
use Rattle.pr_sim.proofs.Resting.{idle_round}
use Rattle.pr_sim.proofs.Settles.{events_append, events_both, filter_parts}
use Rattle.pr_sim.proofs.Story.{running_story}
use Rattle.pr_sim.specs.declared.engine.Engine.{Engine}

-- ---- the attached streams

-- the item between two parts
between : (xs ys : List ℕ) (s : ℕ) → Contains ((xs ++ s ∷ []) ++ ys) s
between xs ys s =
    let a : length ((xs ++ s ∷ []) ++ ys) ≡ length (xs ++ s ∷ []) + length ys = length-append (xs ++ s ∷ []) ys in
    let b : length (xs ++ s ∷ []) ≡ length xs + 1 = length-append xs (s ∷ []) in
    (length xs, omega arith, get_or_append_left (xs ++ s ∷ []) ys s (length xs) (omega arith) ∙ get_or_push xs s s (length xs) refl)

among_attached : (d : Declared) (attached : ℕ → Bool) (s : ℕ) → s < d.counts.streams → IsTrue (attached s) → Contains (attached_of d attached) s
among_attached d attached s known is =
    let parts = filter_parts attached d.counts.streams s known in
    let first : List ℕ = filter attached (below s) in
    let whole : attached_of d attached ≡ (first ++ s ∷ []) ++ parts.0 = parts.1 ∙ ap (λ (xs : List ℕ). (first ++ xs) ++ parts.0) (just_one attached s is) in
    subst (λ (xs : List ℕ). Contains xs s) (sym whole) (between first parts.0 s)

anything : (h es : List NodeEntry) → AllAfter (λ g e. Unit {0}) h es
anything h [] = tt
anything h (e ∷ es) = (tt, anything (e ∷ h) es)

-- once they are attached anew they are in time
pub attached_in_time : (d : Declared) (attached : ℕ → Bool) (h new : List NodeEntry) → Valid d.plan (new ++ h) → AreAttaches (attached_of d attached) (events_of (reverse new)) → AreInTime d attached (new ++ h)
attached_in_time d attached h new valid attaches s known is =
    let c = among_attached d attached s known is in
    let es : List NodeEntry = reverse new in
    let same : after h es ≡ new ++ h = after_reversed h es ∙ ap (λ (xs : List NodeEntry). xs ++ h) (reverse-reverse new) in
    let then : Arrives d.plan s (after h es) None =
    all_attached d.plan s (λ g e. Unit {0}) (Arrives d.plan s) (arrives_sends d.plan s) (arrives_takes d.plan s) (arrives_stays d.plan s) (arrives_begins d.plan s) h es (attached_of d attached)
    (subst (λ (xs : List NodeEntry). Valid d.plan xs) (sym same) valid) (anything h es) attaches c.0 c.1 c.2 in
    let here : Arrives d.plan s (new ++ h) None = subst (λ (xs : List NodeEntry). Arrives d.plan s xs None) same then in
    λ w lt.
    let le : clock_of (position (new ++ h) s) w ≤ max (clock_at (new ++ h) (d.plan.stream s).destination w) 0 = here w lt in
    let at : clock_of (current_vector (journal (new ++ h) (d.plan.stream s).destination)) w ≡ clock_at (new ++ h) (d.plan.stream s).destination w = vector_clock (new ++ h) (d.plan.stream s).destination w lt in
    omega arith

-- ---- the rounds

pub rounds_ended : (d : Declared) (attached : ℕ → Bool) (h : List NodeEntry) (f : Engine) (sent : Bool) → MakesPart (λ sent es. (n : ℕ) × AreRounds (attached_of d attached) n es) d attached h f (Ok sent) → HasRounds d attached h f (Ok tt)
rounds_ended d attached h f sent (new, running, p, on) = (new, running, p)

pub rounds_failed : (d : Declared) (attached : ℕ → Bool) (h : List NodeEntry) (f : Engine) (fault : NodeFault) → MakesPart (λ sent es. (n : ℕ) × AreRounds (attached_of d attached) n es) d attached h f (Err fault) → HasRounds d attached h f (Err fault)
rounds_failed d attached h f fault (new, tells, (rest, sent, (n, p)), cause) = (new, tells, (rest, n, p), cause)

-- ---- the whole

-- entries of these events
some_entries : (events : List Event) → (es : List NodeEntry) × (events_of es ≡ events)
some_entries [] = ([], refl)
some_entries (event ∷ events) =
    let more = some_entries events in
    (record { node = 0; entry = record { time = 0; caller = 0; event = event } } ∷ more.0, ap (λ (xs : List Event). event ∷ xs) more.1)

begun : (streams : List ℕ) (es : List NodeEntry) (rest : List Event) → IsSettle streams (events_of es ++ rest) → LineBegins JobAfterJob streams Settle es
begun streams es rest p =
    let more = some_entries rest in
    (more.0, subst (λ (xs : List Event). IsSettle streams xs) (ap (λ (xs : List Event). events_of es ++ xs) (sym more.1) ∙ sym (events_append es more.0)) p)

module _ (d : Declared) (attached : ℕ → Bool) (h : List NodeEntry) (f : Engine) where
  pub settle_fails : (fault : NodeFault) → AttachesAnew (attached_of d attached) d attached h f (Err fault) → Ends Settle d attached h f (Err fault)
  settle_fails fault (new, tells, (rest, p), cause) =
      let idle = idle_round (attached_of d attached) in
      let first : List Event = events_of (reverse new) in (
        new,
        tells,
        begun (attached_of d attached) (reverse new) (rest ++ idle.0) (first ++ rest, idle.0, 0, sym (append_assoc first rest idle.0), p, (idle.1, idle.2)),
        cause,
      )

  pub settle_ends : (a : List NodeEntry) → AreAttaches (attached_of d attached) (events_of (reverse a)) → (r : Result (Unit {0}) NodeFault) → HasRounds d attached (a ++ h) f r → Ends Settle d attached h f r
  settle_ends a attaches (Ok done) (b, running, (n, p)) = (
    b ++ a,
    subst (λ (xs : List NodeEntry). IsRunning d attached xs f) (sym (append_assoc b a h)) running,
    (events_of (reverse a), events_of (reverse b), n, events_both a b, attaches, p),
  )
  settle_ends a attaches (Err fault) (b, tells, (rest, n, p), cause) =
      let same : events_of (reverse (b ++ a)) ++ rest ≡ events_of (reverse a) ++ (events_of (reverse b) ++ rest) =
      ap (λ (xs : List Event). xs ++ rest) (events_both a b) ∙ append_assoc (events_of (reverse a)) (events_of (reverse b)) rest in (
        b ++ a,
        subst (λ (xs : List NodeEntry). Tells d xs f) (sym (append_assoc b a h)) tells,
        begun (attached_of d attached) (reverse (b ++ a)) rest (events_of (reverse a), events_of (reverse b) ++ rest, n, same, attaches, p),
        subst (λ (xs : List NodeEntry). IsCause xs fault) (sym (append_assoc b a h)) cause,
      )

  -- the streams are at rest then
  pub settle_rests : Ends Settle d attached h f (Ok tt) → (now : List NodeEntry) → IsRunning d attached now f → AreAtRest d attached now
  settle_rests (new, running, p) now then s known is =
      let same : new ++ h ≡ now = running_story d attached (new ++ h) f running ∙ sym (running_story d attached now f then) in
      subst (λ (xs : List NodeEntry). IsSettled d.plan xs s) same
      (settles_settle d.plan h new (attached_of d attached) running.stands.valid p s (among_attached d attached s known is))

pub on_ok : (r : Result (Unit {0}) NodeFault) (Q : Type 0) → (r ≡ Ok tt → Q) → OnOk r Q
on_ok (Ok done) Q f = f refl
on_ok (Err fault) Q f = tt
