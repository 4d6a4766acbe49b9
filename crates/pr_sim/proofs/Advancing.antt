-- A turn of a stream in a settle, and what follows it at once.
use Rattle.std.proofs.Common.{◌≡◌, ◌⊎◌, max, ℕ, ◌+◌, ◌<◌, ◌≤◌, List, [], ◌∷◌, Ok, Err, inl, inr, refl, sym, ◌∙◌, ap, subst, cond, nat_eq, length, arith}
use Rattle.std.specs.Prelude.{true, false, Bool, IsTrue, Contains}
use Rattle.std.proofs.lemmas.List.FromFn.{get_or-range_with_len, length-range_with_len}
use Rattle.pr_vectors.specs.Vector.{Le, clock_of, join_of}
use Rattle.pr_inval.specs.declared.kind.Kind.TheVariants.{Checkpoint}
use Rattle.pr_inval.specs.declared.node_fault.NodeFault.{NodeFault}
use Rattle.pr_inval.specs.declared.msg.Msg.{Msg}
use Rattle.pr_story.specs.declared.entry.Entry.{Entry}
use Rattle.pr_story.specs.declared.event.Event.{Event}
use Rattle.pr_story.specs.declared.event.Event.TheVariants.{Accepted, Idle, Sent, Stale}
use Rattle.pr_story.specs.Commands.{IsCheckpoint, IsNoCheckpoint}
use Rattle.pr_story.specs.History.{Plan, NodeEntry, Sends, journal}
use Rattle.pr_story.specs.Knowledge.{cut_in, cuts_of}
use Rattle.pr_story.specs.Lawful.{IsLawful, IsPlaced, MayComeByWorld, Valid}
use Rattle.pr_story.specs.Remaining.{IsNoStart, SendsOn, left_to_send}
use Rattle.pr_story.specs.Scripts.{AreSettled, HasSent}
use Rattle.pr_story.specs.Settling.{IsInTime}
use Rattle.pr_story.specs.Turns.{position, position_after}
use Rattle.pr_story.proofs.Making.{join_clock}
use Rattle.pr_story.proofs.InTime.{stays_in_time}
use Rattle.pr_story.proofs.Remaining.{less_is_left}
use Rattle.pr_sim.specs.Commands.{IsCause}
use Rattle.pr_sim.specs.Running.{HasAttached, IsRunning, Tells, below}
use Rattle.pr_story.specs.Counts.{Declared}
use Rattle.pr_sim.proofs.Attaching.{session_at}
use Rattle.pr_sim.proofs.Settles.{goes_both}
use Rattle.pr_sim.specs.Settles.{SettlesOn, IsAdvance, IsAcceptOf, LeadsToRest, MakesPart}
use Rattle.pr_sim.specs.declared.engine.Engine.{Engine}

-- ---- what is left to send

among : (n s : ℕ) → s < n → Contains (below n) s
among n s lt =
    let l : length (below n) ≡ n = length-range_with_len 0 n in
    let e : 0 + s ≡ s = omega arith in
    (s, omega arith, get_or-range_with_len 0 n s s lt ∙ e)

module _ (plan : Plan) (h : List NodeEntry) (e : NodeEntry) (event : Event) (streams : List ℕ) (valid : Valid plan (e ∷ h)) (is : e.entry.event ≡ event) (none : IsNoStart event) where
  no_start : IsNoStart e.entry.event
  no_start = subst (λ (v : Event). IsNoStart v) (sym is) none

  no_more : left_to_send (e ∷ h) streams ≤ left_to_send h streams
  no_more = (less_is_left plan h e streams valid no_start).0

  less : SendsOn plan h streams event → left_to_send (e ∷ h) streams < left_to_send h streams
  less on = (less_is_left plan h e streams valid no_start).1 (subst (λ (v : Event). SendsOn plan h streams v) (sym is) on)

  stays : ((msg : Msg) → Sends event msg → ⊥) → (s : ℕ) → IsInTime plan h s → IsInTime plan (e ∷ h) s
  stays nothing s t = (stays_in_time plan s).other h e valid (λ msg sends same. nothing msg (subst (λ (v : Event). Sends v msg) is sends)) t

-- a cut stays
cuts_stay : (b : Bool) (e : Entry) (j : List Entry) → Le (cuts_of j) (cuts_of (cond b (e ∷ j) j))
cuts_stay false e j w lt = omega arith
cuts_stay true e j w lt =
    let both : clock_of (join_of (cuts_of j) (cut_in e.event)) w ≡ max (clock_of (cuts_of j) w) (clock_of (cut_in e.event) w) = join_clock (cuts_of j) (cut_in e.event) w lt in
    omega arith

le_trans : (u v w : List ℕ) → Le u v → Le v w → Le u w
le_trans u v w a b n lt = let x : clock_of u n ≤ clock_of v n = a n lt in let y : clock_of v n ≤ clock_of w n = b n lt in omega arith

module _ (plan : Plan) (h : List NodeEntry) (x : NodeEntry) (s : ℕ) (cut : List ℕ) (lawful : IsLawful plan h x) (is : x.entry.event ≡ Stale s cut) where
  not_held : Le (cuts_of (journal h (plan.stream s).source)) (position h s) → ⊥
  not_held le =
      let placed : IsPlaced plan h x.node (Stale s cut) = subst (λ (v : Event). IsPlaced plan h x.node v) is lawful.placed in
      let may : MayComeByWorld plan h x.node x.entry.time (Stale s cut) = subst (λ (v : Event). MayComeByWorld plan h x.node x.entry.time v) is lawful.may_come in
      may.1 (subst (λ (n : ℕ). Le (cuts_of (journal h n)) (position h s)) (sym placed) le)

  -- a stream that is stale is so still
  not_held_then : Le (cuts_of (journal (x ∷ h) (plan.stream s).source)) (position (x ∷ h) s) → ⊥
  not_held_then le =
      let stays : position_after x.entry.event s (position h s) ≡ position h s = ap (λ (v : Event). position_after v s (position h s)) is in
      not_held (le_trans (cuts_of (journal h (plan.stream s).source)) (cuts_of (journal (x ∷ h) (plan.stream s).source)) (position h s)
      (cuts_stay (nat_eq x.node (plan.stream s).source) x.entry (journal h (plan.stream s).source))
      (subst (λ (p : List ℕ). Le (cuts_of (journal (x ∷ h) (plan.stream s).source)) p) stays le))

-- ---- how a settle goes on

module _ (d : Declared) (h : List NodeEntry) where
  quiet_goes : (e : NodeEntry) (event : Event) → Valid d.plan (e ∷ h) → e.entry.event ≡ event → IsNoStart event → ((msg : Msg) → Sends event msg → ⊥) → (HasSent (event ∷ []) → ⊥) → SettlesOn d h (e ∷ []) false
  quiet_goes e event valid is none sends says = record {
    says = subst (λ (v : Event). HasSent (v ∷ []) → ⊥) (sym is) says;
    in_time = stays d.plan h e event (below d.counts.streams) valid is none sends;
    less = no_more d.plan h e event (below d.counts.streams) valid is none;
  }

  passed_goes : (e t : NodeEntry) (msg : Msg) → Valid d.plan (t ∷ (e ∷ h)) → e.entry.event ≡ Sent msg → IsAcceptOf msg t → SendsOn d.plan h (below d.counts.streams) (Sent msg) → SettlesOn d h (t ∷ (e ∷ [])) true
  passed_goes e t msg valid is passed on = record {
    says = subst (λ (v : Event). HasSent (v ∷ (t.entry.event ∷ []))) (sym is) tt;
    in_time = λ s in_time. (stays_in_time d.plan s).taken h e t msg passed.0 valid is passed.1 in_time;
    less =
        let a : left_to_send (e ∷ h) (below d.counts.streams) < left_to_send h (below d.counts.streams) = less d.plan h e (Sent msg) (below d.counts.streams) valid.1 is tt on in
        let b : left_to_send (t ∷ (e ∷ h)) (below d.counts.streams) ≤ left_to_send (e ∷ h) (below d.counts.streams) = no_more d.plan (e ∷ h) t (Accepted msg passed.0) (below d.counts.streams) valid passed.1 tt in
        omega arith;
  }

-- ---- what a turn makes

-- a checkpoint that could have been
abbrev some_checkpoint : ℕ → Msg
some_checkpoint s = record { time = 0; stream = s; number = 0; kind = Checkpoint [] [] [] [] }

module _ (d : Declared) (attached : ℕ → Bool) (h : List NodeEntry) (f : Engine) (s : ℕ) (known : s < d.counts.streams) where
  sends_on : (g : List NodeEntry) (msg : Msg) → msg.stream ≡ s → IsNoCheckpoint msg.kind ⊎ (Le (cuts_of (journal g (d.plan.stream s).source)) (position g s) → ⊥) → SendsOn d.plan g (below d.counts.streams) (Sent msg)
  sends_on g msg of why = (
    subst (λ (i : ℕ). Contains (below d.counts.streams) i) (sym of) (among d.counts.streams s known),
    subst (λ (i : ℕ). IsNoCheckpoint msg.kind ⊎ (Le (cuts_of (journal g (d.plan.stream i).source)) (position g i) → ⊥)) (sym of) why,
  )

  pub none_advanced : (fault : NodeFault) → Tells d h f → IsCause h fault → MakesPart (IsAdvance s) d attached h f (Err fault)
  none_advanced fault tells cause = ([], tells, (Idle s ∷ [], false, refl), cause)

  pub idle_advanced : (e : NodeEntry) → IsRunning d attached (e ∷ h) f → e.entry.event ≡ Idle s → MakesPart (IsAdvance s) d attached h f (Ok false)
  idle_advanced e running is = (
    e ∷ [],
    running,
    subst (λ (v : Event). AreSettled s (v ∷ [])) (sym is) refl,
    quiet_goes d h e (Idle s) running.stands.valid is tt (λ msg sends. sends) (λ sent. sent),
  )

  -- a message that was taken
  sent_leads : (v w : Event) (msg : Msg) (at : List ℕ) → v ≡ Sent msg → w ≡ Accepted msg at → msg.stream ≡ s → IsNoCheckpoint msg.kind → LeadsToRest s (v ∷ (w ∷ []))
  sent_leads v w msg at is took of plain more m =
      subst (λ (y : Event). AreSettled s (y ∷ (w ∷ more))) (sym is) (subst (λ (y : Event). AreSettled s (Sent msg ∷ (y ∷ more))) (sym took) (of, plain, refl, m))

  pub sent_advanced : (e t : NodeEntry) (msg : Msg) → IsRunning d attached (t ∷ (e ∷ h)) f → e.entry.event ≡ Sent msg → msg.stream ≡ s → IsNoCheckpoint msg.kind → IsAcceptOf msg t → MakesPart (IsAdvance s) d attached h f (Ok true)
  sent_advanced e t msg running is of plain passed = (
    t ∷ (e ∷ []),
    running,
    sent_leads e.entry.event t.entry.event msg passed.0 is passed.1 of plain,
    passed_goes d h e t msg running.stands.valid is passed (sends_on h msg of (inl plain)),
  )

  pub sent_stopped : (e : NodeEntry) (msg : Msg) (fault : NodeFault) → Tells d (e ∷ h) f → IsCause (e ∷ h) fault → e.entry.event ≡ Sent msg → msg.stream ≡ s → IsNoCheckpoint msg.kind → MakesPart (IsAdvance s) d attached h f (Err fault)
  sent_stopped e msg fault tells cause is of plain = (e ∷ [], tells, (Accepted msg [] ∷ [], true, sent_leads e.entry.event (Accepted msg []) msg [] is refl of plain), cause)

  -- a checkpoint that was taken behind a stale turn
  stale_leads : (u v w : Event) (cut : List ℕ) (msg : Msg) (at : List ℕ) → u ≡ Stale s cut → v ≡ Sent msg → w ≡ Accepted msg at → msg.stream ≡ s → IsCheckpoint msg.kind → LeadsToRest s (u ∷ (v ∷ (w ∷ [])))
  stale_leads u v w cut msg at was is took of checkpoint more m =
      subst (λ (y : Event). AreSettled s (y ∷ (v ∷ (w ∷ more)))) (sym was)
      (subst (λ (y : Event). AreSettled s (Stale s cut ∷ (y ∷ (w ∷ more)))) (sym is)
      (subst (λ (y : Event). AreSettled s (Stale s cut ∷ (Sent msg ∷ (y ∷ more)))) (sym took) (refl, of, checkpoint, refl, m)))

  pub stale_advanced : (x e t : NodeEntry) (cut : List ℕ) (msg : Msg) → IsRunning d attached (t ∷ (e ∷ (x ∷ h))) f → x.entry.event ≡ Stale s cut → e.entry.event ≡ Sent msg → msg.stream ≡ s → IsCheckpoint msg.kind → IsAcceptOf msg t
      → MakesPart (IsAdvance s) d attached h f (Ok true)
  stale_advanced x e t cut msg running was is of checkpoint passed =
      let valid : Valid d.plan (t ∷ (e ∷ (x ∷ h))) = running.stands.valid in (
        t ∷ (e ∷ (x ∷ [])),
        running,
        stale_leads x.entry.event e.entry.event t.entry.event cut msg passed.0 was is passed.1 of checkpoint,
        goes_both d h (x ∷ []) (t ∷ (e ∷ [])) false true
            (quiet_goes d h x (Stale s cut) valid.1.1 was tt (λ m sends. sends) (λ sent. sent))
            (passed_goes d (x ∷ h) e t msg valid is passed (sends_on (x ∷ h) msg of (inr (not_held_then d.plan h x s cut valid.1.1.0 was)))),
      )

  pub stale_stopped : (x : NodeEntry) (cut : List ℕ) (fault : NodeFault) → Tells d (x ∷ h) f → IsCause (x ∷ h) fault → x.entry.event ≡ Stale s cut → MakesPart (IsAdvance s) d attached h f (Err fault)
  stale_stopped x cut fault tells cause was =
      let msg : Msg = some_checkpoint s in (
        x ∷ [],
        tells,
        (Sent msg ∷ (Accepted msg [] ∷ []), true, stale_leads x.entry.event (Sent msg) (Accepted msg []) cut msg [] was refl refl refl tt),
        cause,
      )

  pub checkpoint_stopped : (x e : NodeEntry) (cut : List ℕ) (msg : Msg) (fault : NodeFault) → Tells d (e ∷ (x ∷ h)) f → IsCause (e ∷ (x ∷ h)) fault → x.entry.event ≡ Stale s cut → e.entry.event ≡ Sent msg → msg.stream ≡ s → IsCheckpoint msg.kind
      → MakesPart (IsAdvance s) d attached h f (Err fault)
  checkpoint_stopped x e cut msg fault tells cause was is of checkpoint = (
    e ∷ (x ∷ []),
    tells,
    (Accepted msg [] ∷ [], true, stale_leads x.entry.event e.entry.event (Accepted msg []) cut msg [] was is refl of checkpoint),
    cause,
  )

-- ---- the stream

-- the stream is attached still
pub still_attached : (d : Declared) (attached : ℕ → Bool) (h g : List NodeEntry) (e f : Engine) (s : ℕ) → IsRunning d attached h e → IsRunning d attached g f → HasAttached e s → s < length f.sessions.items → HasAttached f s
still_attached d attached h g e f s k l (x, at, on) known =
    let y = session_at d attached g f s l known in
    (y.0, y.1, y.3 ∙ sym (k.attached_are s x at) ∙ on)

pub same_streams : (d : Declared) (attached : ℕ → Bool) (h g : List NodeEntry) (e f : Engine) (s : ℕ) → IsRunning d attached h e → IsRunning d attached g f → s < length e.sessions.items → s < length f.sessions.items
same_streams d attached h g e f s k l known =
    let a : length e.sessions.items ≡ d.counts.streams = k.streams in
    let b : length f.sessions.items ≡ d.counts.streams = l.streams in
    omega arith

pub now_attached : (d : Declared) (attached : ℕ → Bool) (h : List NodeEntry) (e : Engine) (s : ℕ) → IsRunning d attached h e → HasAttached e s → IsTrue (attached s)
now_attached d attached h e s k (x, at, on) = sym (k.attached_are s x at) ∙ on

-- a stale turn keeps the stream in time
pub stale_in_time : (plan : Plan) (h : List NodeEntry) (x : NodeEntry) (s : ℕ) (cut : List ℕ) → Valid plan (x ∷ h) → x.entry.event ≡ Stale s cut → IsInTime plan h s → IsInTime plan (x ∷ h) s
stale_in_time plan h x s cut valid is t = stays plan h x (Stale s cut) [] valid is tt (λ msg sends. sends) s t
