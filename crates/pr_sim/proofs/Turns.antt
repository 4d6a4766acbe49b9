-- The turns of a flow together, and what a step answers of them.
use Rattle.std.proofs.Common.{◌≡◌, ℕ, ◌+◌, ◌-◌, ◌≤◌, List, [], ◌∷◌, ◌++◌, Result, Ok, Err, IsErrAnd, inl, inr, refl, sym, ◌∙◌, ap, subst, map, reverse, arith}
use Rattle.std.specs.Prelude.{Bool, None, false}
use Rattle.std.proofs.lemmas.List.{append-nil, append_assoc, reverse-append}
use Rattle.std.proofs.lemmas.List.Elements.{All-nil}
use Rattle.std.proofs.lemmas.Result.{err_from_is_err_and}
use Rattle.pr_inval.specs.declared.node_fault.NodeFault.{NodeFault}
use Rattle.pr_flow.specs.declared.flow_end.FlowEnd.{FlowEnd}
use Rattle.pr_flow.specs.declared.flow_end.FlowEnd.TheVariants as ends
use Rattle.pr_flow.specs.declared.stop.Stop.{Stop}
use Rattle.pr_flow.specs.declared.stop.Stop.TheVariants as stops
use Rattle.pr_flow.specs.Ending.{EndsByWire, IsClean, IsCutBy, IsUntold}
use Rattle.pr_story.specs.declared.cause.Cause.TheVariants.{Failed, Ended, Gap}
use Rattle.pr_story.specs.declared.event.Event.{Event}
use Rattle.pr_story.specs.declared.event.Event.TheVariants.{Down, Sent}
use Rattle.pr_story.specs.History.{NodeEntry}
use Rattle.pr_story.specs.Turns.{is_of_stream}
use Rattle.pr_story.specs.Scripts.{AreTurns, Flow, JobAfterJob, LineBegins, events_of}
use Rattle.pr_ports.specs.Faults.{HasRisen}
use Rattle.pr_wires.specs.Calls.{WireState}
use Rattle.pr_sim.specs.Commands.{Ends, attached_of}
use Rattle.pr_flow.specs.Lies.{IsLied}
use Rattle.pr_sim.specs.Flowing.{EndsInLie, FlowEndsSo, IsBegun, LeadsTo, StopsSo, TurnsEnd, WireGoesOn}
use Rattle.pr_sim.specs.Running.{IsRunning}
use Rattle.pr_story.specs.Counts.{Declared}
use Rattle.pr_sim.specs.declared.engine.Engine.{Engine}
use Rattle.pr_sim.proofs.Faults.{stopped_same}
use Rattle.pr_sim.proofs.Flows.{events_append}

-- ---- turn after turn

behind : (s turns left : ℕ) (first es : List NodeEntry) (rest : List Event) → LeadsTo s None turns left (events_of first) → AreTurns s None left (events_of es ++ rest) → AreTurns s None turns (events_of (first ++ es) ++ rest)
behind s turns left first es rest leads are =
    subst (λ (events : List Event). AreTurns s None turns events)
    (sym (append_assoc (events_of first) (events_of es) rest) ∙ ap (λ (events : List Event). events ++ rest) (sym (events_append first es))) (leads (events_of es ++ rest) are)

whole : (s turns left : ℕ) (first es : List NodeEntry) → LeadsTo s None turns left (events_of first) → AreTurns s None left (events_of es) → AreTurns s None turns (events_of (first ++ es))
whole s turns left first es leads are = subst (λ (events : List Event). AreTurns s None turns events) (sym (events_append first es)) (leads (events_of es) are)

again : (left : ℕ) → 1 ≤ left → left - 1 + 1 ≡ left
again left some = omega arith

pub begins_behind : (s turns left : ℕ) (first es : List NodeEntry) → 1 ≤ left → LeadsTo s None turns left (events_of first) → ((k : ℕ) → IsBegun s None (k + 1) (events_of es)) → IsBegun s None turns (events_of (first ++ es))
begins_behind s turns left first es some leads begun =
    let b = subst (λ (k : ℕ). IsBegun s None k (events_of es)) (again left some) (begun (left - 1)) in
    (b.0, behind s turns left first es b.0 leads b.1)

-- behind the turns so far one more ended so
pub ends_behind : (s turns left : ℕ) (end : FlowEnd) (first es : List NodeEntry) → 1 ≤ left → LeadsTo s None turns left (events_of first) → ((k : ℕ) → TurnsEnd s None (k + 1) k end (events_of es))
    → TurnsEnd s None turns (left - 1) end (events_of (first ++ es))
ends_behind s turns left ends.Done first es some leads is =
    λ rest next. behind s turns left first es rest leads (subst (λ (k : ℕ). AreTurns s None k (events_of es ++ rest)) (again left some) (is (left - 1) rest next))
ends_behind s turns left (ends.Lied number sent got) first es some leads is =
    let lie = (is 0).1 in
    let last = lie.3 in (
      begins_behind s turns left first es some leads (λ k. (is k).0),
      (
        lie.0,
        lie.1,
        lie.2,
        (
          events_of first ++ last.0,
          events_append first es ∙ ap (λ (events : List Event). events_of first ++ events) last.1 ∙ sym (append_assoc (events_of first) last.0 (Sent lie.0 ∷ [])),
        ),
      ),
    )
ends_behind s turns left ends.Stale first es some leads is = whole s turns left first es leads (subst (λ (k : ℕ). AreTurns s None k (events_of es)) (again left some) (is (left - 1)))
ends_behind s turns left (ends.Down cause) first es some leads is = whole s turns left first es leads (subst (λ (k : ℕ). AreTurns s None k (events_of es)) (again left some) (is (left - 1)))

-- where the flow ended none is left to be made
pub at_an_end : (s turns left : ℕ) (end : FlowEnd) (events : List Event) → (end ≡ ends.Done → ⊥) → TurnsEnd s None turns left end events → TurnsEnd s None turns 0 end events
at_an_end s turns left ends.Done events other is = absurd (other refl)
at_an_end s turns left (ends.Lied number sent got) events other is = is
at_an_end s turns left ends.Stale events other is = is
at_an_end s turns left (ends.Down cause) events other is = is

pub leads_still : (s turns left : ℕ) (end : FlowEnd) (events : List Event) → end ≡ ends.Done → TurnsEnd s None turns left end events → LeadsTo s None turns left events
leads_still s turns left end events same is = subst (λ (x : FlowEnd). TurnsEnd s None turns left x events) same is

-- ---- wires

rises : (a b c : ℕ) → a ≤ b → HasRisen b c → HasRisen a c
rises a b c le risen = elim risen [ inl more ↦ inl (omega arith) | inr most ↦ inr most ]

cut_behind : (a b c : WireState) (end : FlowEnd) → WireGoesOn a b → IsCutBy b c (Ok end) → IsCutBy a c (Ok end)
cut_behind a b c ends.Done on cut = tt
cut_behind a b c ends.Stale on cut = tt
cut_behind a b c (ends.Lied number sent got) on cut = tt
cut_behind a b c (ends.Down Gap) on cut = tt
cut_behind a b c (ends.Down Failed) on cut = rises a.faults b.faults c.faults on.faults cut
cut_behind a b c (ends.Down Ended) on cut = rises a.ends b.ends c.ends on.ends cut

told_behind : (a b : WireState) (end : FlowEnd) → WireGoesOn a b → IsUntold b.held (Ok end) → IsUntold a.held (Ok end)
told_behind a b ends.Done on untold = tt
told_behind a b ends.Stale on untold = tt
told_behind a b (ends.Lied number sent got) on untold = on.held untold
told_behind a b (ends.Down cause) on untold = tt

pub wire_behind : (a b c : WireState) (end : FlowEnd) → WireGoesOn a b → EndsByWire b c (Ok end) → EndsByWire a c (Ok end)
wire_behind a b c end on by = record {
  faults = omega (arith, on.faults, by.faults);
  ends = omega (arith, on.ends, by.ends);
  cut = cut_behind a b c end on by.cut;
  sound = λ s. by.sound (on.sound s);
  lied = told_behind a b end on by.lied;
  clean = by.clean;
}

pub wire_goes_on : (a b c : WireState) (end : FlowEnd) → WireGoesOn a b → EndsByWire b c (Ok end) → (c.held ≡ None → b.held ≡ None) → end ≡ ends.Done → WireGoesOn a c
wire_goes_on a b c end on by told done =
    let clean : IsClean c.under (Ok ends.Done) = subst (λ (x : FlowEnd). IsClean c.under (Ok x)) done by.clean in
    record {
      faults = omega (arith, on.faults, by.faults);
      ends = omega (arith, on.ends, by.ends);
      sound = λ s. (by.sound (on.sound s)).0;
      held = λ e. on.held (told e);
      under = clean;
    }

-- ---- what a step answers

abbrev invented : List Event → List NodeEntry
invented events = map (λ (v : Event). record { node = 0; entry = record { time = 0; caller = 0; event = v } }) events

as_invented : (events : List Event) → events_of (invented events) ≡ events
as_invented [] = refl
as_invented (v ∷ events) = ap (λ (xs : List Event). v ∷ xs) (as_invented events)

pub flow_begins : (s turns : ℕ) (streams : List ℕ) (es : List NodeEntry) → IsBegun s None turns (events_of es) → LineBegins JobAfterJob streams (Flow s turns) es
flow_begins s turns streams es (rest, are) =
    (invented rest, inl (subst (λ (events : List Event). AreTurns s None turns events) (ap (λ (xs : List Event). events_of es ++ xs) (sym (as_invented rest)) ∙ sym (events_append es (invented rest))) are))

pub failed_begins : (s turns : ℕ) (streams : List ℕ) → LineBegins JobAfterJob streams (Flow s turns) []
failed_begins s turns streams = (invented (Down s Failed ∷ []), inr refl)

pub flow_failed : (s turns : ℕ) (d : Declared) (attached : ℕ → Bool) (h : List NodeEntry) (e : Engine) (was : NodeFault) (r : Result Stop NodeFault) → IsErrAnd r (λ fault. fault ≡ was)
    → Ends (Flow s turns) d attached h e (Err was) → FlowEndsSo s turns d attached h e r
flow_failed s turns d attached h e was r err ended =
    let p = err_from_is_err_and r err in
    subst (λ (x : Result Stop NodeFault). FlowEndsSo s turns d attached h e x) (sym p.1) (subst (λ (x : NodeFault). Ends (Flow s turns) d attached h e (Err x)) (sym p.2) ended)

went : (s turns : ℕ) (d : Declared) (attached : ℕ → Bool) (h : List NodeEntry) (e : Engine) (stop : Stop) → stop ≡ stops.Went → Ends (Flow s turns) d attached h e (Ok tt) → FlowEndsSo s turns d attached h e (Ok stop)
went s turns d attached h e stop is ended = subst (λ (x : Stop). FlowEndsSo s turns d attached h e (Ok x)) (sym is) ended

last_of : (a b : List Event) (x v : Event) → a ++ x ∷ [] ≡ b ++ v ∷ [] → x ≡ v
last_of a b x v is = let r : x ∷ reverse a ≡ v ∷ reverse b = sym (reverse-append a (x ∷ [])) ∙ ap (λ (es : List Event). reverse es) is ∙ reverse-append b (v ∷ []) in cc

-- the last event is the newest
last_is : (new : List NodeEntry) (before : List Event) (v : Event) → events_of (reverse new) ≡ before ++ v ∷ [] → (x : NodeEntry) × (older : List NodeEntry) × (new ≡ x ∷ older) × (x.entry.event ≡ v)
last_is [] before v is = absurd (no_end before v is)
  where
    no_end : (before : List Event) (v : Event) → [] ≡ before ++ v ∷ [] → ⊥
    no_end [] v is = let n : [] ≡ v ∷ [] = is in absurd (cc)
    no_end (b ∷ before) v is = let n : [] ≡ b ∷ (before ++ v ∷ []) = is in absurd (cc)
last_is (x ∷ older) before v is = (x, older, refl, last_of (events_of (reverse older)) before x.entry.event v (sym (events_append (reverse older) (x ∷ [])) ∙ ap (λ (es : List NodeEntry). events_of es) (sym (reverse-append (x ∷ []) older)) ∙ is))

lied_last : (s number : ℕ) (sent got : List ℕ) (h new : List NodeEntry) → EndsInLie s None number sent got (events_of (reverse new)) → IsLied (new ++ h) s number sent got
lied_last s number sent got h new (msg, of, lie, (before, is)) =
    let last = last_is new before (Sent msg) is in
    record {
      msg = msg;
      stream = of;
      last = record {
        newer = [];
        this = last.0;
        older = last.1 ++ h;
        all = ap (λ (es : List NodeEntry). es ++ h) last.2;
        event_is = last.3;
        others = All-nil (λ (e : NodeEntry). is_of_stream e.entry.event s ≡ false);
      };
      lie = lie;
    }

pub stop_ends : (s turns : ℕ) (d : Declared) (attached : ℕ → Bool) (h : List NodeEntry) (e : Engine) (end : FlowEnd) (stop : Stop) → StopsSo s end stop
    → (new : List NodeEntry) × IsRunning d attached (new ++ h) e × TurnsEnd s None turns 0 end (events_of (reverse new)) → FlowEndsSo s turns d attached h e (Ok stop)
stop_ends s turns d attached h e ends.Done stop is (new, running, leads) =
    went s turns d attached h e stop is (new, running, inl (subst (λ (events : List Event). AreTurns s None turns events) (append-nil (events_of (reverse new))) (leads [] refl)))
stop_ends s turns d attached h e ends.Stale stop is (new, running, are) = went s turns d attached h e stop is (new, running, inl are)
stop_ends s turns d attached h e (ends.Down cause) stop is (new, running, are) = went s turns d attached h e stop is (new, running, inl are)
stop_ends s turns d attached h e (ends.Lied number sent got) stop is (new, running, (begun, lie)) =
    subst (λ (x : Stop). FlowEndsSo s turns d attached h e (Ok x)) (sym is)
    (refl, (new, stopped_same d attached (new ++ h) e e running refl refl, flow_begins s turns (attached_of d attached) (reverse new) begun, lied_last s number sent got h new lie))
