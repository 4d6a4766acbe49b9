-- Which flows may have gone down for their wires, where the engine ran them.
use Rattle.std.proofs.Common.{◌≡◌, ◌⊎◌, ℕ, ◌+◌, ◌-◌, List, [], ◌∷◌, ◌++◌, Result, Ok, Err, inl, inr, refl, sym, ◌∙◌, ap, subst, length, reverse, arith}
use Rattle.std.specs.Prelude.{Bool, IsTrue, Option, Some, None}
use Rattle.std.specs.List.{AllByRecursion, flat_map}
use Rattle.std.proofs.lemmas.Grind.{flat_map-append}
use Rattle.std.proofs.lemmas.List.{append_assoc, append_cancel_right}
use Rattle.pr_inval.specs.declared.msg.Msg.{Msg}
use Rattle.pr_inval.specs.declared.node_fault.NodeFault.{NodeFault}
use Rattle.pr_inval.specs.declared.node_fault.NodeFault.TheVariants as faults
use Rattle.pr_flow.specs.declared.stop.Stop.{Stop}
use Rattle.pr_flow.specs.declared.stop.Stop.TheVariants as stops
use Rattle.pr_flow.specs.Downs.{AreDownsOf, GoesOver, IsDownOf, IsLieAt, IsUnsoundFor, flow_of, flows_of}
use Rattle.pr_flow.proofs.Downs.{downs_both, downs_front, downs_more, downs_reversed, lie_more, made_on, next_here, no_lie_at, so_far_here, sound_downs, sound_or}
use Rattle.pr_stamps.specs.declared.no_memory.NoMemory.{NoMemory}
use Rattle.pr_script.specs.declared.command.Command.{Command as Said}
use Rattle.pr_script.specs.declared.command.Command.TheVariants as commands
use Rattle.pr_story.specs.declared.cause.Cause.TheVariants.{Failed, Ended, Gap}
use Rattle.pr_story.specs.declared.event.Event.{Event}
use Rattle.pr_story.specs.declared.event.Event.TheVariants.{Sent, Idle, Stale, Accepted, Gapped, Down}
use Rattle.pr_story.specs.Counts.{Declared}
use Rattle.pr_story.specs.History.{NodeEntry}
use Rattle.pr_story.specs.Scripts.{AreTurns, IsFlow, Job, events_of}
use Rattle.pr_text.specs.Steps.{line_of}
use Rattle.pr_sim.specs.Flowing.{FlowEndsSo, StopsByWires}
use Rattle.pr_sim.specs.Running.{IsRunning, Tells}
use Rattle.pr_sim.specs.Sound.{AddsDownsOf, AddsSound}
use Rattle.pr_sim.specs.Stepping.{IsShort, IsStopOf, went_of}
use Rattle.pr_sim.specs.declared.engine.Engine.{Engine}
use Rattle.pr_sim.proofs.Story.{running_tells, tells_story}

-- ---- the events of a flow

abbrev AreDowns : (ℕ → Type 0) → List Event → Type 0
AreDowns P events = AllByRecursion (λ (event : Event). IsDownOf P event) events

module _ (P : ℕ → Type 0) where
  of_events : (es : List NodeEntry) → AreDowns P (events_of es) → AreDownsOf P es
  of_events [] a = tt
  of_events (e ∷ es) a = (a.0, of_events es a.1)

  down_last : (s : ℕ) → P s → (events : List Event) → events ≡ [] → AreDowns P events
  down_last s at events is = subst (λ (l : List Event). AreDowns P l) (sym is) tt

  -- a flow of a stream ends as one of it
  turns_downs : (s : ℕ) → P s → (under_way : Option Msg) (turns : ℕ) (events : List Event) → AreTurns s under_way turns events → AreDowns P events
  turns_downs s at None turns [] are = tt
  turns_downs s at None turns (Idle t ∷ events) are = (tt, turns_downs s at None (turns - 1) events are.2)
  turns_downs s at None turns (Stale t cut ∷ events) are = (tt, down_last s at events are.2)
  turns_downs s at None turns (Sent msg ∷ events) are = (tt, turns_downs s at (Some msg) (turns - 1) events are.3)
  turns_downs s at (Some sent) turns (Accepted msg when ∷ events) are = (tt, turns_downs s at None turns events are.1)
  turns_downs s at (Some sent) turns (Gapped msg has ∷ events) are = (tt, subst (λ (l : List Event). AreDowns P l) (sym are.1) (tt, tt))
  turns_downs s at (Some sent) turns (Down t Failed ∷ events) are = (subst (λ (x : ℕ). P x) (sym are.0) at, down_last s at events are.2)
  turns_downs s at (Some sent) turns (Down t Ended ∷ events) are = (subst (λ (x : ℕ). P x) (sym are.0) at, down_last s at events are.2)
  turns_downs s at (Some sent) turns (Down t Gap ∷ events) are = (tt, down_last s at events are.2)
  turns_downs s at under_way turns _ are = absurd are

  flow_downs : (s turns : ℕ) → P s → (es : List NodeEntry) → IsFlow s turns (events_of es) → AreDownsOf P es
  flow_downs s turns at es (inl are) = of_events es (turns_downs s at None turns (events_of es) are)
  flow_downs s turns at es (inr is) = of_events es (subst (λ (l : List Event). AreDowns P l) (sym is) (at, tt))

  -- what a flow of such a stream adds
  at_flow : (s turns : ℕ) → P s → (d : Declared) (attached : ℕ → Bool) (h : List NodeEntry) (e : Engine) (r : Result Stop NodeFault) → FlowEndsSo s turns d attached h e r → AddsDownsOf P d h e
  at_flow s turns at d attached h e (Ok stops.Went) (new, running, is) = (new, running_tells d attached (new ++ h) e running, downs_reversed P new (flow_downs s turns at (reverse new) is))
  at_flow s turns at d attached h e (Ok (stops.Lied t number sent got)) (same, (new, tells, (rest, is), lied)) = (new, tells, downs_reversed P new (downs_front P (reverse new) rest (flow_downs s turns at (reverse new ++ rest) is)))
  at_flow s turns at d attached h e (Ok (stops.Worn when)) ended = absurd ended
  at_flow s turns at d attached h e (Err fault) (new, tells, (rest, is), cause) = (new, tells, downs_reversed P new (downs_front P (reverse new) rest (flow_downs s turns at (reverse new ++ rest) is)))

  lied_at : (s turns : ℕ) → P s → (d : Declared) (attached : ℕ → Bool) (h : List NodeEntry) (e : Engine) (r : Result Stop NodeFault) → FlowEndsSo s turns d attached h e r → IsLieAt P r
  lied_at s turns at d attached h e (Ok stops.Went) ended = tt
  lied_at s turns at d attached h e (Ok (stops.Lied t number sent got)) ended = subst (λ (x : ℕ). P x) (sym ended.0) at
  lied_at s turns at d attached h e (Ok (stops.Worn when)) ended = tt
  lied_at s turns at d attached h e (Err fault) ended = tt

  lie_stop : (r : Result Stop NodeFault) (q : Result Stop NoMemory) → IsStopOf r q → IsLieAt P r → IsLieAt P q
  lie_stop (Ok stop) q is lie = subst (λ (x : Result Stop NoMemory). IsLieAt P x) (sym is) lie
  lie_stop (Err (faults.Worn when)) q is lie = subst (λ (x : Result Stop NoMemory). IsLieAt P x) (sym is) tt
  lie_stop (Err faults.NoMemory) q is lie = subst (λ (x : Result Stop NoMemory). IsLieAt P x) (sym is) tt

  pub sound_adds : (d : Declared) (h : List NodeEntry) (e : Engine) → AddsSound d h e → AddsDownsOf P d h e
  sound_adds d h e (new, tells, sound) = (new, tells, sound_downs P new sound)

-- ---- over the connections

module _ {W : Type 0} (faults_of made out : W → ℕ) (sound : W → ℕ → Bool) where
  -- what a flow adds over its connection
  pub flow_adds_downs : (s turns : ℕ) (before : W) (d : Declared) (attached : ℕ → Bool) (h : List NodeEntry) (e : Engine) (r : Result Stop NodeFault) → FlowEndsSo s turns d attached h e r → (IsTrue (sound before (made before + 1)) → AddsSound d h e)
      → AddsDownsOf (IsUnsoundFor (sound before) (made before) (s ∷ [])) d h e
  flow_adds_downs s turns before d attached h e r ended adds = by (sound_or (sound before) (made before) s)
    where
      by : IsTrue (sound before (made before + 1)) ⊎ IsUnsoundFor (sound before) (made before) (s ∷ []) s → AddsDownsOf (IsUnsoundFor (sound before) (made before) (s ∷ [])) d h e
      by (inl is) = sound_adds (IsUnsoundFor (sound before) (made before) (s ∷ [])) d h e (adds is)
      by (inr at) = at_flow (IsUnsoundFor (sound before) (made before) (s ∷ [])) s turns at d attached h e r ended

  pub flow_over : (s turns : ℕ) (before now : W) (d : Declared) (attached : ℕ → Bool) (h : List NodeEntry) (e : Engine) (r : Result Stop NodeFault) (q : Result Stop NoMemory) → IsStopOf r q → FlowEndsSo s turns d attached h e r → StopsByWires faults_of made out sound before now r
      → GoesOver made sound (s ∷ []) before now q
  flow_over s turns before now d attached h e r q is ended wires = record {
    each_made = λ went. wires.one_more;
    lie = lie_stop (IsUnsoundFor (sound before) (made before) (s ∷ [])) r q is (by (sound_or (sound before) (made before) s));
  }
    where
      by : IsTrue (sound before (made before + 1)) ⊎ IsUnsoundFor (sound before) (made before) (s ∷ []) s → IsLieAt (IsUnsoundFor (sound before) (made before) (s ∷ [])) r
      by (inl sounds) = no_lie_at (IsUnsoundFor (sound before) (made before) (s ∷ [])) r (wires.no_lie sounds)
      by (inr at) = lied_at (IsUnsoundFor (sound before) (made before) (s ∷ [])) s turns at d attached h e r ended

  -- no flow, no connection
  pub none_over : (w : W) (r : Result (Unit {0}) NodeFault) (q : Result Stop NoMemory) → IsStopOf (went_of r) q → GoesOver made sound [] w w q
  none_over w r q is = record { each_made = λ went. omega arith; lie = lie_stop (IsUnsoundFor (sound w) (made w) []) (went_of r) q is (went_lie r) }
    where
      went_lie : (r : Result (Unit {0}) NodeFault) → IsLieAt (IsUnsoundFor (sound w) (made w) []) (went_of r)
      went_lie (Ok done) = tt
      went_lie (Err fault) = tt

pub none_flow : (c : Said) → IsShort c → flows_of (line_of c) ≡ []
none_flow (commands.Flow s turns) short = absurd short
none_flow commands.Settle short = refl
none_flow (commands.Attach s) short = refl
none_flow (commands.Detach s) short = refl
none_flow (commands.Send s) short = refl
none_flow (commands.Checkpoint s) short = refl
none_flow (commands.Deliver s number) short = refl
none_flow (commands.Write client name body) short = refl
none_flow (commands.Delete client name) short = refl
none_flow (commands.Read client name) short = refl
none_flow (commands.Move client node) short = refl
none_flow (commands.Cut node) short = refl
none_flow (commands.State node) short = refl
none_flow (commands.Drop node name) short = refl
none_flow (commands.Conflicts node name) short = refl
none_flow (commands.Expect want) short = refl
none_flow commands.Phase short = refl
none_flow commands.End short = refl

-- ---- jobs one after the other

-- the flows of the jobs so far, of the next one and of the others
pub flows_split : (all jobs : List Job) (job : Job) (rest : List Job) → all ≡ jobs ++ job ∷ rest → flat_map flow_of all ≡ flat_map flow_of jobs ++ (flow_of job ++ flat_map flow_of rest)
flows_split all jobs job rest is = ap (λ (js : List Job). flat_map flow_of js) is ∙ flat_map-append flow_of jobs (job ∷ rest)

module _ (sound later : ℕ → Bool) (made next : ℕ) (fs gs rest all : List ℕ) (same : later ≡ sound) (is : all ≡ fs ++ (gs ++ rest)) where
  -- what was added so far, and what the next job added
  pub downs_next : next ≡ made + length fs → (d : Declared) (attached : ℕ → Bool) (h first : List NodeEntry) (a b : Engine) → IsRunning d attached (first ++ h) a → AddsDownsOf (IsUnsoundFor sound made fs) d h a
      → AddsDownsOf (IsUnsoundFor later next gs) d (first ++ h) b → AddsDownsOf (IsUnsoundFor sound made all) d h b
  downs_next many d attached h first a b running (other, told, so_far) (new, tells, then) =
      let one : other ≡ first = append_cancel_right other first h (tells_story d (other ++ h) a told ∙ sym (tells_story d (first ++ h) a (running_tells d attached (first ++ h) a running))) in
      let front : AreDownsOf (IsUnsoundFor sound made all) first = downs_more (IsUnsoundFor sound made fs) (IsUnsoundFor sound made all) (so_far_here sound later made next fs gs rest all same is) first (subst (λ (l : List NodeEntry). AreDownsOf (IsUnsoundFor sound made fs) l) one so_far) in
      let back : AreDownsOf (IsUnsoundFor sound made all) new = downs_more (IsUnsoundFor later next gs) (IsUnsoundFor sound made all) (next_here sound later made next fs gs rest all same is many) new then in
      (new ++ first, subst (λ (g : List NodeEntry). Tells d g b) (sym (append_assoc new first h)) tells, downs_both (IsUnsoundFor sound made all) new first back front)

module _ {W : Type 0} (made : W → ℕ) (sound : W → ℕ → Bool) (a b c : W) (fs gs rest all : List ℕ) (same : sound b ≡ sound a) (is : all ≡ fs ++ (gs ++ rest)) (many : made b ≡ made a + length fs) where
  -- the next job went its way, and it is the last one
  pub made_next : rest ≡ [] → made c ≡ made b + length gs → made c ≡ made a + length all
  made_next last now = made_on (made a) (made b) (made c) fs gs rest all is last many now

  -- it did not
  pub over_there : (q : Result Stop NoMemory) → (q ≡ Ok stops.Went → ⊥) → GoesOver made sound gs b c q → GoesOver made sound all a c q
  over_there q other goes = record {
    each_made = λ went. absurd (other went);
    lie = lie_more (IsUnsoundFor (sound b) (made b) gs) (IsUnsoundFor (sound a) (made a) all) (λ x at. next_here (sound a) (sound b) (made a) (made b) fs gs rest all same is many x at) q goes.lie;
  }
