-- What the commands and the jobs of a phase add to what is told of the wires closed.
use Rattle.std.proofs.Common.{◌≡◌, ℕ, List, [], ◌∷◌, ◌++◌, Result, Ok, Err, IsErrAnd, refl, sym, ◌∙◌, ap, subst, reverse}
use Rattle.std.specs.Prelude.{Bool, Option}
use Rattle.std.proofs.lemmas.List.{append-nil, append_assoc, reverse-append}
use Rattle.std.proofs.lemmas.Result.{err_from_is_err_and}
use Rattle.pr_inval.specs.declared.node_fault.NodeFault.{NodeFault}
use Rattle.pr_inval.specs.declared.node_fault.NodeFault.TheVariants as faults
use Rattle.pr_flow.specs.declared.stop.Stop.{Stop}
use Rattle.pr_flow.specs.declared.stop.Stop.TheVariants as stops
use Rattle.pr_stamps.specs.declared.no_memory.NoMemory.{NoMemory}
use Rattle.pr_script.specs.declared.command.Command.{Command as Said}
use Rattle.pr_script.specs.declared.command.Command.TheVariants as commands
use Rattle.pr_story.specs.Commands.{Command}
use Rattle.pr_story.specs.Counts.{Declared}
use Rattle.pr_story.specs.History.{NodeEntry}
use Rattle.pr_story.specs.Scripts.{ClientJob, FlowJob, Job, JobGives}
use Rattle.pr_sim.specs.Crossing.{Adds, CommandCarries, FlowCarries, JobAdds, JobCarries, JobsCarry, PhaseCarries}
use Rattle.pr_sim.specs.Flowing.{FlowEndsSo}
use Rattle.pr_sim.specs.Phasing.{GivesAll}
use Rattle.pr_sim.specs.Running.{IsRunning}
use Rattle.pr_sim.specs.Stepping.{IsShort, IsStopOf, went_of}
use Rattle.pr_sim.specs.declared.engine.Engine.{Engine}
use Rattle.pr_sim.proofs.Crossing.{one_new}

module _ (d : Declared) (attached : ℕ → Bool) (h : List NodeEntry) (e : Engine) where
  -- ---- nothing is said of a fault

  pub none_added : {X : Type 0} (P : X → List NodeEntry → Type 0) (Q : NodeFault → Type 0) (r : Result X NodeFault) → IsErrAnd r Q → Adds P d attached h e r
  none_added {X = X} P Q r err = let p = err_from_is_err_and r err in subst (λ (x : Result X NodeFault). Adds P d attached h e x) (sym p.1) tt

  pub none_carried : (s : ℕ) (before now : Option (List (List ℕ))) (Q : NodeFault → Type 0) (r : Result Stop NodeFault) → IsErrAnd r Q → FlowCarries s before now d attached h e r
  none_carried s before now Q r err = let p = err_from_is_err_and r err in subst (λ (x : Result Stop NodeFault). FlowCarries s before now d attached h e x) (sym p.1) tt

  pub phase_none : (jobs : List Job) (before now : Option (List (List ℕ))) (Q : NoMemory → Type 0) (r : Result Stop NoMemory) → IsErrAnd r Q → PhaseCarries jobs before now d attached h e r
  phase_none jobs before now Q r err = let p = err_from_is_err_and r err in subst (λ (x : Result Stop NoMemory). PhaseCarries jobs before now d attached h e x) (sym p.1) tt

  -- ---- commands

  module _ (before now : Option (List (List ℕ))) where
    by_answer : (s : ℕ) (flow : Result Stop NodeFault) (r : Result Stop NoMemory) → IsStopOf flow r → FlowCarries s before now d attached h e flow → FlowCarries s before now d attached h e r
    by_answer s (Ok stops.Went) r is carries = subst (λ (x : Result Stop NoMemory). FlowCarries s before now d attached h e x) (sym is) carries
    by_answer s (Ok (stops.Worn at)) r is carries = subst (λ (x : Result Stop NoMemory). FlowCarries s before now d attached h e x) (sym is) tt
    by_answer s (Ok (stops.Lied stream number sent got)) r is carries = subst (λ (x : Result Stop NoMemory). FlowCarries s before now d attached h e x) (sym is) tt
    by_answer s (Err (faults.Worn at)) r is carries = subst (λ (x : Result Stop NoMemory). FlowCarries s before now d attached h e x) (sym is) tt
    by_answer s (Err faults.NoMemory) r is carries = subst (λ (x : Result Stop NoMemory). FlowCarries s before now d attached h e x) (sym is) tt

    pub flow_carries : (command : Said) (s turns : ℕ) (flow : Result Stop NodeFault) (r : Result Stop NoMemory) → command ≡ commands.Flow s turns → IsStopOf flow r → FlowCarries s before now d attached h e flow
        → CommandCarries command before now d attached h e r
    flow_carries command s turns flow r said is carries = subst (λ (c : Said). CommandCarries c before now d attached h e r) (sym said) (by_answer s flow r is carries)

    -- ---- jobs

    pub flow_adds : (s turns : ℕ) (job : Job) (flow : Result Stop NodeFault) (r : Result Stop NoMemory) → job ≡ FlowJob s turns → IsStopOf flow r → FlowEndsSo s turns d attached h e flow → FlowCarries s before now d attached h e flow
        → JobAdds job before now d attached h e r
    flow_adds s turns job flow r said is ended carries = subst (λ (j : Job). JobAdds j before now d attached h e r) (sym said) (by flow is ended carries)
      where
        by : (x : Result Stop NodeFault) → IsStopOf x r → FlowEndsSo s turns d attached h e x → FlowCarries s before now d attached h e x → JobAdds (FlowJob s turns) before now d attached h e r
        by (Ok stops.Went) is (new, running, gives) (other, also, carried) =
            subst (λ (x : Result Stop NoMemory). JobAdds (FlowJob s turns) before now d attached h e x) (sym is)
            (new, running, gives, subst (λ (es : List NodeEntry). JobCarries (FlowJob s turns) (reverse es) before now) (sym (one_new d attached h new other e running also)) carried)
        by (Ok (stops.Worn at)) is ended carries = subst (λ (x : Result Stop NoMemory). JobAdds (FlowJob s turns) before now d attached h e x) (sym is) tt
        by (Ok (stops.Lied stream number sent got)) is ended carries = subst (λ (x : Result Stop NoMemory). JobAdds (FlowJob s turns) before now d attached h e x) (sym is) tt
        by (Err (faults.Worn at)) is ended carries = subst (λ (x : Result Stop NoMemory). JobAdds (FlowJob s turns) before now d attached h e x) (sym is) tt
        by (Err faults.NoMemory) is ended carries = subst (λ (x : Result Stop NoMemory). JobAdds (FlowJob s turns) before now d attached h e x) (sym is) tt

    pub other_stop : (jobs : List Job) (stop : Stop) → (stop ≡ stops.Went → ⊥) → PhaseCarries jobs before now d attached h e (Ok stop)
    other_stop jobs stops.Went other = absurd (other refl)
    other_stop jobs (stops.Worn at) other = tt
    other_stop jobs (stops.Lied stream number sent got) other = tt

  -- a command that has no wire
  pub none_said : (command : Said) (before : Option (List (List ℕ))) (r : Result Stop NoMemory) → IsShort command → CommandCarries command before before d attached h e r
  none_said (commands.Flow s turns) before r short = absurd short
  none_said commands.Settle before r short = refl
  none_said (commands.Attach s) before r short = refl
  none_said (commands.Detach s) before r short = refl
  none_said (commands.Send s) before r short = refl
  none_said (commands.Checkpoint s) before r short = refl
  none_said (commands.Deliver s number) before r short = refl
  none_said (commands.Write client name body) before r short = refl
  none_said (commands.Delete client name) before r short = refl
  none_said (commands.Read client name) before r short = refl
  none_said (commands.Move client node) before r short = refl
  none_said (commands.Cut node) before r short = refl
  none_said (commands.State node) before r short = refl
  none_said (commands.Drop node name) before r short = refl
  none_said (commands.Conflicts node name) before r short = refl
  none_said (commands.Expect want) before r short = refl
  none_said commands.Phase before r short = refl
  none_said commands.End before r short = refl

  pub settle_said : (command : Said) (before : Option (List (List ℕ))) (r : Result Stop NoMemory) → command ≡ commands.Settle → CommandCarries command before before d attached h e r
  settle_said command before r is = subst (λ (c : Said). CommandCarries c before before d attached h e r) (sym is) refl

  pub client_adds : (asked : List Command) (job : Job) (before : Option (List (List ℕ))) (ended : Result (Unit {0}) NodeFault) (r : Result Stop NoMemory) → job ≡ ClientJob asked → IsStopOf (went_of ended) r
      → GivesAll asked d attached h e ended → JobAdds job before before d attached h e r
  client_adds asked job before (Ok tt) r said is (new, running, gives) =
      subst (λ (j : Job). JobAdds j before before d attached h e r) (sym said)
      (subst (λ (x : Result Stop NoMemory). JobAdds (ClientJob asked) before before d attached h e x) (sym is) (new, running, gives, refl))
  client_adds asked job before (Err (faults.Worn at)) r said is ended = subst (λ (x : Result Stop NoMemory). JobAdds job before before d attached h e x) (sym is) tt
  client_adds asked job before (Err faults.NoMemory) r said is ended = subst (λ (x : Result Stop NoMemory). JobAdds job before before d attached h e x) (sym is) tt

-- ---- job after job

pub jobs_more : (jobs : List Job) (job : Job) (es fs : List NodeEntry) (before then now : Option (List (List ℕ))) → JobsCarry jobs es before then → JobGives job fs → JobCarries job fs then now → JobsCarry (jobs ++ job ∷ []) (es ++ fs) before now
jobs_more [] job es fs before then now (none, same) gives carries =
    (fs, [], now, ap (λ (gs : List NodeEntry). gs ++ fs) none ∙ sym (append-nil fs), gives, subst (λ (o : Option (List (List ℕ))). JobCarries job fs o now) same carries, (refl, refl))
jobs_more (j ∷ jobs) job es fs before then now (first, rest, mid, is, given, carried, more) gives carries =
    (first, rest ++ fs, mid, ap (λ (gs : List NodeEntry). gs ++ fs) is ∙ append_assoc first rest fs, given, carried, jobs_more jobs job rest fs mid then now more gives carries)

pub phase_more : (d : Declared) (attached : ℕ → Bool) (h new : List NodeEntry) (e : Engine) (jobs : List Job) (job : Job) (before then now : Option (List (List ℕ))) → JobsCarry jobs (reverse new) before then
    → JobAdds job then now d attached (new ++ h) e (Ok stops.Went) → (all : List NodeEntry) × IsRunning d attached (all ++ h) e × JobsCarry (jobs ++ job ∷ []) (reverse all) before now
phase_more d attached h new e jobs job before then now so_far (more, running, gives, carries) = (
  more ++ new,
  subst (λ (g : List NodeEntry). IsRunning d attached g e) (sym (append_assoc more new h)) running,
  subst (λ (es : List NodeEntry). JobsCarry (jobs ++ job ∷ []) es before now) (sym (reverse-append more new)) (jobs_more jobs job (reverse new) (reverse more) before then now so_far gives carries),
)
