-- How the commands of a script end.
use Rattle.std.proofs.Common.{◌≡◌, ◌⊎◌, ℕ, List, [], ◌∷◌, Result, Ok, Err, inl, inr, refl, sym, ap, subst, arith}
use Rattle.std.specs.Prelude.{Bool}
use Rattle.pr_inval.specs.declared.node_fault.NodeFault.{NodeFault}
use Rattle.pr_inval.specs.declared.node_fault.NodeFault.TheVariants as faults
use Rattle.pr_flow.specs.declared.stop.Stop.{Stop}
use Rattle.pr_flow.specs.declared.stop.Stop.TheVariants as stops
use Rattle.pr_stamps.specs.declared.no_memory.NoMemory.{NoMemory}
use Rattle.pr_script.specs.declared.command.Command.{Command as Said}
use Rattle.pr_script.specs.declared.command.Command.TheVariants as said_commands
use Rattle.pr_script.specs.declared.want.Want.{Want}
use Rattle.pr_story.specs.Commands.{Command}
use Rattle.pr_story.specs.History.{NodeEntry}
use Rattle.pr_story.specs.Scripts.{JobAfterJob, Line, LineGives, Precedes, Single, Expect, Flow, Phase, attached_after}
use Rattle.pr_story.proofs.Begun.{nothing_begins}
use Rattle.pr_story.proofs.InOrder.{pairs_none}
use Rattle.pr_text.specs.Steps.{line_of}
use Rattle.pr_sim.specs.Commands.{Ends, GivesOne, StepEnds, attached_of}
use Rattle.pr_sim.specs.Flowing.{FlowEndsSo, StopsByWires}
use Rattle.pr_sim.specs.Running.{IsRunning}
use Rattle.pr_story.specs.Counts.{Declared}
use Rattle.pr_sim.specs.Stepping.{IsStopOf, StepsByWires, went_of}
use Rattle.pr_sim.specs.declared.engine.Engine.{Engine}

module _ (d : Declared) (attached : ℕ → Bool) (h : List NodeEntry) (e : Engine) where
  -- ---- one entry

  -- a command that made its one entry, or none, is a line that was given, or has begun
  pub one_ends : (command : Command) (r : Result (Unit {0}) NodeFault) → GivesOne command d attached h e r → Ends (Single command) d attached h e r
  one_ends command (Ok done) made = (made.0 ∷ [], made.1, (made.2, refl))
  one_ends command (Err fault) told = ([], told.0, nothing_begins.line JobAfterJob (attached_of d attached) (Single command), told.1)

  -- of what is said in the script
  pub said_ends : (said : Said) (command : Command) (r : Result (Unit {0}) NodeFault) → line_of said ≡ Single command → GivesOne command d attached h e r → Ends (line_of said) d attached h e r
  said_ends said command r is made = subst (λ (line : Line). Ends line d attached h e r) (sym is) (one_ends command r made)

  -- a line that gives nothing
  pub silent_ends : (said : Said) (line : Line) → line_of said ≡ line → LineGives JobAfterJob (attached_of d attached) line [] → IsRunning d (attached_after line attached) h e → Ends (line_of said) d attached h e (Ok tt)
  silent_ends said line is gives running = subst (λ (x : Line). Ends x d attached h e (Ok tt)) (sym is) ([], running, gives)

  -- an expectation, or a word of a phase
  pub word_ends : (said : Said) → ((want : Want) × (said ≡ said_commands.Expect want)) ⊎ ((said ≡ said_commands.Phase) ⊎ (said ≡ said_commands.End)) → IsRunning d attached h e → Ends (line_of said) d attached h e (Ok tt)
  word_ends said (inl expect) k = silent_ends said Expect (ap (λ (x : Said). line_of x) expect.1) refl k
  word_ends said (inr (inl is)) k = silent_ends said (Phase []) (ap (λ (x : Said). line_of x) is) ([], refl, (λ i x lt. absurd (omega arith)), pairs_none (Precedes JobAfterJob)) k
  word_ends said (inr (inr is)) k = silent_ends said (Phase []) (ap (λ (x : Said). line_of x) is) ([], refl, (λ i x lt. absurd (omega arith)), pairs_none (Precedes JobAfterJob)) k

  -- ---- stops

  pub ends_step : (line : Line) (r : Result (Unit {0}) NodeFault) (q : Result Stop NoMemory) → IsStopOf (went_of r) q → Ends line d attached h e r → StepEnds line d attached h e q
  ends_step line (Ok done) q is ends = subst (λ (x : Result Stop NoMemory). StepEnds line d attached h e x) (sym is) ends
  ends_step line (Err (faults.Worn at)) q is ends = subst (λ (x : Result Stop NoMemory). StepEnds line d attached h e x) (sym is) ends
  ends_step line (Err faults.NoMemory) q is ends = subst (λ (x : Result Stop NoMemory). StepEnds line d attached h e x) (sym is) ends

  pub flow_step : (s turns : ℕ) (r : Result Stop NodeFault) (q : Result Stop NoMemory) → IsStopOf r q → FlowEndsSo s turns d attached h e r → StepEnds (Flow s turns) d attached h e q
  flow_step s turns (Ok stops.Went) q is ends = subst (λ (x : Result Stop NoMemory). StepEnds (Flow s turns) d attached h e x) (sym is) ends
  flow_step s turns (Ok (stops.Lied t number sent got)) q is ends = subst (λ (x : Result Stop NoMemory). StepEnds (Flow s turns) d attached h e x) (sym is) ends.1
  flow_step s turns (Ok (stops.Worn at)) q is ends = absurd ends
  flow_step s turns (Err (faults.Worn at)) q is ends = subst (λ (x : Result Stop NoMemory). StepEnds (Flow s turns) d attached h e x) (sym is) ends
  flow_step s turns (Err faults.NoMemory) q is ends = subst (λ (x : Result Stop NoMemory). StepEnds (Flow s turns) d attached h e x) (sym is) ends

  -- of what is said in the script
  pub said_step : (said : Said) (line : Line) (q : Result Stop NoMemory) → line_of said ≡ line → StepEnds line d attached h e q → StepEnds (line_of said) d attached h e q
  said_step said line q is ends = subst (λ (x : Line). StepEnds x d attached h e q) (sym is) ends

-- ---- wires

module _ {W : Type 0} (faults made out : W → ℕ) (sound : W → ℕ → Bool) where
  -- no connection was asked for
  pub no_wires : (w : W) → StepsByWires faults made out sound 1 w w
  no_wires w = record {
    few_made = omega arith;
    none_out = refl;
    faults_rise = omega arith;
    same_sound = refl;
  }

  -- one was
  pub flow_wires : (before now : W) (r : Result Stop NodeFault) → StopsByWires faults made out sound before now r → StepsByWires faults made out sound 1 before now
  flow_wires before now r by = record {
    few_made = let e = by.one_more in omega arith;
    none_out = by.none_out;
    faults_rise = by.faults_rise;
    same_sound = by.same_sound;
  }
