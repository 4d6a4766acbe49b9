use Rattle.std.specs.Prelude.{◌≤◌, ◌-◌, List, drop, length}
use Rattle.pr_story.specs.History.{NodeEntry}
use Rattle.pr_story.specs.Scripts.{JobAfterJob}
use Rattle.pr_top.specs.Progress.{HasCome}
use Rattle.pr_top.proofs.silent.run_all.Given as goal

-- the commands before this place were run
abbrev pub invariant-loop-at : goal.invariant-loop-at
invariant-loop-at l = record {
  within : l.at ≤ length l.list;
  come : (h : List NodeEntry) × HasCome JobAfterJob l.script (drop l.at l.script.commands) h l.run.engine l.run.unmet;
}

abbrev pub decreases-loop-at : goal.decreases-loop-at
decreases-loop-at l = length l.list - l.at
