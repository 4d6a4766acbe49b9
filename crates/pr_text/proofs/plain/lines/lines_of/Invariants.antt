use Rattle.std.proofs.Common.{◌≡◌, ◌++◌, ◌-◌, ◌≤◌, drop, map, length}
use Rattle.pr_script.specs.Steps.{AreWhole}
use Rattle.pr_text.specs.Plain.{line_seen}
use Rattle.pr_text.specs.Steps.{lines_of}
use Rattle.pr_text.proofs.plain.lines.lines_of.Given as goal

abbrev pub invariant-loop-at : goal.invariant-loop-at
invariant-loop-at l = record {
  within : l.at ≤ length l.commands;
  whole : AreWhole (drop l.at l.commands);
  all : map line_seen l.lines ++ lines_of (drop l.at l.commands) ≡ lines_of l.commands;
}

abbrev pub decreases-loop-at : goal.decreases-loop-at
decreases-loop-at l = length l.commands - l.at
