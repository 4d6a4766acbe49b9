use Rattle.std.proofs.Common.{◌≡◌, ◌≤◌, length, take}
use Rattle.pr_text.specs.Steps.{lines_by}
use Rattle.pr_text.proofs.job.count_lines.Given as goal

abbrev pub invariant-loop-line : goal.invariant-loop-line
invariant-loop-line l = (l.lines ≡ length (lines_by l.mine (take l.line-index l.inside))) × (l.lines ≤ l.line-index)
