use Rattle.std.proofs.Common.{◌≡◌, drop}
use Rattle.pr_crew.specs.Works.{first_line}
use Rattle.pr_crew.proofs.planning.first_line.Given as goal

-- the first line is among those that are left
abbrev pub invariant-loop-line : goal.invariant-loop-line
invariant-loop-line l = first_line l.mine l.inside ≡ first_line l.mine (drop l.line-index l.inside)
