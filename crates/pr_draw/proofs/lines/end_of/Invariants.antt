use Rattle.std.proofs.Common.{take}
use Rattle.pr_script.specs.Reading.{HasNoEnd}
use Rattle.pr_draw.proofs.lines.end_of.Given as goal

abbrev pub invariant-loop-at : goal.invariant-loop-at
invariant-loop-at l = HasNoEnd (take l.at l.text)
