use Rattle.std.proofs.Common.{◌≡◌, take}
use Rattle.pr_script.specs.declared.owner.Owner.TheVariants as owner
use Rattle.pr_script.specs.Steps.{turns_in}
use Rattle.pr_text.specs.Steps.{lines_by}
use Rattle.pr_text.proofs.job.turns_of.Given as goal

abbrev pub invariant-loop-line : goal.invariant-loop-line
invariant-loop-line l = l.turns ≡ turns_in (lines_by (owner.Stream l.stream) (take l.line-index l.inside))
