use Rattle.std.proofs.Common.{◌≡◌, ◌++◌, take}
use Rattle.pr_sets.specs.Text.{more_text}
use Rattle.pr_sets.proofs.print.print_more.Given as goal

abbrev pub invariant-loop-part : goal.invariant-loop-part
invariant-loop-part l = l.out ≡ l.fn.out ++ more_text (take l.part-index l.parts)
