use Rattle.std.proofs.Common.{◌≡◌, ◌+◌, ◌-◌, ◌++◌, ◌∷◌, []}
use Rattle.pr_script.specs.declared.command.Command.TheVariants.{Settle}
use Rattle.pr_gen.specs.Workload.{drawn, numbered, steps}
use Rattle.pr_gen.proofs.making.stepped.Given as goal

-- what is drawn, and then what is still to be drawn, is all
abbrev pub invariant-loop-i : goal.invariant-loop-i
invariant-loop-i l = l.commands ++ numbered (49 + l.i) ((steps (l.size - l.i) l.words).0 ++ Settle ∷ []) ≡ l.fn.commands ++ numbered 49 (drawn l.seed l.size)
