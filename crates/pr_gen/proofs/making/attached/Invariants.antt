use Rattle.std.proofs.Common.{◌≡◌, ◌++◌}
use Rattle.pr_script.specs.declared.command.Command.TheVariants.{Attach}
use Rattle.pr_gen.specs.Topology.{each}
use Rattle.pr_gen.specs.Workload.{numbered}
use Rattle.pr_gen.proofs.making.attached.Given as goal

abbrev pub invariant-loop-stream : goal.invariant-loop-stream
invariant-loop-stream l = l.commands ≡ l.fn.commands ++ numbered 33 (each l.stream Attach)
