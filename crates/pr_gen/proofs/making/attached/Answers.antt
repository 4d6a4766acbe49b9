use Rattle.std.proofs.Common.{◌∙◌, refl}
use Rattle.pr_script.specs.declared.command.Command.TheVariants.{Attach}
use Rattle.pr_gen.proofs.Numbering.{no_line, one_line}
use Rattle.pr_gen.proofs.making.attached.Goals as goal

pub loop-stream-init : goal.loop-stream-init
loop-stream-init c = no_line Attach 33 c.args.commands.now

pub loop-stream-preserved : goal.loop-stream-preserved
loop-stream-preserved c = c.in_ok-push.ensures.ok ∙ rw c.from-line.ensures (one_line Attach 33 c.loop-stream.stream _ _ _ c.loop-stream.invariant refl)
