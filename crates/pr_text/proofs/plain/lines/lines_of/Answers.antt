use Rattle.std.proofs.Common.{arith}
use Rattle.pr_text.proofs.FirstLines.{last_line}
use Rattle.pr_text.proofs.plain.lines.lines_of.Goals as goal

pub returns : goal.returns
returns c = last_line c.args.commands.now c.loop-at.at _ _ (omega (arith, c.loop-at-test.false)) c.loop-at.invariant.all
