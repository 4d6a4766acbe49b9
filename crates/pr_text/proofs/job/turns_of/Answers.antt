use Rattle.std.proofs.Common.{arith}
use Rattle.pr_text.proofs.JobLines.{turns_few, turns_step}
use Rattle.pr_text.proofs.job.turns_of.Goals as goal

pub overflow_add-turns : goal.overflow_add-turns
overflow_add-turns c =
    let then = turns_step c.args.stream c.args.inside.now c.loop-line.line-index c.line-item.result c.loop-line.turns c.turns_by-turns.result c.loop-line-test.true c.line-item.is c.requires.few c.loop-line.invariant c.turns_by-turns.ensures in
    let few = then.1 in
    omega arith

pub loop-line-preserved : goal.loop-line-preserved
loop-line-preserved c =
    (turns_step c.args.stream c.args.inside.now c.loop-line.line-index c.line-item.result c.loop-line.turns c.turns_by-turns.result c.loop-line-test.true c.line-item.is c.requires.few c.loop-line.invariant c.turns_by-turns.ensures).0

pub returns-clause-few : goal.returns-clause-few
returns-clause-few c =
    let most = turns_few c.args.stream c.args.inside.now c.loop-line.line-index in
    let is = c.loop-line.invariant in
    let few = c.requires.few in
    omega (arith, most, is, few)
