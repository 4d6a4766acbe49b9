use Rattle.std.proofs.Common.{◌∙◌, sym, arith}
use Rattle.pr_check.proofs.FieldLoops.{behind_done, behind_next}
use Rattle.pr_check.proofs.field.behind.Goals as goal

pub loop-preserved : goal.loop-preserved
loop-preserved c =
    rw c.front_and_rest.ensures.rest
    (c.loop.invariant ∙ behind_next c.args.count c.loop.counter c.loop.rest.now (omega arith))

pub returns : goal.returns
returns c = sym (c.loop.invariant ∙ behind_done c.args.count c.loop.counter c.loop.rest.now (omega arith))
