use Rattle.std.proofs.Common.{◌∙◌, sym, arith}
use Rattle.std.proofs.lemmas.Grind.{common_steps}
use Rattle.pr_check.proofs.FieldLoops.{at_next, front_ends, front_whole, rest_ends, rest_none}
use Rattle.pr_check.proofs.field.front_and_rest.Goals as goal

pub returns-then-is_end-clause-front : goal.returns-then-is_end-clause-front
returns-then-is_end-clause-front c = front_ends c.args.bytes.now c.loop-at.at c.loop-at.quoted (omega arith) (sym c.is_end.ensures ∙ c.if-is_end.true) c.loop-at.invariant

pub returns-then-is_end-clause-rest : goal.returns-then-is_end-clause-rest
returns-then-is_end-clause-rest c =
    let e = rest_ends c.args.bytes.now c.loop-at.at c.loop-at.quoted (omega arith) (sym c.is_end.ensures ∙ c.if-is_end.true) c.loop-at.invariant in
    grind (arith, common_steps, e)

pub loop-at-preserved : goal.loop-at-preserved
loop-at-preserved c = rw c.quoted_after-quoted.ensures (at_next c.args.bytes.now c.loop-at.at c.loop-at.quoted (omega arith) (sym c.is_end.ensures ∙ c.if-is_end.false) c.loop-at.invariant)

pub returns-clause-front : goal.returns-clause-front
returns-clause-front c = front_whole c.args.bytes.now c.loop-at.at c.loop-at.quoted (omega arith) c.loop-at.invariant

pub returns-clause-rest : goal.returns-clause-rest
returns-clause-rest c =
    let e = rest_none c.args.bytes.now c.loop-at.at c.loop-at.quoted (omega arith) c.loop-at.invariant in
    cc
