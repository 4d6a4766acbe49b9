use Rattle.std.proofs.Common.{arith}
use Rattle.pr_script.proofs.Beginnings.{one_more}
use Rattle.pr_script.proofs.Spelled.{sets_turn, sets_end}
use Rattle.pr_script.proofs.spelling.sets_fields.Goals as goal

pub loop-set-preserved : goal.loop-set-preserved
loop-set-preserved c = record {
  text = sets_turn c.args.sets.now c.loop-set.set-index c.set-item.result c.loop-set.out _ _ (omega arith) c.set-item.is c.in_ok-set_field.ensures.ok c.loop-set.invariant.text;
  begins = one_more _ _ _ _ c.loop-set.invariant.begins c.in_ok-set_field.ensures.ok;
}

pub returns-clause-ok : goal.returns-clause-ok
returns-clause-ok c = sets_end c.args.sets.now c.loop-set.set-index c.loop-set.out _ (omega arith) c.loop-set.invariant.text
