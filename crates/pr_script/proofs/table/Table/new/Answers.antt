use Rattle.pr_script.proofs.Positions.{none_indexed}
use Rattle.pr_script.proofs.table.Table.new.Goals as goal

pub invariant_of-result : goal.invariant_of-result
invariant_of-result c = none_indexed _ _ _ _ c.new.ensures c.new-2.ensures.empty c.new-3.ensures.empty c.new-4.ensures.empty
