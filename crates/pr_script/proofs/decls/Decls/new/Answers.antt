use Rattle.pr_script.proofs.ByNumber.{none_by_number}
use Rattle.pr_script.proofs.decls.Decls.new.Goals as goal

pub invariant_of-result : goal.invariant_of-result
invariant_of-result c = none_by_number _ _ _ _ c.new.ensures c.new-2.ensures c.new-3.ensures c.new-4.ensures
