use Rattle.pr_top.proofs.Held.{if_went}
use Rattle.pr_top.proofs.reading.take.Goals as goal

pub returns-clause-taken : goal.returns-clause-taken
returns-clause-taken c = λ before holds is. (if_went c.push.result _ c.push.ensures.ok c.if-is_err.ensures.value before holds, c.in-Some.ensures.exact before is)
