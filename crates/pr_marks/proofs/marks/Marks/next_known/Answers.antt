use Rattle.pr_marks.proofs.Rows.{keys_rise}
use Rattle.pr_marks.proofs.marks.Marks.next_known.Goals as goal

pub returns-in-Some-clause-order : goal.returns-in-Some-clause-order
returns-in-Some-clause-order c = rw (← c.self.view_is) (keys_rise _ c.len.ensures.ordered)

pub returns-in-None-clause-order : goal.returns-in-None-clause-order
returns-in-None-clause-order c = rw (← c.self.view_is) (keys_rise _ c.len.ensures.ordered)
