use Rattle.pr_marks.proofs.Listed.{is_forgotten}
use Rattle.pr_marks.proofs.marks.Marks.forget.Goals as goal

pub returns-clause-forgotten : goal.returns-clause-forgotten
returns-clause-forgotten c = rw (← c.self.view_is) (is_forgotten _ _ c.args.floor.now c.join-self-inside.ensures c.forget.ensures.newest c.forget.ensures.marks)
