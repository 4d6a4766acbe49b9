use Rattle.pr_marks.proofs.Rows.{head_key}
use Rattle.pr_marks.proofs.marks.first.Goals as goal

pub returns-in-Some : goal.returns-in-Some
returns-in-Some c = head_key _ _ _ c.in-Some.ensures.first
