use Rattle.pr_node.proofs.Waiting.{none_before}
use Rattle.pr_node.proofs.scan.Scan.first.Goals as goal

pub returns-in-Some : goal.returns-in-Some
returns-in-Some c = rw (← c.self.view_is) (c.in-Some.ensures.first, none_before _ _ c.in-Some.ensures.all_from)
