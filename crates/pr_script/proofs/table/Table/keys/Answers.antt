use Rattle.pr_script.proofs.Positions.{labels_all}
use Rattle.pr_script.proofs.table.Table.keys.Goals as goal

pub returns-in-Node-clause-labels : goal.returns-in-Node-clause-labels
returns-in-Node-clause-labels c = rw (← c.self.view_is) (labels_all _ _ c.self.invariant.each)

pub returns-in-Client-clause-labels : goal.returns-in-Client-clause-labels
returns-in-Client-clause-labels c = rw (← c.self.view_is) (labels_all _ _ c.self.invariant.each)

pub returns-in-Stream-clause-labels : goal.returns-in-Stream-clause-labels
returns-in-Stream-clause-labels c = rw (← c.self.view_is) (labels_all _ _ c.self.invariant.each)
