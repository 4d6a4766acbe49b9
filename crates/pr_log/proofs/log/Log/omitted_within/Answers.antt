use Rattle.pr_log.proofs.log.Log.omitted_within.Goals as goal

pub returns : goal.returns
returns c = rw (← c.self.view_is) (c.omitted_within.ensures)
