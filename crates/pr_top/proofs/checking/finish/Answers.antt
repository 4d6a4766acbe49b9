use Rattle.pr_top.proofs.checking.finish.Goals as goal

pub returns-in-Ok : goal.returns-in-Ok
returns-in-Ok c bytes read = c.judgement-judgement.ensures bytes (c.in-Ok.ensures.read bytes read)
