use Rattle.pr_keep.proofs.FileLemmas.{one_list, sound}
use Rattle.pr_keep.proofs.keep.Keep.open.Goals as goal

pub returns-in-Ok-clause-same : goal.returns-in-Ok-clause-same
returns-in-Ok-clause-same g c = λ es stands. (one_list (g.D.Disk.state c.args.disk).reads c.in-Ok.entries es c.in-Ok.ensures.ok.stands stands, tt)

pub returns-in-Err-clause-same : goal.returns-in-Err-clause-same
returns-in-Err-clause-same g c = λ es stands. (tt, sound (g.D.Disk.state c.args.disk).reads es c.in-Err.fault stands c.in-Err.ensures.err)
