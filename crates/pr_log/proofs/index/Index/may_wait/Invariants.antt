use Rattle.std.proofs.Common.{◌<◌}
use Rattle.pr_inval.specs.declared.write_rec.WriteRec.{WriteRec}
use Rattle.pr_log.specs.Known.{IsWaiting}
use Rattle.pr_log.proofs.index.Index.may_wait.Given as goal

abbrev pub invariant-loop-n : goal.invariant-loop-n
invariant-loop-n l = (x : WriteRec) → x.stamp.node < l.n → ¬ IsWaiting l.self l.pos l.sub x
