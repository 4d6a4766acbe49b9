use Rattle.pr_log.proofs.Many.{IsFirstSofar}
use Rattle.pr_log.proofs.latest.Latest.first_above.Given as goal

abbrev pub invariant-loop-name : goal.invariant-loop-name
invariant-loop-name l = IsFirstSofar l.self l.name-iterator l.sub l.clock l.above
