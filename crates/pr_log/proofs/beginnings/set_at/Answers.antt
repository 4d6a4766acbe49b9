use Rattle.pr_log.specs.Sets.{begins_at}
use Rattle.pr_log.proofs.Turns.{last_is, none_is}
use Rattle.pr_log.proofs.beginnings.set_at.Goals as goal

pub returns-in-Some : goal.returns-in-Some
returns-in-Some c = last_is (begins_at c.args.sets.now.entries) c.in-Some.entry.0 c.args.clock c.in-Some.entry.1.now c.in-Some.ensures.entry c.in-Some.ensures.within c.in-Some.ensures.last

pub returns-in-None : goal.returns-in-None
returns-in-None c = none_is (begins_at c.args.sets.now.entries) c.args.clock c.in-None.ensures.none
