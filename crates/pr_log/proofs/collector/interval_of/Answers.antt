use Rattle.pr_log.proofs.Names.{one_has, one_is_some}
use Rattle.pr_log.proofs.collector.interval_of.Goals as goal

pub returns-clause-some : goal.returns-clause-some
returns-clause-some c = one_has c.args.name.now c.after.result c.new.result c.bytes.ensures.name c.after.ensures.bound c.after.ensures.value c.after.ensures.least c.new.ensures.value

pub returns-clause-none : goal.returns-clause-none
returns-clause-none c none o ho = one_is_some c.args.name.now c.after.result c.new.result c.bytes.ensures.name c.after.ensures.value c.new.ensures.some none
