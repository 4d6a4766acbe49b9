use Rattle.pr_log.proofs.Names.{behind}
use Rattle.pr_log.proofs.collector.put.Goals as goal

pub returns-then-can_push : goal.returns-then-can_push
returns-then-can_push c = behind c.push.result c.args.set.now c.push.new.self c.in-Some.part c.args.name.now c.push.ensures.ok c.in-Some.ensures.some
