use Rattle.pr_node.specs.Stored.{means}
use Rattle.pr_serve.proofs.TakenIn.{took_one}
use Rattle.pr_serve.proofs.pulling.take_in.Goals as goal

pub returns : goal.returns
returns c = took_one (means c.args.node.now) (means c.accept.new.self) c.args.msg c.in_ok-accept.field-0 c.in_ok-accept.ensures.ok
