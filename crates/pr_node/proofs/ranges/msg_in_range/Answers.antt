use Rattle.pr_node.proofs.Spelled.{message_range}
use Rattle.pr_node.proofs.ranges.msg_in_range.Goals as goal

pub returns : goal.returns
returns c = message_range c.args.msg.now c.requires c.int_in_range.ensures c.body_in_range.ensures
