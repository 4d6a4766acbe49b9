use Rattle.std.proofs.Common.{◌∙◌}
use Rattle.pr_inval.specs.Standing.{means}
use Rattle.pr_node.proofs.Going.{body_noted}
use Rattle.pr_node.proofs.turning.note_sent.Goals as goal

pub returns-in-Body : goal.returns-in-Body
returns-in-Body c caller msg is same =
    body_noted (means c.args.session.now) (means c.sent_body.new.self) c.pos.result.now c.in-Body.name c.in-Body.bytes c.in-Body.stamp c.args.time caller msg c.pos.ensures.value c.pos.ensures.range c.sent_body.ensures (is ∙ c.in-Body.is) same
