use Rattle.std.proofs.Common.{ap, inl, inr}
use Rattle.pr_story.specs.Lawful.{has_from}
use Rattle.pr_node.proofs.Bodies.{starts_at_zero}
use Rattle.pr_node.proofs.taking.gap.Goals as goal

pub returns-in-Checkpoint : goal.returns-in-Checkpoint
returns-in-Checkpoint c = starts_at_zero c.args.kind.now c.args.has.now (elim c.in-Checkpoint.is [ inl x ↦ ap has_from x.4 | inr x ↦ ap has_from x.3 ])
