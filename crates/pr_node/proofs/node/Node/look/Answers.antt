use Rattle.std.proofs.Common.{◌∙◌, ap, reverse}
use Rattle.pr_node.specs.Stored.{Stored}
use Rattle.pr_node.proofs.node.Node.look.Goals as goal

pub returns : goal.returns
returns c = rw (← c.self.view_is) (c.answer.ensures.value c.self.inside.id (reverse c.self.inside.diary.entries.items) (c.self.invariant.1 (ap (λ (n : Stored). n.spent) c.self.view_is ∙ c.requires)))
