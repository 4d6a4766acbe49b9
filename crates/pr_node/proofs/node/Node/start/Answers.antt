use Rattle.std.proofs.Common.{◌∙◌, ap, reverse}
use Rattle.pr_node.specs.Stored.{Stored}
use Rattle.pr_node.proofs.node.Node.start.Goals as goal

pub returns : goal.returns
returns c =
    let tied = c.self.invariant.1 (ap (λ (n : Stored). n.spent) c.self.view_is ∙ c.requires) in
    rw (← c.self.view_is) (c.start.ensures.start c.self.inside.id (reverse c.self.inside.diary.entries.items) tied.gaps)
