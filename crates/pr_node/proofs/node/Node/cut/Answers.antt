use Rattle.std.proofs.Common.{◌∙◌, reverse}
use Rattle.pr_node.proofs.Adding.{stands}
use Rattle.pr_node.proofs.node.Node.cut.Goals as goal

pub invariant_of-self-2 : goal.invariant_of-self-2
invariant_of-self-2 c =
    let tied = c.self.invariant.1 c.in_ok-time.ensures.worked in
    stands c.self.inside.id _ _ _ _ _ _ c.self.invariant.0 c.in_ok-time.ensures.items c.in_ok-cut.ensures.items
    (c.cut.ensures.tied c.self.inside.id (reverse c.self.inside.diary.entries.items) _ _ _ tied (c.vector.ensures.value ∙ tied.log.vector))
