use Rattle.std.proofs.Common.{reverse}
use Rattle.pr_node.proofs.Adding.{stands}
use Rattle.pr_node.proofs.node.Node.drop_body.Goals as goal

pub invariant_of-self-2 : goal.invariant_of-self-2
invariant_of-self-2 c =
    stands c.self.inside.id _ _ _ _ _ _ c.self.invariant.0 c.in_ok-time.ensures.items c.finish.ensures.items
    (c.drop_body.ensures.tied c.self.inside.id (reverse c.self.inside.diary.entries.items) _ _ (c.self.invariant.1 c.in_ok-time.ensures.worked))
