use Rattle.pr_node.proofs.Adding.{stands}
use Rattle.pr_node.proofs.Quiet.{quiet_tied}
use Rattle.pr_node.proofs.node.Node.moved.Goals as goal

pub invariant_of-self-2 : goal.invariant_of-self-2
invariant_of-self-2 c =
    stands c.self.inside.id _ _ _ _ _ _ c.self.invariant.0 c.in_ok-time.ensures.items c.finish.ensures.items
    (quiet_tied c.self.inside.id _ _ _ tt (c.self.invariant.1 c.in_ok-time.ensures.worked))
