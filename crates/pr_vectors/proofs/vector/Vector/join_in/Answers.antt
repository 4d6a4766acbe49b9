use Rattle.std.proofs.Common.{arith}
use Rattle.pr_vectors.proofs.Counted.{join_behind, join_is}
use Rattle.pr_vectors.proofs.vector.Vector.join_in.Goals as goal

pub counted-self-inside-requires-clause-behind : goal.counted-self-inside-requires-clause-behind
counted-self-inside-requires-clause-behind g c k le lt = rw c.join_into.ensures (join_behind _ _ _ _ c.self.invariant c.count.ensures.behind k (omega (arith, le, c.max.ensures)) lt)

pub invariant_of-self : goal.invariant_of-self
invariant_of-self g c = record {
  vector = rw c.join_into.ensures (join_is _ _ c.self.invariant.vector c.clock.ensures.range);
  few = omega (arith, c.counted-self-inside.ensures.few, c.max.ensures, c.self.invariant.few, c.count.ensures.most);
  behind = c.counted-self-inside.ensures.behind;
  exact = c.counted-self-inside.ensures.exact;
}
