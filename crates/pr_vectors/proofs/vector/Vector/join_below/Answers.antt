use Rattle.std.proofs.Common.{arith}
use Rattle.pr_vectors.proofs.Counted.{below_behind, below_is}
use Rattle.pr_vectors.proofs.vector.Vector.join_below.Goals as goal

pub counted-self-inside-requires-clause-behind : goal.counted-self-inside-requires-clause-behind
counted-self-inside-requires-clause-behind c k le lt = rw (c.join_clocks_below.ensures, ← c.other.view_is) (below_behind _ _ _ _ _ c.self.invariant c.other.invariant k (omega (arith, le, c.max.ensures)) lt)

pub invariant_of-self : goal.invariant_of-self
invariant_of-self c = record {
  vector = rw (c.join_clocks_below.ensures, ← c.other.view_is) (below_is _ _ _ c.self.invariant.vector c.other.invariant.vector);
  few = omega (arith, c.counted-self-inside.ensures.few, c.max.ensures, c.self.invariant.few, c.other.invariant.few);
  behind = c.counted-self-inside.ensures.behind;
  exact = c.counted-self-inside.ensures.exact;
}
