use Rattle.std.proofs.Common.{refl, arith}
use Rattle.pr_vectors.specs.Vector.{vector_of}
use Rattle.pr_vectors.proofs.Vectors.{clock_of-vector_of, is_unpacked}
use Rattle.pr_vectors.proofs.vector.Vector.of_few.Goals as goal

pub loop-n-init : goal.loop-n-init
unfolding vector_of
loop-n-init c = record {
  len = refl;
  front = λ k lt. absurd (omega (arith, lt));
  behind = λ k above lt. clock_of-vector_of (λ _. 0) k lt;
}

pub returns : goal.returns
returns c = is_unpacked _ _ c.loop-n.n c.loop-n.invariant.len c.loop-n.invariant.front c.loop-n.invariant.behind (λ k above lt. omega (arith, above, lt, c.loop-n-test.false, c.fits-few))

pub invariant_of-result : goal.invariant_of-result
invariant_of-result c = record {
  vector = rw (returns c) c.requires;
  few = omega (arith, c.counted-count.ensures.few);
  behind = c.counted-count.ensures.behind;
  exact = c.counted-count.ensures.exact;
}
