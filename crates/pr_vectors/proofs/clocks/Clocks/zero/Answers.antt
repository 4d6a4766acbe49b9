use Rattle.std.proofs.Common.{refl, arith}
use Rattle.pr_vectors.specs.Vector.{vector_of}
use Rattle.pr_vectors.proofs.Vectors.{clock_of-vector_of, is_in_range}
use Rattle.pr_vectors.proofs.clocks.Clocks.zero.Goals as goal

pub returns-clause-value : goal.returns-clause-value
unfolding vector_of
returns-clause-value c = refl

pub returns-clause-range : goal.returns-clause-range
unfolding vector_of
returns-clause-range c = is_in_range (λ _. 0) _ refl (clock_of-vector_of (λ _. 0)) (λ k h. omega arith)
