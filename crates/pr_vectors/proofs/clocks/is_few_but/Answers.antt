use Rattle.std.proofs.Common.{arith, refl}
use Rattle.pr_vectors.proofs.Vectors.{same_but, same_few}
use Rattle.pr_vectors.proofs.clocks.is_few_but.Goals as goal

pub returns-then-few-n : goal.returns-then-few-n
returns-then-few-n c = ((λ t. cc), λ same. absurd (c.if-few-n.true (same_few _ _ _ (omega (arith, c.loop-n-test.true)) (same c.loop-n.n (omega (arith, c.loop-n-test.true)) c.if-n-node.true))))

pub returns : goal.returns
returns c = ((λ t. same_but _ _ _ c.told-few c.told-others (λ k lt. c.loop-n.invariant k (omega (arith, lt, c.loop-n-test.false)))), λ same. refl)
