use Rattle.std.proofs.Common.{◌≡◌, get_or, subst, arith}
use Rattle.pr_vectors.proofs.Counted.{exactly}
use Rattle.pr_vectors.proofs.vector.counted.Goals as goal

pub returns-then-clocks-n-ne0-clause-exact : goal.returns-then-clocks-n-ne0-clause-exact
returns-then-clocks-n-ne0-clause-exact c = exactly c.args.clocks.now _ c.told-clocks (omega (arith, c.loop-n.auto.n, c.requires.most, c.loop-n-test.true))
    (λ k le lt. c.loop-n.invariant.behind k (omega (arith, le, c.loop-n-test.true)) lt)
    (λ m e z. c.if-clocks-n-ne0.true (subst (λ i. get_or c.args.clocks.now i 0 ≡ 0) (omega (arith, e, c.loop-n-test.true)) z))

pub returns-clause-exact : goal.returns-clause-exact
returns-clause-exact c = exactly c.args.clocks.now 0 c.told-clocks (omega arith)
    (λ k le lt. c.loop-n.invariant.behind k (omega (arith, c.loop-n-test.false)) lt)
    (λ m e z. absurd (omega (arith, e)))
