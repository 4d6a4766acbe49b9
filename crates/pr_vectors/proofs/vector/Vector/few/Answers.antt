use Rattle.std.proofs.Common.{◌≤◌, ◌∙◌, ap, arith, get_or, subst, sym}
use Rattle.pr_vectors.proofs.Vectors.{is_unpacked}
use Rattle.pr_vectors.proofs.vector.Vector.few.Goals as goal

pub overflow_cast-few : goal.overflow_cast-few
overflow_cast-few c = omega (arith, subst (λ v. get_or v c.loop-n.n 0 ≤ 65535) (sym c.self.view_is) (c.requires.short c.loop-n.n c.loop-n-test.true))

pub returns : goal.returns
returns c = rw (← c.self.view_is) (sym (is_unpacked c.loop-n.few c.self.inside.clocks 8 c.self.invariant.vector.nodes (λ k lt. sym (c.loop-n.invariant.each k (omega (arith, lt, c.loop-n-test.false)))) (λ k above lt. ap (λ v. get_or v k 0) c.self.view_is ∙ c.requires.alone k above lt) (λ k above lt. omega (arith, above, c.loop-n.invariant.len))))
