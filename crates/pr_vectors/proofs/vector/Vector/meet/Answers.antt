use Rattle.std.proofs.Common.{◌≡◌, ◌<◌, ℕ, get_or, refl, arith}
use Rattle.std.proofs.lemmas.Grind.{common_steps}
use Rattle.std.specs.Prelude.{min}
use Rattle.pr_vectors.specs.Vector.{vector_of}
use Rattle.pr_vectors.proofs.Counted.{each_of, zeros_behind}
use Rattle.pr_vectors.proofs.Vectors.{clock_of-vector_of, is-vector_of, is_in_range, fills_more}
use Rattle.pr_vectors.proofs.vector.Vector.meet.Goals as goal

pub loop-n-init : goal.loop-n-init
unfolding vector_of
loop-n-init c = record {
  len = refl;
  each = λ k lt. absurd (omega (arith, lt));
  behind = λ k le lt. clock_of-vector_of (λ _. 0) k lt;
}

pub loop-n-preserved : goal.loop-n-preserved
loop-n-preserved c = record {
  len = grind (arith, common_steps);
  each = fills_more _ _ _ _ (omega arith) (grind (arith, common_steps)) c.loop-n.invariant.each;
  behind = zeros_behind _ _ _ c.loop-n.invariant.behind;
}

pub counted-count-requires-clause-behind : goal.counted-count-requires-clause-behind
counted-count-requires-clause-behind c k le lt = c.loop-n.invariant.behind k (omega (arith, le)) lt

each : (c : goal.After-counted-count) (k : ℕ) → k < 32 → get_or c.loop-n.clocks k 0 ≡ min (get_or c.args.self.now k 0) (get_or c.args.other.now k 0)
each c = each_of _ c.self.inside.count _ (λ k h. c.loop-n.invariant.each k (omega arith)) (λ k le h. c.loop-n.invariant.behind k (omega (arith, le)) h)
    (λ k le h. let zero : get_or c.args.self.now k 0 ≡ 0 = rw (← c.self.view_is) (c.self.invariant.behind k le h) in omega (arith, zero))

pub returns : goal.returns
returns c = is-vector_of _ _ c.loop-n.invariant.len (each c)

pub invariant_of-result : goal.invariant_of-result
invariant_of-result c = record {
  vector = is_in_range _ _ c.loop-n.invariant.len (each c) (λ k h. omega (arith, c.known.ensures.most k h));
  few = omega (arith, c.counted-count.ensures.few, c.self.invariant.few);
  behind = c.counted-count.ensures.behind;
  exact = c.counted-count.ensures.exact;
}
