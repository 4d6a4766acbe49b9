use Rattle.std.proofs.Common.{◌≡◌, ◌<◌, ℕ, get_or, arith}
use Rattle.std.proofs.lemmas.Grind.{common_steps}
use Rattle.std.specs.Prelude.{max, min}
use Rattle.pr_stamps.proofs.Places.{rest_more}
use Rattle.pr_vectors.specs.Vector.{below_of, clock_of, last_before}
use Rattle.pr_vectors.proofs.Counted.{joined_in, joins_more}
use Rattle.pr_vectors.proofs.Vectors.{clock_of-vector_of, is-vector_of}
use Rattle.pr_vectors.proofs.vector.join_clocks_below.Goals as goal

pub loop-n-preserved : goal.loop-n-preserved
loop-n-preserved c = record {
  len = grind (arith, common_steps);
  done = joins_more c.loop-n.clocks c.args.clocks.now _ _ (λ k. min (get_or c.args.other.now k 0) (last_before c.args.stamp.now k)) (omega arith) (grind (arith, common_steps)) c.loop-n.invariant.done c.loop-n.invariant.rest;
  rest = rest_more c.loop-n.clocks c.args.clocks.now 0 c.loop-n.n _ c.loop-n.invariant.rest;
}

pub returns : goal.returns
returns c =
    let each : (k : ℕ) → k < 32 → get_or c.loop-n.clocks k 0 ≡ max (get_or c.args.clocks.now k 0) (min (get_or c.args.other.now k 0) (last_before c.args.stamp.now k)) =
    joined_in c.loop-n.clocks c.args.clocks.now c.loop-n.n (λ k. min (get_or c.args.other.now k 0) (last_before c.args.stamp.now k)) c.loop-n.invariant.done c.loop-n.invariant.rest
    (λ k le lt. let zero : get_or c.args.other.now k 0 ≡ 0 = c.nodes-n-end.ensures.behind k (omega (arith, le)) lt in omega (arith, zero)) in
    is-vector_of _ _ c.loop-n.invariant.len (λ k h.
    let below : clock_of (below_of c.args.other.now c.args.stamp.now) k ≡ min (get_or c.args.other.now k 0) (last_before c.args.stamp.now k) = clock_of-vector_of _ k h in
    rw below (each k h))
