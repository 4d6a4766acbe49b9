use Rattle.std.proofs.Common.{get_or, arith}
use Rattle.std.proofs.lemmas.Grind.{common_steps}
use Rattle.std.proofs.lemmas.List.{get_or_past}
use Rattle.pr_stamps.proofs.Places.{rest_more}
use Rattle.pr_vectors.proofs.Counted.{joined_in, joins_more}
use Rattle.pr_vectors.proofs.Vectors.{is-vector_of}
use Rattle.pr_vectors.proofs.clocks.join_short.Goals as goal

pub loop-n-preserved : goal.loop-n-preserved
loop-n-preserved c = record {
  len = grind (arith, common_steps);
  done = joins_more c.loop-n.others c.args.others.now _ _ (λ k. get_or c.args.clocks.now k 0) (omega arith) (grind (arith, common_steps)) c.loop-n.invariant.done c.loop-n.invariant.rest;
  rest = rest_more c.loop-n.others c.args.others.now 0 c.loop-n.n _ c.loop-n.invariant.rest;
}

pub returns : goal.returns
returns c = is-vector_of _ _ c.loop-n.invariant.len (joined_in c.loop-n.others c.args.others.now c.loop-n.n (λ k. get_or c.args.clocks.now k 0) c.loop-n.invariant.done c.loop-n.invariant.rest (λ k le lt. get_or_past c.args.clocks.now k 0 (omega (arith, le, c.loop-n-test.false))))
