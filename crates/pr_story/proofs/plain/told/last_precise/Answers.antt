use Rattle.std.proofs.Common.{ℕ, List, ap, ◌∙◌, arith, reverse, length}
use Rattle.pr_vectors.specs.Vector.{clock_of}
use Rattle.pr_vectors.proofs.Vectors.{length-vector_of}
use Rattle.pr_sets.specs.Spans.{has}
use Rattle.pr_story.specs.Told.{IsTold}
use Rattle.pr_story.proofs.Basics.{clock_zero}
use Rattle.pr_story.proofs.Points.{runs_more, runs_last}
use Rattle.pr_story.proofs.plain.told.last_precise.Goals as goal

pub loop-n-init : goal.loop-n-init
loop-n-init c = record {
  long = ap (λ (v : List ℕ). length v) c.zero-last.ensures ∙ length-vector_of (λ _. 0);
  runs = λ w lt. absurd (omega arith);
  rest = λ w lt le. ap (λ (v : List ℕ). clock_of v w) c.zero-last.ensures ∙ clock_zero w;
}

pub with_clock-last-requires : goal.with_clock-last-requires
with_clock-last-requires c = record {
  node = omega (arith, c.loop-n-test.true);
  clock = c.run.ensures.range;
  lacks = c.loop-n.invariant.rest c.loop-n.n (omega (arith, c.loop-n-test.true)) (omega arith);
}

pub loop-n-preserved : goal.loop-n-preserved
loop-n-preserved c =
    runs_more (IsTold c.args.node (reverse c.args.entries.now) (has c.args.set.now)) c.current_vector-vector.result c.loop-n.last c.with_clock-last.result c.loop-n.n c.run.result
    (omega (arith, c.loop-n-test.true)) c.loop-n.invariant c.run.ensures.run c.with_clock-last.ensures.length c.with_clock-last.ensures.here c.with_clock-last.ensures.others

pub returns : goal.returns
returns c =
    runs_last (IsTold c.args.node (reverse c.args.entries.now) (has c.args.set.now)) (reverse c.args.entries.now) c.current_vector-vector.result c.loop-n.last c.loop-n.n
    c.current_vector-vector.ensures (omega (arith, c.loop-n-test.false)) c.loop-n.invariant
