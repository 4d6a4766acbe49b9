use Rattle.std.proofs.Common.{arith, subst}
use Rattle.std.specs.Prelude.{option_copied}
use Rattle.pr_log.specs.Known.{IsFirstAbove}
use Rattle.pr_log.proofs.Merge.{behind_more, more_heads, rest_heads, rest_listed}
use Rattle.pr_log.proofs.waiting.find_heads.Goals as goal

pub loop-n-init : goal.loop-n-init
loop-n-init g c = record {
  listed = record {
    len = c.told-heads;
    few = omega (arith, c.requires.empty);
    known = λ k lt. absurd (omega (arith, lt, c.requires.empty));
    all = λ m w lt is. absurd (omega (arith, lt));
  };
  each = λ k lt. absurd (omega (arith, lt));
  behind = λ k le. c.requires.none k;
  steps = omega arith;
}

pub loop-n-preserved : goal.loop-n-preserved
loop-n-preserved g c = record {
  listed = c.put.ensures;
  each = more_heads c.args.index.now c.args.pos.now c.loop-n.heads c.loop-n.n c.next.result c.loop-n.invariant.listed.len (omega (arith, c.loop-n-test.true, c.nodes-n-end.ensures.most)) c.loop-n.invariant.each
      (subst (λ k. IsFirstAbove c.args.index.now c.loop-n.n k (option_copied c.next.result)) c.at.ensures.value c.next.ensures.next);
  behind = behind_more c.loop-n.heads c.loop-n.n c.next.result c.loop-n.invariant.behind;
  steps = omega (arith, c.next.ensures.step, c.loop-n.invariant.steps);
}

pub returns-clause-each : goal.returns-clause-each
returns-clause-each g c = rest_heads c.args.index.now c.args.pos.now c.loop-n.heads c.loop-n.n (λ x has. omega (arith, c.nodes-n-end.ensures.within x has, c.loop-n-test.false)) c.loop-n.invariant.behind c.loop-n.invariant.each

pub returns-clause-listed : goal.returns-clause-listed
returns-clause-listed g c = rest_listed c.loop-n.heads c.loop-n.nodes.at c.loop-n.nodes.count c.loop-n.n (omega (arith, c.loop-n.auto.n-end, c.nodes-n-end.ensures.most)) c.loop-n.invariant.behind c.loop-n.invariant.listed

pub returns-clause-steps : goal.returns-clause-steps
returns-clause-steps g c = omega (arith, c.loop-n.invariant.steps, c.loop-n.auto.n-end, c.nodes-n-end.ensures.most)
