use Rattle.std.proofs.Common.{arith, length-set, ◌∙◌}
use Rattle.pr_merge.proofs.Tournament.{all_leaves, played_more}
use Rattle.pr_merge.proofs.merging.tournament.Goals as goal

pub loop-node-init : goal.loop-node-init
loop-node-init c = record {
  played = all_leaves c.args.parts.now c.args.next.now c.loop-part.winners (λ p lt. c.loop-part.invariant.leaves p (omega arith));
  len = c.loop-part.invariant.len;
}

pub play-requires-clause-left : goal.play-requires-clause-left
play-requires-clause-left c = c.loop-node.invariant.played _ (omega arith) (omega arith)

pub loop-node-preserved : goal.loop-node-preserved
loop-node-preserved c = record {
  played = played_more c.args.parts.now c.args.next.now c.loop-node.winners _ c.play.result (omega (arith, c.loop-node.invariant.len)) c.play.ensures _ (omega arith) c.loop-node.invariant.played;
  len = length-set c.loop-node.winners _ c.play.result ∙ c.loop-node.invariant.len;
}

pub returns : goal.returns
returns c m some most = c.loop-node.invariant.played m (omega arith) most
