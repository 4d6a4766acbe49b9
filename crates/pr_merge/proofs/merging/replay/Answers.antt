use Rattle.std.proofs.Common.{arith, refl, length, length-set, ◌∙◌, ◌<◌}
use Rattle.pr_merge.proofs.Tournament.{under_parent, replayed_more}
use Rattle.pr_merge.proofs.merging.replay.Goals as goal

pub loop-node-preserved : goal.loop-node-preserved
loop-node-preserved c =
    let within : c.loop-node.node < length c.loop-node.winners = omega (arith, c.loop-node.invariant.inner, c.loop-node.invariant.len) in
    record {
      inner = omega (arith, c.loop-node.invariant.inner);
      under = under_parent (_) c.loop-node.node c.args.part refl c.loop-node.invariant.under;
      played = replayed_more c.args.parts.now c.args.next.now c.loop-node.winners c.loop-node.node c.play.result within c.play.ensures c.args.part c.loop-node.invariant.under c.loop-node.invariant.played;
      len = length-set c.loop-node.winners c.loop-node.node c.play.result ∙ c.loop-node.invariant.len;
    }
