use Rattle.std.proofs.Common.{arith, reverse}
use Rattle.pr_sets.specs.Spans.{has}
use Rattle.pr_story.proofs.Snapshots.{precise_all, precise_more, precise_rest}
use Rattle.pr_story.proofs.plain.snapshots.precise_names.Goals as goal

pub loop-left-init : goal.loop-left-init
loop-left-init c = (
  omega arith,
  λ o name. precise_rest c.args.node (reverse c.args.entries.now) c.args.sets.now c.in_ok-rest.rest o c.is_precise.result (has c.in_ok-names.names o) c.in_ok-rest.ensures c.is_precise.ensures (c.in_ok-names.ensures o name),
)

pub loop-left-preserved : goal.loop-left-preserved
loop-left-preserved c = (
  (let le = c.loop-left.invariant.0 in omega arith),
  λ o name. precise_more c.args.node (reverse c.args.entries.now) c.args.sets.now c.loop-left.left c.index-sets-left.result o c.is_precise-precise.result (has c.loop-left.names o) (has c.in_ok-names-2.names o)
      (omega (arith, c.loop-left-test.true)) c.loop-left.invariant.0 c.index-sets-left.is c.is_precise-precise.ensures (c.in_ok-names-2.ensures o name) (c.loop-left.invariant.1 o name),
)

pub returns : goal.returns
returns c = λ o name.
    precise_all c.args.node (reverse c.args.entries.now) c.args.sets.now c.loop-left.left o (has c.loop-left.names o) c.loop-left-test.false (c.loop-left.invariant.1 o name)
