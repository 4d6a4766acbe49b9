use Rattle.std.proofs.Common.{take, reverse}
use Rattle.std.specs.Prelude.{map}
use Rattle.pr_sets.specs.Spans.{has}
use Rattle.pr_story.specs.Search.{IsStartOf}
use Rattle.pr_story.proofs.NewestFirst.{with_next, with_whole}
use Rattle.pr_story.proofs.Starts.{start_all, start_next, start_none}
use Rattle.pr_story.proofs.plain.starts.start.Goals as goal

pub loop-set-init : goal.loop-set-init
loop-set-init c = start_none c.args.node (reverse c.args.entries.now) c.args.names.now c.current_vector-start.result c.current_vector-start.ensures

pub loop-set-preserved : goal.loop-set-preserved
loop-set-preserved c =
    with_next (λ sets. IsStartOf c.args.node (reverse c.args.entries.now) (map has sets) c.args.names.now c.start_with-start.result) _ _ c.set-item.result c.loop-set-test.true c.set-item.is
    (start_next c.args.node (reverse c.args.entries.now) c.set-item.result (take c.loop-set.set-index c.args.sets.now) c.args.names.now c.start_with-start.result
    (c.start_with-start.ensures (map has (take c.loop-set.set-index c.args.sets.now)) c.loop-set.invariant))

pub returns : goal.returns
returns c =
    start_all c.args.node (reverse c.args.entries.now) c.in_ok-rest.rest c.args.sets.now c.args.names.now c.start_with.result c.in_ok-rest.ensures
    (c.start_with.ensures (map has c.args.sets.now)
    (with_whole (λ sets. IsStartOf c.args.node (reverse c.args.entries.now) (map has sets) c.args.names.now c.loop-set.start) _ _ c.loop-set-test.false c.loop-set.invariant))
