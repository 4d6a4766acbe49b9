use Rattle.std.proofs.Common.{take, reverse}
use Rattle.pr_story.proofs.NewestFirst.{with_more, with_all}
use Rattle.pr_story.proofs.Writing.{IsNextAmong, among_more, among_all}
use Rattle.pr_story.proofs.plain.writes.next_write.Goals as goal

pub loop-entry-init : goal.loop-entry-init
loop-entry-init c = λ x t w. absurd t

pub loop-entry-preserved : goal.loop-entry-preserved
loop-entry-preserved c =
    with_more (λ h. IsNextAmong (reverse c.args.entries.now) h c.args.names.now c.args.position.now c.lesser-next.result) _ _ c.entry-item.result c.loop-entry-test.true c.entry-item.is
    (among_more (reverse c.args.entries.now) (reverse (take c.loop-entry.entry-index c.args.entries.now)) c.entry-item.result c.args.names.now c.args.position.now
    c.loop-entry.next c.to_send-here.result c.lesser-next.result c.lesser-next.ensures c.loop-entry.invariant c.to_send-here.ensures.some c.to_send-here.ensures.all)

pub returns : goal.returns
returns c =
    among_all (reverse c.args.entries.now) c.args.names.now c.args.position.now c.loop-entry.next
    (with_all (λ h. IsNextAmong (reverse c.args.entries.now) h c.args.names.now c.args.position.now c.loop-entry.next) _ _ c.loop-entry-test.false c.loop-entry.invariant)
