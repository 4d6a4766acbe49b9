use Rattle.std.proofs.Common.{take, reverse, Bool, ◌∷◌, sym, subst}
use Rattle.std.specs.Prelude.{◌↔◌, IsTrue}
use Rattle.pr_sets.specs.Spans.{has}
use Rattle.pr_story.specs.Told.{TellsPoint}
use Rattle.pr_story.proofs.NewestFirst.{with_more, with_all}
use Rattle.pr_story.proofs.Points.{SomeKind, some_more}
use Rattle.pr_story.proofs.plain.told.one_tells.Goals as goal

pub loop-entry-preserved : goal.loop-entry-preserved
loop-entry-preserved c =
    with_more (λ h. IsTrue c.either-told.result ↔ SomeKind (λ k. TellsPoint k (has c.args.set.now) c.args.point.now) h) _ _ c.entry-item.result c.loop-entry-test.true c.entry-item.is
    (subst (λ (b : Bool). IsTrue b ↔ SomeKind (λ k. TellsPoint k (has c.args.set.now) c.args.point.now) (c.entry-item.result ∷ reverse (take c.loop-entry.entry-index c.args.entries.now))) (sym c.either-told.ensures)
    (some_more (λ k. TellsPoint k (has c.args.set.now) c.args.point.now) c.entry-item.result (reverse (take c.loop-entry.entry-index c.args.entries.now)) c.loop-entry.told c.event_tells-here.result c.loop-entry.invariant c.event_tells-here.ensures))

pub returns : goal.returns
returns c = with_all (λ h. IsTrue c.loop-entry.told ↔ SomeKind (λ k. TellsPoint k (has c.args.set.now) c.args.point.now) h) _ _ c.loop-entry-test.false c.loop-entry.invariant
