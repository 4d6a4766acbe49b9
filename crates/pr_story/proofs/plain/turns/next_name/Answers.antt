use Rattle.std.proofs.Common.{List, ℕ, take, reverse, subst}
use Rattle.pr_inval.specs.Standing.{means}
use Rattle.pr_story.proofs.NewestFirst.{with_next, with_whole}
use Rattle.pr_story.proofs.Sendings.{IsLeastOf, least_more, least_all}
use Rattle.pr_story.proofs.plain.turns.next_name.Goals as goal

pub loop-name-preserved : goal.loop-name-preserved
loop-name-preserved c =
    with_next (λ d. IsLeastOf (reverse c.args.entries.now) (means c.args.session.now).standing d c.with_name-best.result) _ _ c.name-item.result c.loop-name-test.true c.name-item.is
    (least_more (reverse c.args.entries.now) (means c.args.session.now).standing (take c.loop-name.name-index c.as_slice-name-items.result.now) c.name-item.result
    c.loop-name.best c.with_name-best.result c.in_ok-sends.sends c.with_name-best.ensures c.in_ok-sends.ensures c.loop-name.invariant)

pub returns : goal.returns
returns c =
    least_all (reverse c.args.entries.now) (means c.args.session.now).standing c.in_ok-names.names c.loop-name.best c.in_ok-names.ensures
    (subst (λ (ns : List (List ℕ)). IsLeastOf (reverse c.args.entries.now) (means c.args.session.now).standing ns c.loop-name.best) c.as_slice-name-items.ensures
    (with_whole (λ d. IsLeastOf (reverse c.args.entries.now) (means c.args.session.now).standing d c.loop-name.best) _ _ c.loop-name-test.false c.loop-name.invariant))
