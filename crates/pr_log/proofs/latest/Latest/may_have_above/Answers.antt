use Rattle.std.proofs.Common.{◌≡◌, ◌<◌, List, get_or, length, subst}
use Rattle.pr_names.specs.Span.{Span}
use Rattle.pr_log.proofs.Ranges.{none_more}
use Rattle.pr_log.proofs.latest.Latest.may_have_above.Goals as goal

pub loop-part-preserved : goal.loop-part-preserved
loop-part-preserved c o above =
    let same = c.parts-part-items.ensures.value in
    none_more c.args.names.now c.loop-part.part-index c.part-item.result c.part-item.result o
    (subst (λ (ss : List Span). c.loop-part.part-index < length ss) same c.loop-part-test.true)
    (subst (λ (ss : List Span). c.part-item.result ≡ get_or ss c.loop-part.part-index c.part-item.result) same c.part-item.is)
    (c.loop-part.invariant o above) (c.may_have_in.ensures c.if-may_have_in.false o above)
