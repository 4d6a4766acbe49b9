use Rattle.std.proofs.Common.{ap, sym, ◌∙◌, ◌-◌, length, slice_index_or}
use Rattle.pr_names.specs.Span.{Span}
use Rattle.pr_sets.proofs.Behind.{grown_later, grown_same}
use Rattle.pr_sets.proofs.SpanEnds.{later_under}
use Rattle.pr_sets.proofs.joiner.grow.Goals as goal

pub up_to-requires : goal.up_to-requires
up_to-requires c =
    let last : Span = slice_index_or c.args.parts.now (length c.args.parts.now - 1) c.index-parts-at.result in
    rw c.hi.ensures.value
    (later_under last c.args.part.now c.ends_before.ensures.interval c.ends_before.ensures.other (sym c.ends_before.ensures.value ∙ c.if-ends_before.true))

pub returns-then-ends_before : goal.returns-then-ends_before
returns-then-ends_before c =
    let last : Span = slice_index_or c.args.parts.now (length c.args.parts.now - 1) c.index-parts-at.result in
    grown_later c.args.parts.now c.args.part.now last c.up_to.result c.requires
    (ap (slice_index_or c.args.parts.now (length c.args.parts.now - 1)) c.index-parts-at.is)
    (sym c.ends_before.ensures.value ∙ c.if-ends_before.true)
    (c.up_to.ensures ∙ ap (λ h. record { lo = last.lo; hi = h }) c.hi.ensures.value)

pub returns-else-ends_before : goal.returns-else-ends_before
returns-else-ends_before c =
    grown_same c.args.parts.now c.args.part.now (slice_index_or c.args.parts.now (length c.args.parts.now - 1) c.index-parts-at.result) c.requires
    (ap (slice_index_or c.args.parts.now (length c.args.parts.now - 1)) c.index-parts-at.is)
    (sym c.ends_before.ensures.value ∙ c.if-ends_before.false)
