use Rattle.std.proofs.Common.{ap, ◌∙◌}
use Rattle.pr_names.specs.Bound.{is_under}
use Rattle.pr_sets.proofs.Lookups.{has_last, has_none, none_lt}
use Rattle.pr_sets.proofs.lookup.has.Goals as goal

pub returns-then-begun-gt0 : goal.returns-then-begun-gt0
returns-then-begun-gt0 c =
    c.is_above.ensures
    ∙ ap (is_under c.args.name.now) c.hi.ensures.value
    ∙ has_last c.args.parts.now c.args.name.now c.begun_by-begun.result c.index-parts-begun.result _ c.requires c.bytes.ensures.name
    (record { most = c.begun_by-begun.ensures.most; begun = c.begun_by-begun.ensures.begun; later = c.begun_by-begun.ensures.later })
    c.if-begun-gt0.true c.index-parts-begun.is

pub returns-else-begun-gt0 : goal.returns-else-begun-gt0
returns-else-begun-gt0 c =
    none_lt c.begun_by-begun.result c.if-begun-gt0.false
    ∙ has_none c.args.parts.now c.args.name.now c.begun_by-begun.result c.requires c.bytes.ensures.name
    (record { most = c.begun_by-begun.ensures.most; begun = c.begun_by-begun.ensures.begun; later = c.begun_by-begun.ensures.later })
    c.if-begun-gt0.false
