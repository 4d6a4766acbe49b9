use Rattle.pr_names.specs.declared.bound.Bound.TheVariants.{End}
use Rattle.pr_snap.proofs.KnownNames.{next_start, no_start}
use Rattle.pr_snap.proofs.known_names.first_past.Goals as goal

pub returns-in-Some : goal.returns-in-Some
returns-in-Some c =
    next_start c.args.names.now c.parts-parts.result.now c.in-Some.part.now c.in-Some.part.now c.args.name.now c.lo.result c.begun_by-begun.result c.parts-parts.ensures.value c.parts-parts.ensures.set
    c.begun_by-begun.ensures.most c.begun_by-begun.ensures.begun c.begun_by-begun.ensures.later c.requires c.in-Some.ensures.lookup.0 c.in-Some.ensures.lookup.1 c.lo.ensures.value

pub returns-in-None : goal.returns-in-None
returns-in-None c =
    no_start c.args.names.now c.parts-parts.result.now (record { lo = c.args.name.now; hi = End }) c.args.name.now c.begun_by-begun.result c.parts-parts.ensures.value
    c.begun_by-begun.ensures.most c.begun_by-begun.ensures.begun c.begun_by-begun.ensures.later c.requires c.in-None.ensures.lookup.0
