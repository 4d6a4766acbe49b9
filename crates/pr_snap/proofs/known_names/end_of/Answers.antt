use Rattle.std.proofs.Common.{sym, arith}
use Rattle.pr_snap.proofs.Outside.{end_in, ended_lacks, none_begun_lacks}
use Rattle.pr_snap.proofs.known_names.end_of.Goals as goal

pub returns-then-begun-eq0 : goal.returns-then-begun-eq0
returns-then-begun-eq0 c =
    none_begun_lacks c.args.names.now c.parts-parts.result.now c.args.name.now c.begun_by-begun.result c.parts-parts.ensures.value c.parts-parts.ensures.set c.begun_by-begun.ensures.name
    c.begun_by-begun.ensures.most c.begun_by-begun.ensures.begun c.begun_by-begun.ensures.later c.if-begun-eq0.true

pub returns-then-is_above : goal.returns-then-is_above
returns-then-is_above c =
    end_in c.args.names.now c.parts-parts.result.now c.index-parts-begun.result c.index-parts-begun.result c.args.name.now c.hi-end.result c.begun_by-begun.result
    c.parts-parts.ensures.value c.parts-parts.ensures.set c.begun_by-begun.ensures.begun c.begun_by-begun.ensures.most (omega (arith, c.if-begun-eq0.false)) c.index-parts-begun.is
    c.hi-end.ensures.value (sym c.if-is_above.ensures)

pub returns-else-is_above : goal.returns-else-is_above
returns-else-is_above c =
    ended_lacks c.args.names.now c.parts-parts.result.now c.index-parts-begun.result c.index-parts-begun.result c.args.name.now c.hi-end.result c.begun_by-begun.result
    c.parts-parts.ensures.value c.parts-parts.ensures.set c.begun_by-begun.ensures.name c.begun_by-begun.ensures.most c.begun_by-begun.ensures.begun c.begun_by-begun.ensures.later
    (omega (arith, c.if-begun-eq0.false)) c.index-parts-begun.is c.hi-end.ensures.value (sym c.if-is_above.ensures)
