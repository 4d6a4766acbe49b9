use Rattle.std.proofs.Common.{sym, ◌∙◌}
use Rattle.pr_marks.specs.Table.{names_of}
use Rattle.pr_snap.proofs.Known.{fewer_behind, is_known, is_unknown}
use Rattle.pr_snap.proofs.Outside.{all_in, at_end, behind_end, end_at, end_open, none_out, out_here}
use Rattle.pr_snap.proofs.known_names.next_known_outside.Goals as goal

pub returns-in_default-end_of-clause-value : goal.returns-in_default-end_of-clause-value
returns-in_default-end_of-clause-value c =
    sym (c.loop-name.invariant
    ∙ out_here c.args.names.now c.loop-name.last (names_of c.args.marks.now) c.in-Some.name c.in-Some.ensures.order (sym c.in-Some.ensures.value) c.in_default-end_of.ensures)

pub returns-in_default-name_at-clause-value : goal.returns-in_default-name_at-clause-value
returns-in_default-name_at-clause-value c =
    sym (c.loop-name.invariant
    ∙ all_in c.args.names.now c.loop-name.last (names_of c.args.marks.now) c.in-Some.name c.in-Some.ensures.order (sym c.in-Some.ensures.value)
    (end_open c.args.names.now c.in-Some.name c.in-Some-end_of.end c.in-Some-end_of.ensures c.in_default-name_at.ensures))

pub returns-then-is_some-clause-value : goal.returns-then-is_some-clause-value
returns-then-is_some-clause-value c =
    sym (c.loop-name.invariant
    ∙ at_end c.args.names.now c.loop-name.last (names_of c.args.marks.now) c.in-Some.name c.in-Some-name_at.end c.in-Some.ensures.order (sym c.in-Some.ensures.value)
    (end_at c.args.names.now c.in-Some.name c.in-Some-end_of.end c.in-Some-name_at.end c.in-Some-end_of.ensures c.in-Some-name_at.ensures)
    (is_known c.args.marks.now c.in-Some-name_at.end c.newest.result c.newest.ensures c.if-is_some.ensures))

pub loop-name-smaller : goal.loop-name-smaller
loop-name-smaller c =
    fewer_behind c.loop-name.last (names_of c.args.marks.now) c.in-Some.name c.in-Some-name_at.end c.in-Some.ensures.order c.in-Some.ensures.value
    (end_at c.args.names.now c.in-Some.name c.in-Some-end_of.end c.in-Some-name_at.end c.in-Some-end_of.ensures c.in-Some-name_at.ensures).0

pub loop-name-preserved : goal.loop-name-preserved
loop-name-preserved c =
    c.loop-name.invariant
    ∙ behind_end c.args.names.now c.loop-name.last (names_of c.args.marks.now) c.in-Some.name c.in-Some-name_at.end c.in-Some.ensures.order (sym c.in-Some.ensures.value)
    (end_at c.args.names.now c.in-Some.name c.in-Some-end_of.end c.in-Some-name_at.end c.in-Some-end_of.ensures c.in-Some-name_at.ensures)
    (is_unknown c.args.marks.now c.in-Some-name_at.end c.newest.result c.newest.ensures c.if-is_some.ensures)

pub returns-clause-value : goal.returns-clause-value
returns-clause-value c = sym (c.loop-name.invariant ∙ none_out c.args.names.now c.loop-name.last (names_of c.args.marks.now) (sym c.in_default.ensures.value))
