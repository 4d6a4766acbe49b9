use Rattle.std.proofs.Common.{sym, ◌∙◌}
use Rattle.pr_marks.specs.Table.{names_of}
use Rattle.pr_snap.proofs.KnownNames.{at_start, behind_start, here, none_left, none_of_set}
use Rattle.pr_snap.proofs.Known.{fewer_behind, is_known, is_unknown}
use Rattle.pr_snap.proofs.known_names.next_known_in.Goals as goal

pub returns-then-has-clause-value : goal.returns-then-has-clause-value
returns-then-has-clause-value c =
    sym (c.loop-name.invariant
    ∙ here c.args.names.now c.loop-name.last (names_of c.args.marks.now) c.in-Some.name c.in-Some.ensures.order (sym c.in-Some.ensures.value) (sym c.if-has.ensures))

pub returns-in_default-first_past-clause-value : goal.returns-in_default-first_past-clause-value
returns-in_default-first_past-clause-value c =
    sym (c.loop-name.invariant
    ∙ none_of_set c.args.names.now c.loop-name.last (names_of c.args.marks.now) c.in-Some.name c.in-Some.ensures.order (sym c.in-Some.ensures.value) (sym c.if-has.ensures)
    c.in_default-first_past.ensures)

pub returns-then-is_some-clause-value : goal.returns-then-is_some-clause-value
returns-then-is_some-clause-value c =
    sym (c.loop-name.invariant
    ∙ at_start c.args.names.now c.loop-name.last (names_of c.args.marks.now) c.in-Some.name c.in-Some-first_past.first c.in-Some.ensures.order (sym c.in-Some.ensures.value)
    (sym c.if-has.ensures) c.in-Some-first_past.ensures (is_known c.args.marks.now c.in-Some-first_past.first c.newest.result c.newest.ensures c.if-is_some.ensures))

pub loop-name-smaller : goal.loop-name-smaller
loop-name-smaller c =
    fewer_behind c.loop-name.last (names_of c.args.marks.now) c.in-Some.name c.in-Some-first_past.first c.in-Some.ensures.order c.in-Some.ensures.value c.in-Some-first_past.ensures.0

pub loop-name-preserved : goal.loop-name-preserved
loop-name-preserved c =
    c.loop-name.invariant
    ∙ behind_start c.args.names.now c.loop-name.last (names_of c.args.marks.now) c.in-Some.name c.in-Some-first_past.first c.in-Some.ensures.order (sym c.in-Some.ensures.value)
    (sym c.if-has.ensures) c.in-Some-first_past.ensures (is_unknown c.args.marks.now c.in-Some-first_past.first c.newest.result c.newest.ensures c.if-is_some.ensures)

pub returns-clause-value : goal.returns-clause-value
returns-clause-value c = sym (c.loop-name.invariant ∙ none_left c.args.names.now c.loop-name.last (names_of c.args.marks.now) (sym c.in_default.ensures.value))
