use Rattle.std.proofs.Common.{ap}
use Rattle.pr_marks.specs.Table.{names_of}
use Rattle.pr_snap.specs.Build.{rows_at}
use Rattle.pr_snap.proofs.Names.{all_names}
use Rattle.pr_snap.proofs.Rows.{fewer_out, rows_end, rows_turn}
use Rattle.pr_snap.proofs.building.rows.Goals as goal

pub loop-name-init : goal.loop-name-init
loop-name-init c = rw c.new-rows.ensures (ap (rows_at c.args.marks.now c.args.target.now) (all_names (names_of c.args.marks.now)))

pub loop-name-smaller : goal.loop-name-smaller
loop-name-smaller c = fewer_out c.args.target.now c.loop-name.last (names_of c.args.marks.now) c.in-Some.name c.in-Some.ensures.value

pub loop-name-preserved : goal.loop-name-preserved
loop-name-preserved c = rows_turn c.args.marks.now c.args.target.now c.loop-name.last (names_of c.args.marks.now) c.in-Some.name c.loop-name.rows c.add_row.new.rows c.in-Some.ensures.order c.in-Some.ensures.value c.in_ok-add_row.ensures c.loop-name.invariant

pub returns-clause-rows : goal.returns-clause-rows
returns-clause-rows c = rows_end c.args.marks.now c.args.target.now c.loop-name.last (names_of c.args.marks.now) c.loop-name.rows c.in_default.ensures.value c.loop-name.invariant
