use Rattle.pr_snap.proofs.Turns.{if_row_taken}
use Rattle.pr_snap.proofs.applying.add_row.Goals as goal

pub returns-clause-taken : goal.returns-clause-taken
returns-clause-taken c = if_row_taken c.args.marks.now c.raise.new.self c.add_marks.new.marks c.args.row.now _ c.add_marks.result c.in_ok-raise.ensures.ok c.as_slice.ensures c.add_marks.ensures.marked
