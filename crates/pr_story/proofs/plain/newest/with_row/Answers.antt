use Rattle.std.proofs.Common.{refl}
use Rattle.pr_story.proofs.NewestNow.{other_row, this_row_of}
use Rattle.pr_story.proofs.plain.newest.with_row.Goals as goal

pub returns-then-is_same : goal.returns-then-is_same
returns-then-is_same c = λ rows so. this_row_of rows c.args.row.now c.args.name.now c.args.newest.now c.later.result _ (c.is_same.ensures.0 c.if-is_same.true) refl refl c.later.ensures so

pub returns : goal.returns
returns c = λ rows so. other_row rows c.args.row.now c.args.name.now c.args.newest.now (λ e. let t = c.is_same.ensures.1 e in let f = c.if-is_same.false in cc) so
