use Rattle.std.proofs.Common.{List, subst, sym}
use Rattle.pr_inval.specs.declared.row.Row.{Row}
use Rattle.pr_story.specs.declared.event.Event.{Event}
use Rattle.pr_story.specs.Search.{IsNewestIn, IsNewestRow}
use Rattle.pr_story.proofs.NewestNow.{rows_newest, accepted_newest, wrote_newest}
use Rattle.pr_story.proofs.plain.newest.in_event.Goals as goal

pub returns-in-Checkpoint : goal.returns-in-Checkpoint
returns-in-Checkpoint c =
    subst (λ (e : Event). IsNewestIn e c.args.name.now c.in_rows.result) (sym c.in-Accepted.is)
    (rows_newest c.in-Accepted.msg c.in-Accepted.at c.in-Checkpoint.to c.in-Checkpoint.floor c.in-Checkpoint.target c.in-Checkpoint.rows c.args.name.now c.in_rows.result c.in-Checkpoint.is
    (subst (λ (rows : List Row). IsNewestRow rows c.args.name.now c.in_rows.result) c.as_slice.ensures c.in_rows.ensures))

pub returns-in-Wrote : goal.returns-in-Wrote
returns-in-Wrote c =
    subst (λ (e : Event). IsNewestIn e c.args.name.now c.in_write.result) (sym c.in-Wrote.is)
    (wrote_newest c.in-Wrote.client c.in-Wrote.write c.in-Wrote.body c.in-Wrote.after c.args.name.now c.in_write.result c.in_write.ensures)

pub returns-in-Precise : goal.returns-in-Precise
returns-in-Precise c =
    subst (λ (e : Event). IsNewestIn e c.args.name.now c.in_write-in-Precise.result) (sym c.in-Accepted.is)
    (accepted_newest c.in-Accepted.msg c.in-Accepted.at c.in-Precise.from c.in-Precise.to c.in-Precise.write c.args.name.now c.in_write-in-Precise.result c.in-Precise.is c.in_write-in-Precise.ensures)
