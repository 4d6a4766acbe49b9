use Rattle.std.proofs.Common.{rules}
use Rattle.std.proofs.lemmas.Fn.{filter_same}
use Rattle.pr_stamps.specs.Point.{is_before}
use Rattle.pr_bodies.proofs.Rows.{later}
use Rattle.pr_bodies.proofs.row.Row.keep_after.Goals as goal

pub returns : goal.returns
returns c t =
    rw (← c.self.view_is, filter_same _ (λ e. is_before c.args.stamp.now e.0) _ (search rules) _ _ c.retain.ensures.filtered) (later c.args.stamp.now c.self.inside.bodies.items t)
