use Rattle.std.proofs.Common.{rules, not}
use Rattle.std.proofs.lemmas.Fn.{filter_same}
use Rattle.pr_stamps.specs.Point.{is_same}
use Rattle.pr_bodies.proofs.Rows.{removed}
use Rattle.pr_bodies.proofs.row.Row.remove.Goals as goal

pub returns : goal.returns
returns c t =
    rw (← c.self.view_is, filter_same _ (λ e. not (is_same e.0 c.args.stamp.now)) _ (search rules) _ _ c.retain.ensures.filtered) (removed c.args.stamp.now c.self.inside.bodies.items t)
