use Rattle.std.proofs.Common.{◌≤◌, arith, subst, sym, length}
use Rattle.pr_gaps.specs.Gaps.{Told, IsLeastOutside, IsToldIn}
use Rattle.pr_gaps.proofs.Sets.{at_row}
use Rattle.pr_gaps.proofs.gaps.Gaps.first_untold.Goals as goal

pub returns : goal.returns
returns c = rw (← c.self.view_is) (subst
    (λ row. IsLeastOutside (IsToldIn c.self.inside.node c.self.inside.vector row) c.self.inside.vector 32 c.first_untold.result)
    (at_row c.self.inside.rows.items c.args.index c.index.result.now c.index.ensures (omega (arith, c.self.invariant, within)))
    c.first_untold.ensures)
  where
    within : c.args.index ≤ length c.self.inside.sets
    within = subst (λ (t : Told). c.args.index ≤ length t.sets) (sym c.self.view_is) c.requires
