use Rattle.std.proofs.Common.{ℕ, ◌<◌, ◌≤◌, arith, subst, sym, length}
use Rattle.pr_vectors.specs.Vector.{clock_of}
use Rattle.pr_gaps.specs.Gaps.{Told, IsToldIn}
use Rattle.pr_vectors.specs.UpTo.{IsLastClock}
use Rattle.pr_gaps.proofs.Sets.{at_row}
use Rattle.pr_gaps.proofs.gaps.Gaps.last_precise.Goals as goal

pub returns-clause-value : goal.returns-clause-value
returns-clause-value c = rw (← c.self.view_is) (subst
    (λ row. (w : ℕ) → w < 32 → IsLastClock (IsToldIn c.self.inside.node c.self.inside.vector row) c.self.inside.vector w (clock_of c.last_precise.result w))
    (at_row c.self.inside.rows.items c.args.index c.index.result.now c.index.ensures (omega (arith, c.self.invariant, within)))
    c.last_precise.ensures.value)
  where
    within : c.args.index ≤ length c.self.inside.sets
    within = subst (λ (t : Told). c.args.index ≤ length t.sets) (sym c.self.view_is) c.requires
