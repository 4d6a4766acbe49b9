use Rattle.std.proofs.Common.{rules, not}
use Rattle.std.proofs.lemmas.Fn.{filter_same}
use Rattle.pr_stamps.specs.declared.mark.Mark.{Mark}
use Rattle.pr_marks.proofs.Conflicting.{fewer_kept}
use Rattle.pr_vectors.specs.Vector.{is_covered}
use Rattle.pr_marks.proofs.row.Row.forget.Goals as goal

pub invariant_of-self : goal.invariant_of-self
invariant_of-self c =
    fewer_kept (λ s. not (is_covered c.args.floor.now s)) _ _ _ _ c.self.invariant.0 c.self.invariant.1
    (filter_same _ (λ (m : Mark). not (is_covered c.args.floor.now m.stamp)) _ (search rules) _ _ c.retain.ensures.filtered)
    (filter_same _ (λ (m : Mark). not (is_covered c.args.floor.now m.stamp)) _ (search rules) _ _ c.retain-2.ensures.filtered)

pub returns-clause-marks : goal.returns-clause-marks
returns-clause-marks c =
    rw (← c.self.view_is) (filter_same _ (λ (m : Mark). not (is_covered c.args.floor.now m.stamp)) _ (search rules) _ _ c.retain.ensures.filtered)
