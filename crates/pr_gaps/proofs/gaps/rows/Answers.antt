use Rattle.std.proofs.Common.{[], ◌∷◌, arith, length-append, refl}
use Rattle.pr_gaps.proofs.Sets.{none_push, none_at_all}
use Rattle.pr_gaps.proofs.gaps.rows.Goals as goal

pub loop-init : goal.loop-init
loop-init c = rw (c.in_ok-push.ensures.items, c.new-rows.ensures.items) (record { len = refl; none = none_push [] c.in_ok-new.field-0 none_at_all c.in_ok-new.ensures })

pub loop-preserved : goal.loop-preserved
loop-preserved c = rw c.in_ok-push-2.ensures.items (record {
  len = omega (arith, length-append c.loop.rows.items (c.in_ok-new-2.field-0 ∷ []), c.loop.invariant.len);
  none = none_push c.loop.rows.items c.in_ok-new-2.field-0 c.loop.invariant.none c.in_ok-new-2.ensures;
})
