use Rattle.std.proofs.Common.{arith, ◌-◌}
use Rattle.pr_script.proofs.Packing.{power_positive, few_bytes, none_packed, byte_before, grows}
use Rattle.pr_script.proofs.index.packed.Goals as goal

pub loop-i-init : goal.loop-i-init
loop-i-init c = record { packed = none_packed c.args.label.now; small = power_positive _; within = omega arith }

pub overflow_mul-n : goal.overflow_mul-n
overflow_mul-n c =
    let p = few_bytes c.loop-i.n _ (omega (arith, c.requires, c.loop-i-test.true)) c.loop-i.invariant.small in
    omega (arith, p)

pub overflow_add-n : goal.overflow_add-n
overflow_add-n c =
    let p = few_bytes c.loop-i.n _ (omega (arith, c.requires, c.loop-i-test.true)) c.loop-i.invariant.small in
    omega (arith, p, c.type_inv.label (c.loop-i.i - 1))

pub loop-i-preserved : goal.loop-i-preserved
loop-i-preserved c = record {
  packed = byte_before c.args.label.now c.loop-i.i c.loop-i.n c.loop-i-test.true c.loop-i.invariant.within c.loop-i.invariant.packed;
  small = grows c.loop-i.n _ _ _ c.loop-i.invariant.small (omega (arith, c.type_inv.label (c.loop-i.i - 1))) (omega (arith, c.loop-i.invariant.within, c.loop-i-test.true));
  within = omega (arith, c.loop-i.invariant.within);
}
