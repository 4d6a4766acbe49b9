use Rattle.std.proofs.Common.{arith}
use Rattle.pr_gaps.proofs.Joined.{not_there_yet, run_told, told_too}
use Rattle.pr_gaps.proofs.clocks.Clocks.add.Goals as goal

pub invariant_of-self : goal.invariant_of-self
invariant_of-self c = (c.self.invariant.0, not_there_yet c.add.result c.self.inside.others c.add.new.self c.args.lo c.args.hi _ c.add.ensures.ok c.add.ensures.err (omega (arith, c.if-lo-self.true)) c.self.invariant.1)

pub returns-then-lo-self : goal.returns-then-lo-self
returns-then-lo-self c = rw (← c.self.view_is) (told_too c.add.result c.self.inside.last c.self.inside.others c.add.new.self c.args.lo c.args.hi c.add.ensures.ok)

pub returns : goal.returns
returns c k =
    let told = run_told c.self.inside.last c.args.lo c.args.hi _ k _ c.max.ensures c.requires.some (omega (arith, c.if-lo-self.false)) in
    let joined = c.join_run-self-inside.ensures.same k in
    rw (← c.self.view_is) ((λ has. told.0 (joined.0 has)), (λ either. joined.1 (told.1 either)))
