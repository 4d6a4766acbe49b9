use Rattle.std.proofs.Common.{sym, subst, List, ℕ}
use Rattle.std.specs.Prelude.{OnOk}
use Rattle.pr_inval.specs.declared.kind.Kind.{Kind}
use Rattle.pr_inval.specs.declared.kind.Kind.TheVariants.{Body}
use Rattle.pr_node.specs.Taking.{HasTaken, LeavesBodies}
use Rattle.pr_node.proofs.taking.take.Goals as goal

pub returns-in-Precise-clause-taken : goal.returns-in-Precise-clause-taken
returns-in-Precise-clause-taken c = rw c.in-Precise.is c.take_precise.ensures.taken

pub returns-in-Imprecise-clause-taken : goal.returns-in-Imprecise-clause-taken
returns-in-Imprecise-clause-taken c = rw c.in-Imprecise.is c.take_imprecise.ensures.taken

pub returns-in-Checkpoint-clause-taken : goal.returns-in-Checkpoint-clause-taken
returns-in-Checkpoint-clause-taken c = rw c.in-Checkpoint.is (rw (← c.as_slice.ensures) c.take_checkpoint.ensures.taken)

pub returns-in-Checkpoint-clause-bodies : goal.returns-in-Checkpoint-clause-bodies
returns-in-Checkpoint-clause-bodies c = rw c.in-Checkpoint.is (rw (← c.as_slice.ensures) c.take_checkpoint.ensures.bodies)

pub returns-in-Body-clause-taken : goal.returns-in-Body-clause-taken
returns-in-Body-clause-taken c =
    subst (λ (k : Kind). OnOk c.take_body.result (HasTaken c.args.stores.now c.take_body.new.stores k)) (sym c.in-Body.is)
    (subst (λ (bytes : List ℕ). OnOk c.take_body.result (HasTaken c.args.stores.now c.take_body.new.stores (Body c.in-Body.name c.in-Body.stamp bytes))) c.as_slice-in-Body.ensures c.take_body.ensures.taken)

pub returns-in-Body-clause-bodies : goal.returns-in-Body-clause-bodies
returns-in-Body-clause-bodies c =
    subst (λ (k : Kind). OnOk c.take_body.result (LeavesBodies c.args.stores.now c.take_body.new.stores k)) (sym c.in-Body.is)
    (subst (λ (bytes : List ℕ). OnOk c.take_body.result (LeavesBodies c.args.stores.now c.take_body.new.stores (Body c.in-Body.name c.in-Body.stamp bytes))) c.as_slice-in-Body.ensures c.take_body.ensures.bodies)
