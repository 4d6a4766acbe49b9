use Rattle.std.proofs.Common.{◌≡◌, ℕ, List, [], ◌++◌, Err, refl, sym, subst, arith}
use Rattle.std.specs.Prelude.{Ok, Result, filter}
use Rattle.pr_inval.specs.declared.node_fault.NodeFault.{NodeFault}
use Rattle.pr_sim.specs.Running.{below}
use Rattle.pr_sim.specs.Settles.{AttachesAnew, just}
use Rattle.pr_sim.proofs.Attaching.{attaches_fail, attaches_more}
use Rattle.pr_sim.proofs.Settles.{fails, filter_more, filter_parts}
use Rattle.pr_sim.proofs.engine.Engine.attach_all.Goals as goal

pub loop-at-init : goal.loop-at-init
loop-at-init c d attached h k = ([], k, refl)

pub attach_at-requires-clause-kept : goal.attach_at-requires-clause-kept
attach_at-requires-clause-kept c =
    let r = c.requires.kept in
    let now = c.loop-at.invariant r.0 r.1 r.2 r.3 in
    (r.0, r.1, now.0 ++ r.2, now.1)

pub attach_at-requires-clause-within : goal.attach_at-requires-clause-within
attach_at-requires-clause-within c =
    let r = c.requires.kept in
    let now = c.loop-at.invariant r.0 r.1 r.2 r.3 in
    let a = now.1.streams in
    let b = r.3.streams in
    let l = c.len-at-end.ensures in
    let t = c.loop-at-test.true in
    omega arith

pub returns-in_err-attach_at : goal.returns-in_err-attach_at
returns-in_err-attach_at c d attached h k =
    let streams = k.streams in
    let l = c.len-at-end.ensures in
    let t = c.loop-at-test.true in
    let parts = filter_parts attached d.counts.streams c.loop-at.at (omega arith) in
    fails (λ (r : Result (Unit {0}) NodeFault). AttachesAnew (filter attached (below d.counts.streams)) d attached h c.attach_at.new.self r) _ c.from_residual.result c.in_err-attach_at.field-0.0 c.from_residual.ensures.1 (λ fault is. is)
    (subst (λ (xs : List ℕ). AttachesAnew xs d attached h c.attach_at.new.self (Err c.in_err-attach_at.field-0.0)) (sym parts.1)
    (attaches_fail d attached h c.loop-at.self c.attach_at.new.self (filter attached (below c.loop-at.at)) (just attached c.loop-at.at) parts.0 c.in_err-attach_at.field-0.0
    (c.loop-at.invariant d attached h k) (λ a now. c.in_err-attach_at.ensures d attached (a ++ h) now)))

pub loop-at-preserved : goal.loop-at-preserved
loop-at-preserved c d attached h k =
    subst (λ (xs : List ℕ). AttachesAnew xs d attached h c.attach_at.new.self (Ok tt)) (sym (filter_more attached c.loop-at.at))
    (attaches_more d attached h c.loop-at.self c.attach_at.new.self (filter attached (below c.loop-at.at)) (just attached c.loop-at.at)
    (c.loop-at.invariant d attached h k) (λ a now. c.in_ok-attach_at.ensures d attached (a ++ h) now))

pub returns : goal.returns
returns c d attached h k =
    let streams = k.streams in
    let l = c.len-at-end.ensures in
    let t = c.loop-at-test.false in
    let le = c.loop-at.auto.at-end in
    let all : c.loop-at.at ≡ d.counts.streams = omega arith in
    subst (λ (n : ℕ). AttachesAnew (filter attached (below n)) d attached h c.loop-at.self (Ok tt)) all (c.loop-at.invariant d attached h k)
