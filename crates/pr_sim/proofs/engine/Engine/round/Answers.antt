use Rattle.std.proofs.Common.{◌≡◌, ℕ, List, [], ◌++◌, Err, Result, refl, sym, subst, arith}
use Rattle.std.specs.Prelude.{Bool, Ok, ◌||◌, filter}
use Rattle.pr_inval.specs.declared.node_fault.NodeFault.{NodeFault}
use Rattle.pr_story.specs.Scripts.{AreRound}
use Rattle.pr_sim.specs.Running.{below}
use Rattle.pr_sim.specs.Settles.{MakesPart, just}
use Rattle.pr_sim.proofs.Resting.{round_more, round_stops}
use Rattle.pr_sim.proofs.Settles.{fails, filter_more, filter_parts, goes_nowhere, still_in_time}
use Rattle.pr_sim.proofs.engine.Engine.round.Goals as goal

pub loop-at-init : goal.loop-at-init
loop-at-init c d attached h k in_time = ([], k, refl, goes_nowhere d h)

pub rest_at-requires-clause-settling : goal.rest_at-requires-clause-settling
rest_at-requires-clause-settling c =
    let r = c.requires.settling in
    let now = c.loop-at.invariant r.0 r.1 r.2 r.3 r.4 in
    (r.0, r.1, now.0 ++ r.2, now.1, still_in_time r.0 r.1 r.2 now.0 c.loop-at.sent now.3 r.4)

pub rest_at-requires-clause-within : goal.rest_at-requires-clause-within
rest_at-requires-clause-within c =
    let r = c.requires.settling in
    let now = c.loop-at.invariant r.0 r.1 r.2 r.3 r.4 in
    let a = now.1.streams in
    let b = r.3.streams in
    let l = c.len-at-end.ensures in
    let t = c.loop-at-test.true in
    omega arith

pub returns-in_err-sent : goal.returns-in_err-sent
returns-in_err-sent c d attached h k in_time =
    let now = c.loop-at.invariant d attached h k in_time in
    let next = c.in_err-sent.ensures d attached (now.0 ++ h) now.1 (still_in_time d attached h now.0 c.loop-at.sent now.3 in_time) in
    let streams = k.streams in
    let l = c.len-at-end.ensures in
    let t = c.loop-at-test.true in
    let parts = filter_parts attached d.counts.streams c.loop-at.at (omega arith) in
    fails (λ (r : Result Bool NodeFault). MakesPart (λ sent. AreRound (filter attached (below d.counts.streams))) d attached h c.rest_at.new.self r) _ c.from_residual.result c.in_err-sent.field-0.0 c.from_residual.ensures.1 (λ fault is. is)
    (subst (λ (xs : List ℕ). MakesPart (λ sent. AreRound xs) d attached h c.rest_at.new.self (Err c.in_err-sent.field-0.0)) (sym parts.1)
    (round_stops d attached h c.rest_at.new.self (filter attached (below c.loop-at.at)) (just attached c.loop-at.at) parts.0 now.0 c.loop-at.sent c.in_err-sent.field-0.0 now.2 next))

pub loop-at-preserved : goal.loop-at-preserved
loop-at-preserved c d attached h k in_time =
    let now = c.loop-at.invariant d attached h k in_time in
    let next = c.in_ok-sent.ensures d attached (now.0 ++ h) now.1 (still_in_time d attached h now.0 c.loop-at.sent now.3 in_time) in
    subst (λ (xs : List ℕ). MakesPart (λ sent. AreRound xs) d attached h c.rest_at.new.self (Ok (c.loop-at.sent || c.in_ok-sent.field-0))) (sym (filter_more attached c.loop-at.at))
    (round_more d attached h c.rest_at.new.self (filter attached (below c.loop-at.at)) (just attached c.loop-at.at) now.0 c.loop-at.sent now.2 now.3 c.in_ok-sent.field-0 next)

pub returns : goal.returns
returns c d attached h k in_time =
    let streams = k.streams in
    let l = c.len-at-end.ensures in
    let t = c.loop-at-test.false in
    let le = c.loop-at.auto.at-end in
    let all : c.loop-at.at ≡ d.counts.streams = omega arith in
    subst (λ (n : ℕ). MakesPart (λ sent. AreRound (filter attached (below n))) d attached h c.loop-at.self (Ok c.loop-at.sent)) all (c.loop-at.invariant d attached h k in_time)
