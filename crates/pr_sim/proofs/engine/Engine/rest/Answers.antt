use Rattle.std.proofs.Common.{◌++◌, Result, subst}
use Rattle.std.specs.Prelude.{Bool, Ok}
use Rattle.pr_inval.specs.declared.node_fault.NodeFault.{NodeFault}
use Rattle.pr_story.specs.Scripts.{AreSettled}
use Rattle.pr_sim.specs.Settles.{IsAdvance, MakesPart}
use Rattle.pr_sim.proofs.Advancing.{same_streams, still_attached}
use Rattle.pr_sim.proofs.Resting.{advance_last, advance_more, advance_stops, nothing_led}
use Rattle.pr_sim.proofs.Settles.{fails, still_in_time}
use Rattle.pr_sim.proofs.Story.{less_left}
use Rattle.pr_sim.proofs.engine.Engine.rest.Goals as goal

pub loop-sent-init : goal.loop-sent-init
loop-sent-init c d attached h k in_time = nothing_led d attached h c.args.self.now c.args.stream k

pub advance-requires-clause-settling : goal.advance-requires-clause-settling
advance-requires-clause-settling c =
    let r = c.requires.settling in
    let now = c.loop-sent.invariant r.0 r.1 r.2 r.3 r.4 in
    (r.0, r.1, now.0 ++ r.2, now.1, still_in_time r.0 r.1 r.2 now.0 c.loop-sent.sent now.3 r.4)

pub advance-requires-clause-stream : goal.advance-requires-clause-stream
advance-requires-clause-stream c =
    let r = c.requires.settling in
    let now = c.loop-sent.invariant r.0 r.1 r.2 r.3 r.4 in
    same_streams r.0 r.1 r.2 (now.0 ++ r.2) c.args.self.now c.loop-sent.self c.args.stream r.3 now.1 c.requires.stream

pub advance-requires-clause-attached : goal.advance-requires-clause-attached
advance-requires-clause-attached c =
    let r = c.requires.settling in
    let now = c.loop-sent.invariant r.0 r.1 r.2 r.3 r.4 in
    still_attached r.0 r.1 r.2 (now.0 ++ r.2) c.args.self.now c.loop-sent.self c.args.stream r.3 now.1 c.requires.attached
    (same_streams r.0 r.1 r.2 (now.0 ++ r.2) c.args.self.now c.loop-sent.self c.args.stream r.3 now.1 c.requires.stream)

pub returns-in_err-advance : goal.returns-in_err-advance
returns-in_err-advance c d attached h k in_time =
    let now = c.loop-sent.invariant d attached h k in_time in
    let next = c.in_err-advance.ensures d attached (now.0 ++ h) now.1 (still_in_time d attached h now.0 c.loop-sent.sent now.3 in_time) in
    fails (λ (r : Result Bool NodeFault). MakesPart (λ sent. AreSettled c.args.stream) d attached h c.advance.new.self r) _ c.from_residual.result c.in_err-advance.field-0.0 c.from_residual.ensures.1 (λ fault is. is)
    (advance_stops d attached h c.advance.new.self c.args.stream c.loop-sent.sent now.0 c.in_err-advance.field-0.0 now.2 next)

pub loop-sent-smaller : goal.loop-sent-smaller
loop-sent-smaller c =
    let r = c.requires.settling in
    let now = c.loop-sent.invariant r.0 r.1 r.2 r.3 r.4 in
    let next = c.in_ok-advance.ensures r.0 r.1 (now.0 ++ r.2) now.1 (still_in_time r.0 r.1 r.2 now.0 c.loop-sent.sent now.3 r.4) in
    less_left r.0 r.1 (now.0 ++ r.2) c.loop-sent.self c.advance.new.self (IsAdvance c.args.stream) now.1
    (subst (λ (b : Bool). MakesPart (IsAdvance c.args.stream) r.0 r.1 (now.0 ++ r.2) c.advance.new.self (Ok b)) c.if-branch.true next)

pub loop-sent-preserved : goal.loop-sent-preserved
loop-sent-preserved c d attached h k in_time =
    let now = c.loop-sent.invariant d attached h k in_time in
    let next = c.in_ok-advance.ensures d attached (now.0 ++ h) now.1 (still_in_time d attached h now.0 c.loop-sent.sent now.3 in_time) in
    advance_more d attached h c.advance.new.self c.args.stream c.loop-sent.sent now.0 now.2 now.3 c.in_ok-advance.field-0 c.if-branch.true next

pub returns : goal.returns
returns c d attached h k in_time =
    let now = c.loop-sent.invariant d attached h k in_time in
    let next = c.in_ok-advance.ensures d attached (now.0 ++ h) now.1 (still_in_time d attached h now.0 c.loop-sent.sent now.3 in_time) in
    advance_last d attached h c.advance.new.self c.args.stream c.loop-sent.sent now.0 now.2 now.3 c.in_ok-advance.field-0 c.if-branch.false next
