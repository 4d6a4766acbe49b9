use Rattle.std.proofs.Common.{◌<◌, ℕ, ◌∷◌, Result, refl, subst}
use Rattle.std.specs.Prelude.{Bool}
use Rattle.pr_inval.specs.declared.node_fault.NodeFault.{NodeFault}
use Rattle.pr_node.specs.declared.answers.turned.Turned.TheVariants as turned
use Rattle.pr_sim.specs.Settles.{IsAdvance, MakesPart}
use Rattle.pr_sim.proofs.Advancing.{checkpoint_stopped, idle_advanced, none_advanced, now_attached, same_streams, sent_advanced, sent_stopped, stale_advanced, stale_in_time, stale_stopped, still_attached}
use Rattle.pr_sim.proofs.Flows.{just_sent, turn_as}
use Rattle.pr_sim.proofs.Settles.{fails}
use Rattle.pr_sim.proofs.engine.Engine.advance.Goals as goal

pub returns-in_err-turn : goal.returns-in_err-turn
returns-in_err-turn c d attached h k in_time =
    let known = subst (λ (n : ℕ). c.args.stream < n) k.streams c.requires.stream in
    let stopped = c.in_err-turn.ensures d attached h k in
    fails (λ (r : Result Bool NodeFault). MakesPart (IsAdvance c.args.stream) d attached h c.turn.new.self r) _ c.from_residual.result c.in_err-turn.field-0.0 c.from_residual.ensures.1 (λ fault is. is)
    (none_advanced d attached h c.turn.new.self c.args.stream known c.in_err-turn.field-0.0 stopped.0 stopped.1)

pub returns-in-Idle : goal.returns-in-Idle
returns-in-Idle c d attached h k in_time =
    let known = subst (λ (n : ℕ). c.args.stream < n) k.streams c.requires.stream in
    let made = c.in_ok-turn.ensures d attached h k in
    let turn = turn_as c.args.stream c.in_ok-turn.field-0 turned.Idle made.0 c.in-Idle.is made.2 in
    idle_advanced d attached h c.turn.new.self c.args.stream known made.0 made.1 turn

pub snapshot-requires-clause-kept : goal.snapshot-requires-clause-kept
snapshot-requires-clause-kept c =
    let r = c.requires.settling in
    let made = c.in_ok-turn.ensures r.0 r.1 r.2 r.3 in
    (r.0, r.1, made.0 ∷ r.2, made.1)

pub snapshot-requires-clause-stream : goal.snapshot-requires-clause-stream
snapshot-requires-clause-stream c =
    let r = c.requires.settling in
    let made = c.in_ok-turn.ensures r.0 r.1 r.2 r.3 in
    same_streams r.0 r.1 r.2 (made.0 ∷ r.2) c.args.self.now c.turn.new.self c.args.stream r.3 made.1 c.requires.stream

pub snapshot-requires-clause-attached : goal.snapshot-requires-clause-attached
snapshot-requires-clause-attached c =
    let r = c.requires.settling in
    let made = c.in_ok-turn.ensures r.0 r.1 r.2 r.3 in
    still_attached r.0 r.1 r.2 (made.0 ∷ r.2) c.args.self.now c.turn.new.self c.args.stream r.3 made.1 c.requires.attached
    (same_streams r.0 r.1 r.2 (made.0 ∷ r.2) c.args.self.now c.turn.new.self c.args.stream r.3 made.1 c.requires.stream)

pub returns-in_err-snapshot-in-Stale : goal.returns-in_err-snapshot-in-Stale
returns-in_err-snapshot-in-Stale c d attached h k in_time =
    let known = subst (λ (n : ℕ). c.args.stream < n) k.streams c.requires.stream in
    let made = c.in_ok-turn.ensures d attached h k in
    let turn = turn_as c.args.stream c.in_ok-turn.field-0 turned.Stale made.0 c.in-Stale.is made.2 in
    let stopped = c.in_err-snapshot-in-Stale.ensures d attached (made.0 ∷ h) made.1 in
    fails (λ (r : Result Bool NodeFault). MakesPart (IsAdvance c.args.stream) d attached h c.snapshot.new.self r) _ c.from_residual-in_err-snapshot-in-Stale.result c.in_err-snapshot-in-Stale.field-0.0 c.from_residual-in_err-snapshot-in-Stale.ensures.1 (λ fault is. is)
    (stale_stopped d attached h c.snapshot.new.self c.args.stream known made.0 turn.0 c.in_err-snapshot-in-Stale.field-0.0 stopped.0 stopped.1 turn.1)

pub pass-requires-clause-kept : goal.pass-requires-clause-kept
pass-requires-clause-kept c =
    let r = c.requires.settling in
    let made = c.in_ok-turn.ensures r.0 r.1 r.2 r.3 in
    let sent = c.in_ok-snapshot-in-Stale.ensures r.0 r.1 (made.0 ∷ r.2) made.1 in
    (r.0, r.1, sent.0 ∷ (made.0 ∷ r.2), sent.1, (sent.2.0, (sent.0, made.0 ∷ r.2, refl, sent.2.1.0, sent.2.1.1)))

pub pass-requires-clause-stream : goal.pass-requires-clause-stream
pass-requires-clause-stream c =
    let r = c.requires.settling in
    let made = c.in_ok-turn.ensures r.0 r.1 r.2 r.3 in
    let sent = c.in_ok-snapshot-in-Stale.ensures r.0 r.1 (made.0 ∷ r.2) made.1 in
    same_streams r.0 r.1 r.2 (sent.0 ∷ (made.0 ∷ r.2)) c.args.self.now c.snapshot.new.self c.args.stream r.3 sent.1 c.requires.stream

pub returns-in_err-pass-in-Stale : goal.returns-in_err-pass-in-Stale
returns-in_err-pass-in-Stale c d attached h k in_time =
    let known = subst (λ (n : ℕ). c.args.stream < n) k.streams c.requires.stream in
    let made = c.in_ok-turn.ensures d attached h k in
    let turn = turn_as c.args.stream c.in_ok-turn.field-0 turned.Stale made.0 c.in-Stale.is made.2 in
    let sent = c.in_ok-snapshot-in-Stale.ensures d attached (made.0 ∷ h) made.1 in
    let still = stale_in_time d.plan h made.0 c.args.stream turn.0 made.1.stands.valid turn.1 (in_time c.args.stream known (now_attached d attached h c.args.self.now c.args.stream k c.requires.attached)) in
    let stopped = c.in_err-pass-in-Stale.ensures d attached (sent.0 ∷ (made.0 ∷ h)) sent.1 sent.2.0 sent.0 (made.0 ∷ h) refl sent.2.1.0 sent.2.1.1 still in
    fails (λ (r : Result Bool NodeFault). MakesPart (IsAdvance c.args.stream) d attached h c.pass.new.self r) _ c.from_residual-in_err-pass-in-Stale.result c.in_err-pass-in-Stale.field-0.0 c.from_residual-in_err-pass-in-Stale.ensures.1 (λ fault is. is)
    (checkpoint_stopped d attached h c.pass.new.self c.args.stream known made.0 sent.0 turn.0 sent.2.0 c.in_err-pass-in-Stale.field-0.0 stopped.0 stopped.1 turn.1 sent.2.1.0 sent.2.1.1 sent.2.1.2)

pub returns-in-Stale : goal.returns-in-Stale
returns-in-Stale c d attached h k in_time =
    let known = subst (λ (n : ℕ). c.args.stream < n) k.streams c.requires.stream in
    let made = c.in_ok-turn.ensures d attached h k in
    let turn = turn_as c.args.stream c.in_ok-turn.field-0 turned.Stale made.0 c.in-Stale.is made.2 in
    let sent = c.in_ok-snapshot-in-Stale.ensures d attached (made.0 ∷ h) made.1 in
    let still = stale_in_time d.plan h made.0 c.args.stream turn.0 made.1.stands.valid turn.1 (in_time c.args.stream known (now_attached d attached h c.args.self.now c.args.stream k c.requires.attached)) in
    let took = c.in_ok-pass-in-Stale.ensures d attached (sent.0 ∷ (made.0 ∷ h)) sent.1 sent.2.0 sent.0 (made.0 ∷ h) refl sent.2.1.0 sent.2.1.1 still in
    stale_advanced d attached h c.pass.new.self c.args.stream known made.0 sent.0 took.0 turn.0 sent.2.0 took.1 turn.1 sent.2.1.0 sent.2.1.1 sent.2.1.2 took.2

pub pass-requires-2-clause-kept : goal.pass-requires-2-clause-kept
pass-requires-2-clause-kept c =
    let r = c.requires.settling in
    let made = c.in_ok-turn.ensures r.0 r.1 r.2 r.3 in
    let turn = turn_as c.args.stream c.in_ok-turn.field-0 turned.Sent made.0 c.in-Sent.is made.2 in
    (r.0, r.1, made.0 ∷ r.2, made.1, (turn.0, just_sent c.args.stream made.0 r.2 turn))

pub pass-requires-2-clause-stream : goal.pass-requires-2-clause-stream
pass-requires-2-clause-stream c =
    let r = c.requires.settling in
    let made = c.in_ok-turn.ensures r.0 r.1 r.2 r.3 in
    same_streams r.0 r.1 r.2 (made.0 ∷ r.2) c.args.self.now c.turn.new.self c.args.stream r.3 made.1 c.requires.stream

pub returns-in_err-pass : goal.returns-in_err-pass
returns-in_err-pass c d attached h k in_time =
    let known = subst (λ (n : ℕ). c.args.stream < n) k.streams c.requires.stream in
    let made = c.in_ok-turn.ensures d attached h k in
    let turn = turn_as c.args.stream c.in_ok-turn.field-0 turned.Sent made.0 c.in-Sent.is made.2 in
    let stopped = c.in_err-pass.ensures d attached (made.0 ∷ h) made.1 turn.0 made.0 h refl turn.1.0 turn.1.1 (in_time c.args.stream known (now_attached d attached h c.args.self.now c.args.stream k c.requires.attached)) in
    fails (λ (r : Result Bool NodeFault). MakesPart (IsAdvance c.args.stream) d attached h c.pass-2.new.self r) _ c.from_residual-in_err-pass.result c.in_err-pass.field-0.0 c.from_residual-in_err-pass.ensures.1 (λ fault is. is)
    (sent_stopped d attached h c.pass-2.new.self c.args.stream known made.0 turn.0 c.in_err-pass.field-0.0 stopped.0 stopped.1 turn.1.0 turn.1.1 turn.1.2)

pub returns : goal.returns
returns c d attached h k in_time =
    let known = subst (λ (n : ℕ). c.args.stream < n) k.streams c.requires.stream in
    let made = c.in_ok-turn.ensures d attached h k in
    let turn = turn_as c.args.stream c.in_ok-turn.field-0 turned.Sent made.0 c.in-Sent.is made.2 in
    let took = c.in_ok-pass.ensures d attached (made.0 ∷ h) made.1 turn.0 made.0 h refl turn.1.0 turn.1.1 (in_time c.args.stream known (now_attached d attached h c.args.self.now c.args.stream k c.requires.attached)) in
    sent_advanced d attached h c.pass-2.new.self c.args.stream known made.0 took.0 turn.0 took.1 turn.1.0 turn.1.1 turn.1.2 took.2
