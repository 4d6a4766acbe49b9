use Rattle.std.proofs.Common.{◌≡◌, ◌∷◌, ◌+◌, ◌-◌, ◌<◌, List, Result, Ok, Err, arith, length, sym, subst, take, ℕ}
use Rattle.std.proofs.lemmas.Result.{err_from_is_err_and}
use Rattle.pr_script.specs.Steps.{Numbered}
use Rattle.pr_sim.specs.Making.{declared_of}
use Rattle.pr_story.specs.Scripts.{JobAfterJob, Phase}
use Rattle.pr_text.specs.Steps.{jobs_of}
use Rattle.pr_top.specs.Progress.{HasStepped}
use Rattle.pr_sim.specs.Commands.{StepEnds}
use Rattle.pr_sim.specs.Phasing.{CanRunPhase}
use Rattle.pr_sim.proofs.Goods.{good_phase_can_run}
use Rattle.pr_flow.specs.Downs.{flows_of}
use Rattle.pr_top.specs.Downs.{IsUnsoundIn}
use Rattle.pr_top.specs.Runs.{all_sound}
use Rattle.pr_top.proofs.Downs.{sound_adds_for, sound_lie}
use Rattle.pr_top.proofs.Singles.{in_order_steps}
use Rattle.pr_top.specs.declared.stepping.Halt.{Halt}
use Rattle.pr_top.proofs.Steps.{phase_steps, phase_stops, phase_within, ready_for}
use Rattle.pr_top.proofs.stepping.Run.phase.Goals as goal

pub split_at-requires : goal.split_at-requires
split_at-requires c =
    let k = c.requires.come in
    let within : c.phase_len.result < length c.args.behind.now = phase_within JobAfterJob all_sound k.0 c.args.first.now c.args.behind.now k.1 c.args.self.now.engine c.args.self.now.unmet k.2 c.requires.phase c.phase_len.result c.phase_len.ensures in
    omega arith

pub phase_in_order-requires-clause-can : goal.phase_in_order-requires-clause-can
phase_in_order-requires-clause-can c κs =
    let k = c.requires.come in
    let ready = ready_for JobAfterJob all_sound k.0 c.args.first.now c.args.behind.now k.1 c.args.self.now.engine c.args.self.now.unmet k.2 c.requires.phase c.phase_len.result c.phase_len.ensures in
    subst (λ (xs : List Numbered). CanRunPhase c.args.self.now.engine xs) (sym c.split_at.ensures.front)
    (good_phase_can_run ready.decls ready.numbers ready.attached ready.h c.args.self.now.engine (take c.phase_len.result c.args.behind.now) ready.running ready.same ready.good)

pub returns-in_err-went-clause-steps : goal.returns-in_err-went-clause-steps
returns-in_err-went-clause-steps c = λ s h k.
    let p = err_from_is_err_and c.from_residual.result c.from_residual.ensures.1 in
    let was = c.in_err-went.was in
    let same = p.2 in
    let done : c.went.result ≡ Err p.0 = cc in
    subst (λ (r : Result ℕ Halt). HasStepped JobAfterJob all_sound s (c.args.first.now ∷ c.args.behind.now) h c.phase_in_order.new.self c.args.self.now.unmet r) (sym p.1)
    (phase_stops JobAfterJob all_sound s c.args.first.now c.args.behind.now h c.args.self.now.engine c.args.self.now.unmet k c.requires.phase c.phase_len.result c.phase_len.ensures c.phase_in_order.new.self c.phase_in_order.result c.went.result p.0
    (in_order_steps (λ x. IsUnsoundIn all_sound s x) (Phase (jobs_of (take c.phase_len.result c.args.behind.now))) (declared_of s.decls.list) k.attached h c.phase_in_order.new.self c.phase_in_order.result (sound_lie _ (flows_of (Phase (jobs_of c.split_at.result.0.now))) (λ x. IsUnsoundIn all_sound s x) c.phase_in_order.result c.phase_in_order.ensures.over.lie)
    (subst (λ (xs : List Numbered). StepEnds (Phase (jobs_of xs)) (declared_of s.decls.list) k.attached h c.phase_in_order.new.self c.phase_in_order.result) c.split_at.ensures.front (c.phase_in_order.ensures.steps (declared_of s.decls.list) k.attached h k.running))) c.went.ensures done)

pub overflow_sub-result : goal.overflow_sub-result
overflow_sub-result c =
    let k = c.requires.come in
    let within : c.phase_len.result < length c.args.behind.now = phase_within JobAfterJob all_sound k.0 c.args.first.now c.args.behind.now k.1 c.args.self.now.engine c.args.self.now.unmet k.2 c.requires.phase c.phase_len.result c.phase_len.ensures in
    omega (arith, c.split_at.ensures.back_len)

pub returns-clause-steps : goal.returns-clause-steps
returns-clause-steps c = λ s h k.
    let within : c.phase_len.result < length c.args.behind.now = phase_within JobAfterJob all_sound s c.args.first.now c.args.behind.now h c.args.self.now.engine c.args.self.now.unmet k c.requires.phase c.phase_len.result c.phase_len.ensures in
    let back = c.split_at.ensures.back_len in
    let count : c.phase_len.result + 1 ≡ length c.args.behind.now - (length c.split_at.result.1.now - 1) = omega arith in
    subst (λ (n : ℕ). HasStepped JobAfterJob all_sound s (c.args.first.now ∷ c.args.behind.now) h c.phase_in_order.new.self c.args.self.now.unmet (Ok n)) count
    (phase_steps JobAfterJob all_sound s c.args.first.now c.args.behind.now h c.args.self.now.engine c.args.self.now.unmet k c.requires.phase c.phase_len.result c.phase_len.ensures c.phase_in_order.new.self c.phase_in_order.result c.went.result
    (in_order_steps (λ x. IsUnsoundIn all_sound s x) (Phase (jobs_of (take c.phase_len.result c.args.behind.now))) (declared_of s.decls.list) k.attached h c.phase_in_order.new.self c.phase_in_order.result (sound_lie _ (flows_of (Phase (jobs_of c.split_at.result.0.now))) (λ x. IsUnsoundIn all_sound s x) c.phase_in_order.result c.phase_in_order.ensures.over.lie)
    (subst (λ (xs : List Numbered). StepEnds (Phase (jobs_of xs)) (declared_of s.decls.list) k.attached h c.phase_in_order.new.self c.phase_in_order.result) c.split_at.ensures.front (c.phase_in_order.ensures.steps (declared_of s.decls.list) k.attached h k.running))) c.went.ensures c.in_ok-went.was)

pub returns-in_err-went-clause-downs : goal.returns-in_err-went-clause-downs
returns-in_err-went-clause-downs c = λ s h k. sound_adds_for _ (flows_of (Phase (jobs_of c.split_at.result.0.now))) (λ x. IsUnsoundIn all_sound s x) (declared_of s.decls.list) h c.phase_in_order.new.self (c.phase_in_order.ensures.downs (declared_of s.decls.list) k.attached h k.running)

pub returns-clause-downs : goal.returns-clause-downs
returns-clause-downs c = λ s h k. sound_adds_for _ (flows_of (Phase (jobs_of c.split_at.result.0.now))) (λ x. IsUnsoundIn all_sound s x) (declared_of s.decls.list) h c.phase_in_order.new.self (c.phase_in_order.ensures.downs (declared_of s.decls.list) k.attached h k.running)
