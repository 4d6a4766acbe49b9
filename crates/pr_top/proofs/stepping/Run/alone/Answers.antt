use Rattle.std.proofs.Common.{◌≡◌, ◌∷◌, ◌+◌, Result, Err, drop, sym, subst, ℕ}
use Rattle.std.specs.Prelude.{IfOk}
use Rattle.std.proofs.lemmas.Result.{err_from_is_err_and}
use Rattle.pr_flow.specs.Downs.{IsUnsoundFor, flows_of}
use Rattle.pr_flow.proofs.Downs.{lie_more}
use Rattle.pr_sim.specs.Making.{declared_of}
use Rattle.pr_text.specs.Steps.{line_of}
use Rattle.pr_top.specs.Downs.{IsUnsoundIn, IsWithin}
use Rattle.pr_top.proofs.Downs.{adds_for, flows_alone, made_went, within_next, within_now}
use Rattle.pr_story.specs.Scripts.{ByTime}
use Rattle.pr_top.specs.Carrying.{StepCarries}
use Rattle.pr_top.specs.Progress.{HasStepped}
use Rattle.pr_top.specs.declared.stepping.Halt.{Halt}
use Rattle.pr_top.proofs.Carried.{alone_carries}
use Rattle.pr_top.proofs.Singles.{single_steps}
use Rattle.pr_top.proofs.Steps.{alone_steps, alone_stops, can_run, no_phase}
use Rattle.pr_top.proofs.stepping.Run.alone.Goals as goal

pub step-requires-clause-can : goal.step-requires-clause-can
step-requires-clause-can g c κs ls =
    let k = c.requires.come in
    can_run k.0 (g.W.Wires.sound c.args.wires.now) k.1.0 c.args.first.now c.args.behind.now k.1.1 c.args.self.now.engine c.args.self.now.unmet k.1.2 (no_phase c.args.first.now.1 c.requires.alone)

pub returns-in_err-went-clause-steps : goal.returns-in_err-went-clause-steps
returns-in_err-went-clause-steps g c = λ o s within h k.
    let sound = g.W.Wires.sound c.args.wires.now in
    let p = err_from_is_err_and c.from_residual.result c.from_residual.ensures.1 in
    let was = c.in_err-went.was in
    let same = p.2 in
    let done : c.went.result ≡ Err p.0 = cc in
    subst (λ (r : Result ℕ Halt). HasStepped o sound s (c.args.first.now ∷ c.args.behind.now) h c.step.new.self c.args.self.now.unmet r) (sym p.1)
    (alone_stops o sound s c.args.first.now c.args.behind.now h c.args.self.now.engine c.args.self.now.unmet k (no_phase c.args.first.now.1 c.requires.alone) c.step.new.self c.step.result c.went.result p.0
    (single_steps o (λ x. IsUnsoundIn sound s x) c.args.first.now.1 (declared_of s.decls.list) k.attached h c.step.new.self c.step.result (lie_more (λ x. IsUnsoundFor (g.W.Wires.sound c.args.wires.now) (g.W.Wires.made c.args.wires.now) (flows_of (line_of c.args.first.now.1)) x) (λ x. IsUnsoundIn (g.W.Wires.sound c.args.wires.now) s x) (within_now (g.W.Wires.sound c.args.wires.now) (g.W.Wires.made c.args.wires.now) (c.args.first.now ∷ c.args.behind.now) c.args.behind.now (flows_of (line_of c.args.first.now.1)) s within (flows_alone c.args.first.now c.args.behind.now (no_phase c.args.first.now.1 c.requires.alone))) c.step.result c.step.ensures.over.lie) (c.step.ensures.steps (declared_of s.decls.list) k.attached h k.running)) c.went.ensures done)

pub returns-clause-steps : goal.returns-clause-steps
returns-clause-steps g c = λ o s within h k.
    let sound = g.W.Wires.sound c.args.wires.now in
    alone_steps o sound s c.args.first.now c.args.behind.now h c.args.self.now.engine c.args.self.now.unmet k (no_phase c.args.first.now.1 c.requires.alone) c.step.new.self c.step.result c.went.result c.requires.alone
    (single_steps o (λ x. IsUnsoundIn sound s x) c.args.first.now.1 (declared_of s.decls.list) k.attached h c.step.new.self c.step.result (lie_more (λ x. IsUnsoundFor (g.W.Wires.sound c.args.wires.now) (g.W.Wires.made c.args.wires.now) (flows_of (line_of c.args.first.now.1)) x) (λ x. IsUnsoundIn (g.W.Wires.sound c.args.wires.now) s x) (within_now (g.W.Wires.sound c.args.wires.now) (g.W.Wires.made c.args.wires.now) (c.args.first.now ∷ c.args.behind.now) c.args.behind.now (flows_of (line_of c.args.first.now.1)) s within (flows_alone c.args.first.now c.args.behind.now (no_phase c.args.first.now.1 c.requires.alone))) c.step.result c.step.ensures.over.lie) (c.step.ensures.steps (declared_of s.decls.list) k.attached h k.running)) c.went.ensures c.in_ok-went.was

pub returns-in_err-went-clause-carried : goal.returns-in_err-went-clause-carried
returns-in_err-went-clause-carried g c = λ s h k.
    let p = err_from_is_err_and c.from_residual.result c.from_residual.ensures.1 in
    subst (λ (r : Result ℕ Halt). StepCarries s (c.args.first.now ∷ c.args.behind.now) h c.step.new.self (g.W.Wires.carried c.args.wires.now) (g.W.Wires.carried c.step.new.wires) r) (sym p.1) tt

pub returns-clause-carried : goal.returns-clause-carried
returns-clause-carried g c = λ s h k.
    alone_carries s c.args.first.now c.args.behind.now h c.args.self.now.engine c.args.self.now.unmet k (no_phase c.args.first.now.1 c.requires.alone) c.step.new.self (g.W.Wires.carried c.args.wires.now) (g.W.Wires.carried c.step.new.wires)
    (λ x. IsUnsoundFor (g.W.Wires.sound c.args.wires.now) (g.W.Wires.made c.args.wires.now) (flows_of (line_of c.args.first.now.1)) x) c.step.result c.went.result
    (single_steps ByTime (λ x. IsUnsoundFor (g.W.Wires.sound c.args.wires.now) (g.W.Wires.made c.args.wires.now) (flows_of (line_of c.args.first.now.1)) x) c.args.first.now.1 (declared_of s.decls.list) k.attached h c.step.new.self c.step.result c.step.ensures.over.lie (c.step.ensures.steps (declared_of s.decls.list) k.attached h k.running))
    (c.step.ensures.carried (declared_of s.decls.list) k.attached h k.running) c.went.ensures c.in_ok-went.was

pub returns-in_err-went-clause-downs : goal.returns-in_err-went-clause-downs
returns-in_err-went-clause-downs g c = λ o s within h k.
    adds_for (λ x. IsUnsoundFor (g.W.Wires.sound c.args.wires.now) (g.W.Wires.made c.args.wires.now) (flows_of (line_of c.args.first.now.1)) x) (λ x. IsUnsoundIn (g.W.Wires.sound c.args.wires.now) s x) (within_now (g.W.Wires.sound c.args.wires.now) (g.W.Wires.made c.args.wires.now) (c.args.first.now ∷ c.args.behind.now) c.args.behind.now (flows_of (line_of c.args.first.now.1)) s within (flows_alone c.args.first.now c.args.behind.now (no_phase c.args.first.now.1 c.requires.alone))) (declared_of s.decls.list) h c.step.new.self (c.step.ensures.downs (declared_of s.decls.list) k.attached h k.running)

pub returns-clause-downs : goal.returns-clause-downs
returns-clause-downs g c = λ o s within h k.
    adds_for (λ x. IsUnsoundFor (g.W.Wires.sound c.args.wires.now) (g.W.Wires.made c.args.wires.now) (flows_of (line_of c.args.first.now.1)) x) (λ x. IsUnsoundIn (g.W.Wires.sound c.args.wires.now) s x) (within_now (g.W.Wires.sound c.args.wires.now) (g.W.Wires.made c.args.wires.now) (c.args.first.now ∷ c.args.behind.now) c.args.behind.now (flows_of (line_of c.args.first.now.1)) s within (flows_alone c.args.first.now c.args.behind.now (no_phase c.args.first.now.1 c.requires.alone))) (declared_of s.decls.list) h c.step.new.self (c.step.ensures.downs (declared_of s.decls.list) k.attached h k.running)

pub returns-in_err-went-clause-within : goal.returns-in_err-went-clause-within
returns-in_err-went-clause-within g c = λ s within.
    let p = err_from_is_err_and c.from_residual.result c.from_residual.ensures.1 in
    subst (λ (r : Result ℕ Halt). IfOk r (λ n. IsWithin (g.W.Wires.sound c.step.new.wires) (g.W.Wires.made c.step.new.wires) (drop (n + 1) (c.args.first.now ∷ c.args.behind.now)) s)) (sym p.1) tt

pub returns-clause-within : goal.returns-clause-within
returns-clause-within g c = λ s within.
    within_next (g.W.Wires.sound c.args.wires.now) (g.W.Wires.made c.args.wires.now) (c.args.first.now ∷ c.args.behind.now) c.args.behind.now (flows_of (line_of c.args.first.now.1)) s within (flows_alone c.args.first.now c.args.behind.now (no_phase c.args.first.now.1 c.requires.alone))
    (g.W.Wires.sound c.step.new.wires) (g.W.Wires.made c.step.new.wires) c.step.ensures.wires.same_sound
    (made_went (λ w. g.W.Wires.made w) (λ w. g.W.Wires.sound w) (flows_of (line_of c.args.first.now.1)) c.args.wires.now c.step.new.wires c.step.result c.went.result c.step.ensures.over c.went.ensures c.in_ok-went.was)
