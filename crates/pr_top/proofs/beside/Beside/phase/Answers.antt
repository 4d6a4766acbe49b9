use Rattle.std.proofs.Common.{◌≡◌, ◌∙◌, ◌∷◌, ◌+◌, ◌-◌, ◌<◌, List, Result, Ok, Err, arith, drop, length, suc, sym, subst, take, ℕ}
use Rattle.std.specs.Prelude.{IfOk}
use Rattle.std.proofs.lemmas.Result.{err_from_is_err_and}
use Rattle.pr_script.specs.Steps.{Numbered}
use Rattle.pr_sim.specs.Making.{declared_of}
use Rattle.pr_story.specs.Scripts.{ByTime, Phase}
use Rattle.pr_crew.specs.Carrying.{PhaseCarries}
use Rattle.pr_crew.specs.Sound as crew
use Rattle.pr_flow.specs.Downs.{GoesOver, IsUnsoundFor, flows_of}
use Rattle.pr_flow.proofs.Downs.{lie_more}
use Rattle.pr_text.specs.Steps.{jobs_of}
use Rattle.pr_top.specs.Downs.{IsUnsoundIn, IsWithin}
use Rattle.pr_top.specs.Carrying.{StepCarries}
use Rattle.pr_top.specs.Progress.{HasStepped}
use Rattle.pr_crew.specs.Phases.{LeavesPhase}
use Rattle.pr_sim.specs.Holding.{KeepsRecords, held_of}
use Rattle.pr_sim.proofs.Represented.{represents}
use Rattle.pr_story.specs.Counts.{Declared}
use Rattle.pr_story.specs.History.{NodeEntry}
use Rattle.pr_top.specs.Stopping.{IsReadyFor}
use Rattle.pr_top.proofs.Carried.{phase_carries}
use Rattle.pr_top.proofs.Downs.{crew_adds, flows_phase, made_went, threads_add, within_next, within_now}
use Rattle.pr_top.proofs.Threads.{are_distinct, can_run, threads_step}
use Rattle.pr_top.specs.declared.stepping.Halt.{Halt}
use Rattle.pr_top.proofs.Steps.{phase_steps, phase_stops, phase_within, ready_for}
use Rattle.pr_top.proofs.beside.Beside.phase.Goals as goal

pub split_at-requires : goal.split_at-requires
split_at-requires g c =
    let k = c.requires.come in
    let within : c.phase_len.result < length c.args.behind.now = phase_within ByTime (g.W.Wires.sound c.args.wires.now) k.0 c.args.first.now c.args.behind.now k.1 c.args.run.now.engine c.args.run.now.unmet k.2 c.requires.phase c.phase_len.result c.phase_len.ensures in
    omega arith

pub phase-requires-clause-kept : goal.phase-requires-clause-kept
phase-requires-clause-kept g c κs ls =
    let k = c.requires.come in
    (declared_of k.0.decls.list, k.1, (represents (declared_of k.0.decls.list) k.2.attached k.1 c.args.run.now.engine k.2.running).0)

pub phase-requires-clause-can : goal.phase-requires-clause-can
phase-requires-clause-can g c κs ls =
    let k = c.requires.come in
    let within : c.phase_len.result < length c.args.behind.now = phase_within ByTime (g.W.Wires.sound c.args.wires.now) k.0 c.args.first.now c.args.behind.now k.1 c.args.run.now.engine c.args.run.now.unmet k.2 c.requires.phase c.phase_len.result c.phase_len.ensures in
    let ready = subst (λ (xs : List Numbered). IsReadyFor c.args.run.now.engine xs) (sym c.split_at.ensures.front) (ready_for ByTime (g.W.Wires.sound c.args.wires.now) k.0 c.args.first.now c.args.behind.now k.1 c.args.run.now.engine c.args.run.now.unmet k.2 c.requires.phase c.phase_len.result c.phase_len.ensures) in
    can_run c.args.run.now.engine c.split_at.result.0.now ready (omega (arith, c.split_at.ensures.front_len, c.requires.lines))

pub phase-requires-clause-distinct : goal.phase-requires-clause-distinct
phase-requires-clause-distinct g c κs ls = λ d h r.
    let k = c.requires.come in
    let within : c.phase_len.result < length c.args.behind.now = phase_within ByTime (g.W.Wires.sound c.args.wires.now) k.0 c.args.first.now c.args.behind.now k.1 c.args.run.now.engine c.args.run.now.unmet k.2 c.requires.phase c.phase_len.result c.phase_len.ensures in
    let ready = subst (λ (xs : List Numbered). IsReadyFor c.args.run.now.engine xs) (sym c.split_at.ensures.front) (ready_for ByTime (g.W.Wires.sound c.args.wires.now) k.0 c.args.first.now c.args.behind.now k.1 c.args.run.now.engine c.args.run.now.unmet k.2 c.requires.phase c.phase_len.result c.phase_len.ensures) in
    are_distinct c.args.run.now.engine c.split_at.result.0.now ready d h r (omega (arith, c.split_at.ensures.front_len, c.requires.lines))

pub returns-in_err-went-clause-steps : goal.returns-in_err-went-clause-steps
returns-in_err-went-clause-steps g c = λ s within h k.
    let over = (subst (λ (xs : List Numbered). GoesOver (λ w. g.W.Wires.made w) (λ w. g.W.Wires.sound w) (flows_of (Phase (jobs_of xs))) c.args.wires.now c.phase.new.wires c.phase.result) c.split_at.ensures.front c.phase.ensures.over) in
    let now = (within_now (g.W.Wires.sound c.args.wires.now) (g.W.Wires.made c.args.wires.now) (c.args.first.now ∷ c.args.behind.now) (drop (c.phase_len.result + 1) c.args.behind.now) (flows_of (Phase (jobs_of (take c.phase_len.result c.args.behind.now)))) s within (flows_phase c.args.first.now c.args.behind.now c.phase_len.result c.requires.phase c.phase_len.ensures k.whole)) in
    let p = err_from_is_err_and c.from_residual.result c.from_residual.ensures.1 in
    let was = c.in_err-went.was in
    let same = p.2 in
    let done : c.went.result ≡ Err p.0 = cc in
    subst (λ (r : Result ℕ Halt). HasStepped ByTime (g.W.Wires.sound c.args.wires.now) s (c.args.first.now ∷ c.args.behind.now) h c.phase.new.held c.args.run.now.unmet r) (sym p.1)
    (phase_stops ByTime (g.W.Wires.sound c.args.wires.now) s c.args.first.now c.args.behind.now h c.args.run.now.engine c.args.run.now.unmet k c.requires.phase c.phase_len.result c.phase_len.ensures c.phase.new.held c.phase.result c.went.result p.0
    (threads_step (λ x. IsUnsoundIn (g.W.Wires.sound c.args.wires.now) s x) (take c.phase_len.result c.args.behind.now) (declared_of s.decls.list) k.attached h c.args.run.now.engine c.phase.new.held c.phase.result k.running
    (subst (λ (xs : List Numbered). LeavesPhase (λ (d : Declared) (x : List NodeEntry). KeepsRecords d x c.phase.new.held) (declared_of s.decls.list) h xs (held_of c.phase.new.held) c.phase.result) c.split_at.ensures.front (c.phase.ensures.leaves (declared_of s.decls.list) h (represents (declared_of s.decls.list) k.attached h c.args.run.now.engine k.running).0)) c.phase.ensures.attached c.phase.ensures.works (lie_more (λ x. IsUnsoundFor (g.W.Wires.sound c.args.wires.now) (g.W.Wires.made c.args.wires.now) (flows_of (Phase (jobs_of (take c.phase_len.result c.args.behind.now)))) x) (λ x. IsUnsoundIn (g.W.Wires.sound c.args.wires.now) s x) now c.phase.result over.lie)) c.went.ensures done)

pub overflow_sub-result : goal.overflow_sub-result
overflow_sub-result g c =
    let k = c.requires.come in
    let within : c.phase_len.result < length c.args.behind.now = phase_within ByTime (g.W.Wires.sound c.args.wires.now) k.0 c.args.first.now c.args.behind.now k.1 c.args.run.now.engine c.args.run.now.unmet k.2 c.requires.phase c.phase_len.result c.phase_len.ensures in
    omega (arith, c.split_at.ensures.back_len)

pub returns-clause-steps : goal.returns-clause-steps
returns-clause-steps g c = λ s within h k.
    let over = (subst (λ (xs : List Numbered). GoesOver (λ w. g.W.Wires.made w) (λ w. g.W.Wires.sound w) (flows_of (Phase (jobs_of xs))) c.args.wires.now c.phase.new.wires c.phase.result) c.split_at.ensures.front c.phase.ensures.over) in
    let now = (within_now (g.W.Wires.sound c.args.wires.now) (g.W.Wires.made c.args.wires.now) (c.args.first.now ∷ c.args.behind.now) (drop (c.phase_len.result + 1) c.args.behind.now) (flows_of (Phase (jobs_of (take c.phase_len.result c.args.behind.now)))) s within (flows_phase c.args.first.now c.args.behind.now c.phase_len.result c.requires.phase c.phase_len.ensures k.whole)) in
    let inside : c.phase_len.result < length c.args.behind.now = phase_within ByTime (g.W.Wires.sound c.args.wires.now) s c.args.first.now c.args.behind.now h c.args.run.now.engine c.args.run.now.unmet k c.requires.phase c.phase_len.result c.phase_len.ensures in
    let back = c.split_at.ensures.back_len in
    let count : c.phase_len.result + 1 ≡ length c.args.behind.now - (length c.split_at.result.1.now - 1) = omega arith in
    subst (λ (n : ℕ). HasStepped ByTime (g.W.Wires.sound c.args.wires.now) s (c.args.first.now ∷ c.args.behind.now) h c.phase.new.held c.args.run.now.unmet (Ok n)) count
    (phase_steps ByTime (g.W.Wires.sound c.args.wires.now) s c.args.first.now c.args.behind.now h c.args.run.now.engine c.args.run.now.unmet k c.requires.phase c.phase_len.result c.phase_len.ensures c.phase.new.held c.phase.result c.went.result
    (threads_step (λ x. IsUnsoundIn (g.W.Wires.sound c.args.wires.now) s x) (take c.phase_len.result c.args.behind.now) (declared_of s.decls.list) k.attached h c.args.run.now.engine c.phase.new.held c.phase.result k.running
    (subst (λ (xs : List Numbered). LeavesPhase (λ (d : Declared) (x : List NodeEntry). KeepsRecords d x c.phase.new.held) (declared_of s.decls.list) h xs (held_of c.phase.new.held) c.phase.result) c.split_at.ensures.front (c.phase.ensures.leaves (declared_of s.decls.list) h (represents (declared_of s.decls.list) k.attached h c.args.run.now.engine k.running).0)) c.phase.ensures.attached c.phase.ensures.works (lie_more (λ x. IsUnsoundFor (g.W.Wires.sound c.args.wires.now) (g.W.Wires.made c.args.wires.now) (flows_of (Phase (jobs_of (take c.phase_len.result c.args.behind.now)))) x) (λ x. IsUnsoundIn (g.W.Wires.sound c.args.wires.now) s x) now c.phase.result over.lie)) c.went.ensures c.in_ok-went.was)

pub returns-in_err-went-clause-carried : goal.returns-in_err-went-clause-carried
returns-in_err-went-clause-carried g c = λ s h k.
    let p = err_from_is_err_and c.from_residual.result c.from_residual.ensures.1 in
    subst (λ (r : Result ℕ Halt). StepCarries s (c.args.first.now ∷ c.args.behind.now) h c.phase.new.held (g.W.Wires.carried c.args.wires.now) (g.W.Wires.carried c.phase.new.wires) r) (sym p.1) tt

pub returns-clause-carried : goal.returns-clause-carried
returns-clause-carried g c = λ s h k.
    let over = (subst (λ (xs : List Numbered). GoesOver (λ w. g.W.Wires.made w) (λ w. g.W.Wires.sound w) (flows_of (Phase (jobs_of xs))) c.args.wires.now c.phase.new.wires c.phase.result) c.split_at.ensures.front c.phase.ensures.over) in
    let before = g.W.Wires.carried c.args.wires.now in
    let now = g.W.Wires.carried c.phase.new.wires in
    let within : c.phase_len.result < length c.args.behind.now = phase_within ByTime (g.W.Wires.sound c.args.wires.now) s c.args.first.now c.args.behind.now h c.args.run.now.engine c.args.run.now.unmet k c.requires.phase c.phase_len.result c.phase_len.ensures in
    let back = c.split_at.ensures.back_len in
    let count : c.phase_len.result + 1 ≡ length c.args.behind.now - (length c.split_at.result.1.now - 1) = omega arith in
    subst (λ (n : ℕ). StepCarries s (c.args.first.now ∷ c.args.behind.now) h c.phase.new.held before now (Ok n)) count
    (phase_carries s c.args.first.now c.args.behind.now h c.args.run.now.engine c.args.run.now.unmet k c.requires.phase c.phase_len.result c.phase_len.ensures (λ x. IsUnsoundFor (g.W.Wires.sound c.args.wires.now) (g.W.Wires.made c.args.wires.now) (flows_of (Phase (jobs_of (take c.phase_len.result c.args.behind.now)))) x) c.phase.new.held before now c.phase.result c.went.result
    (threads_step (λ x. IsUnsoundFor (g.W.Wires.sound c.args.wires.now) (g.W.Wires.made c.args.wires.now) (flows_of (Phase (jobs_of (take c.phase_len.result c.args.behind.now)))) x) (take c.phase_len.result c.args.behind.now) (declared_of s.decls.list) k.attached h c.args.run.now.engine c.phase.new.held c.phase.result k.running
    (subst (λ (xs : List Numbered). LeavesPhase (λ (d : Declared) (x : List NodeEntry). KeepsRecords d x c.phase.new.held) (declared_of s.decls.list) h xs (held_of c.phase.new.held) c.phase.result) c.split_at.ensures.front (c.phase.ensures.leaves (declared_of s.decls.list) h (represents (declared_of s.decls.list) k.attached h c.args.run.now.engine k.running).0)) c.phase.ensures.attached c.phase.ensures.works over.lie)
    (subst (λ (xs : List Numbered). PhaseCarries (λ (d : Declared) (x : List NodeEntry). KeepsRecords d x c.phase.new.held) (declared_of s.decls.list) h xs (held_of c.phase.new.held) before now c.phase.result) c.split_at.ensures.front
    (c.phase.ensures.carried (declared_of s.decls.list) h (represents (declared_of s.decls.list) k.attached h c.args.run.now.engine k.running).0)) c.went.ensures c.in_ok-went.was)

pub returns-in_err-went-clause-downs : goal.returns-in_err-went-clause-downs
returns-in_err-went-clause-downs g c = λ s within h k.
    threads_add (λ x. IsUnsoundIn (g.W.Wires.sound c.args.wires.now) s x) (declared_of s.decls.list) h c.phase.new.held
    (crew_adds (λ x. IsUnsoundFor (g.W.Wires.sound c.args.wires.now) (g.W.Wires.made c.args.wires.now) (flows_of (Phase (jobs_of (take c.phase_len.result c.args.behind.now)))) x) (λ x. IsUnsoundIn (g.W.Wires.sound c.args.wires.now) s x) (within_now (g.W.Wires.sound c.args.wires.now) (g.W.Wires.made c.args.wires.now) (c.args.first.now ∷ c.args.behind.now) (drop (c.phase_len.result + 1) c.args.behind.now) (flows_of (Phase (jobs_of (take c.phase_len.result c.args.behind.now)))) s within (flows_phase c.args.first.now c.args.behind.now c.phase_len.result c.requires.phase c.phase_len.ensures k.whole)) (λ (d : Declared) (x : List NodeEntry). KeepsRecords d x c.phase.new.held) (declared_of s.decls.list) h (held_of c.phase.new.held)
    (subst (λ (xs : List Numbered). crew.AddsDownsOf (λ x. IsUnsoundFor (g.W.Wires.sound c.args.wires.now) (g.W.Wires.made c.args.wires.now) (flows_of (Phase (jobs_of xs))) x) (λ (d : Declared) (x : List NodeEntry). KeepsRecords d x c.phase.new.held) (declared_of s.decls.list) h (held_of c.phase.new.held)) c.split_at.ensures.front
    (c.phase.ensures.downs (declared_of s.decls.list) h (represents (declared_of s.decls.list) k.attached h c.args.run.now.engine k.running).0)))

pub returns-clause-downs : goal.returns-clause-downs
returns-clause-downs g c = λ s within h k.
    threads_add (λ x. IsUnsoundIn (g.W.Wires.sound c.args.wires.now) s x) (declared_of s.decls.list) h c.phase.new.held
    (crew_adds (λ x. IsUnsoundFor (g.W.Wires.sound c.args.wires.now) (g.W.Wires.made c.args.wires.now) (flows_of (Phase (jobs_of (take c.phase_len.result c.args.behind.now)))) x) (λ x. IsUnsoundIn (g.W.Wires.sound c.args.wires.now) s x) (within_now (g.W.Wires.sound c.args.wires.now) (g.W.Wires.made c.args.wires.now) (c.args.first.now ∷ c.args.behind.now) (drop (c.phase_len.result + 1) c.args.behind.now) (flows_of (Phase (jobs_of (take c.phase_len.result c.args.behind.now)))) s within (flows_phase c.args.first.now c.args.behind.now c.phase_len.result c.requires.phase c.phase_len.ensures k.whole)) (λ (d : Declared) (x : List NodeEntry). KeepsRecords d x c.phase.new.held) (declared_of s.decls.list) h (held_of c.phase.new.held)
    (subst (λ (xs : List Numbered). crew.AddsDownsOf (λ x. IsUnsoundFor (g.W.Wires.sound c.args.wires.now) (g.W.Wires.made c.args.wires.now) (flows_of (Phase (jobs_of xs))) x) (λ (d : Declared) (x : List NodeEntry). KeepsRecords d x c.phase.new.held) (declared_of s.decls.list) h (held_of c.phase.new.held)) c.split_at.ensures.front
    (c.phase.ensures.downs (declared_of s.decls.list) h (represents (declared_of s.decls.list) k.attached h c.args.run.now.engine k.running).0)))

pub returns-in_err-went-clause-within : goal.returns-in_err-went-clause-within
returns-in_err-went-clause-within g c = λ s within h k.
    let p = err_from_is_err_and c.from_residual.result c.from_residual.ensures.1 in
    subst (λ (r : Result ℕ Halt). IfOk r (λ n. IsWithin (g.W.Wires.sound c.phase.new.wires) (g.W.Wires.made c.phase.new.wires) (drop (n + 1) (c.args.first.now ∷ c.args.behind.now)) s)) (sym p.1) tt

pub returns-clause-within : goal.returns-clause-within
returns-clause-within g c = λ s within h k.
    let inside : c.phase_len.result < length c.args.behind.now = phase_within ByTime (g.W.Wires.sound c.args.wires.now) s c.args.first.now c.args.behind.now h c.args.run.now.engine c.args.run.now.unmet k c.requires.phase c.phase_len.result c.phase_len.ensures in
    let back = c.split_at.ensures.back_len in
    let count : c.phase_len.result + 1 + 1 ≡ length c.args.behind.now - (length c.split_at.result.1.now - 1) + 1 = omega arith in
    let two : c.phase_len.result + 1 + 1 ≡ suc (c.phase_len.result + 1) = omega arith in
    subst (λ (n : ℕ). IsWithin (g.W.Wires.sound c.phase.new.wires) (g.W.Wires.made c.phase.new.wires) (drop n (c.args.first.now ∷ c.args.behind.now)) s) (sym two ∙ count)
    (within_next (g.W.Wires.sound c.args.wires.now) (g.W.Wires.made c.args.wires.now) (c.args.first.now ∷ c.args.behind.now) (drop (c.phase_len.result + 1) c.args.behind.now) (flows_of (Phase (jobs_of (take c.phase_len.result c.args.behind.now)))) s within (flows_phase c.args.first.now c.args.behind.now c.phase_len.result c.requires.phase c.phase_len.ensures k.whole)
    (g.W.Wires.sound c.phase.new.wires) (g.W.Wires.made c.phase.new.wires) c.phase.ensures.sound
    (made_went (λ w. g.W.Wires.made w) (λ w. g.W.Wires.sound w) (flows_of (Phase (jobs_of (take c.phase_len.result c.args.behind.now)))) c.args.wires.now c.phase.new.wires c.phase.result c.went.result (subst (λ (xs : List Numbered). GoesOver (λ w. g.W.Wires.made w) (λ w. g.W.Wires.sound w) (flows_of (Phase (jobs_of xs))) c.args.wires.now c.phase.new.wires c.phase.result) c.split_at.ensures.front c.phase.ensures.over) c.went.ensures c.in_ok-went.was))
