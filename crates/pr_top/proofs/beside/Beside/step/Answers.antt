use Rattle.std.proofs.Common.{◌≡◌, ◌∷◌, ◌++◌, [], List, ap, arith, inl, refl, subst, ◌∙◌, ℕ}
use Rattle.pr_flow.specs.Downs.{flows_of}
use Rattle.pr_script.specs.declared.command.Command.{Command}
use Rattle.pr_script.specs.Steps.{is_phase}
use Rattle.pr_story.specs.Scripts.{ByTime}
use Rattle.pr_top.specs.Progress.{HasCome}
use Rattle.pr_top.proofs.Carried.{expect_carries}
use Rattle.pr_top.proofs.Downs.{flows_alone, same_downs, within_next}
use Rattle.pr_text.specs.Steps.{line_of}
use Rattle.pr_top.specs.Downs.{flows_in}
use Rattle.pr_top.proofs.beside.Beside.step.Goals as goal

pub judge-requires : goal.judge-requires
judge-requires g c =
    let k = c.requires.come in
    (ByTime, (k.0, k.1, subst (λ (x : Command). HasCome ByTime k.0 ((c.args.first.now.0, x) ∷ c.args.behind.now) k.1 c.args.run.now.engine c.args.run.now.unmet) c.in-Expect.is k.2))

pub returns-in-Expect-clause-steps : goal.returns-in-Expect-clause-steps
returns-in-Expect-clause-steps g c = λ s within h k. (
  omega arith,
  (
    [],
    c.judge.ensures ByTime s h (subst (λ (x : Command). HasCome ByTime s ((c.args.first.now.0, x) ∷ c.args.behind.now) h c.args.run.now.engine c.args.run.now.unmet) c.in-Expect.is k),
    inl refl,
  ),
)

pub returns-in-Expect-clause-carried : goal.returns-in-Expect-clause-carried
returns-in-Expect-clause-carried g c = λ s h k.
    let told = g.W.Wires.carried c.args.wires.now in
    expect_carries s c.args.first.now c.args.behind.now h c.args.run.now.engine c.args.run.now.unmet k (ap (λ (x : Command). is_phase x) c.in-Expect.is ∙ refl) c.judge.new.self.engine told told _ c.judge.new.self.unmet c.in-Expect.is refl
    (c.judge.ensures ByTime s h (subst (λ (x : Command). HasCome ByTime s ((c.args.first.now.0, x) ∷ c.args.behind.now) h c.args.run.now.engine c.args.run.now.unmet) c.in-Expect.is k))

pub returns-in-Expect-clause-downs : goal.returns-in-Expect-clause-downs
returns-in-Expect-clause-downs g c = λ s within h k.
    same_downs ByTime s (g.W.Wires.sound c.args.wires.now) c.args.behind.now h c.judge.new.self.engine c.judge.new.self.unmet
    (c.judge.ensures ByTime s h (subst (λ (x : Command). HasCome ByTime s ((c.args.first.now.0, x) ∷ c.args.behind.now) h c.args.run.now.engine c.args.run.now.unmet) c.in-Expect.is k))

pub returns-in_default-clause-steps : goal.returns-in_default-clause-steps
returns-in_default-clause-steps g c = λ s within h k. c.alone.ensures.steps ByTime s within h k

pub returns-in_default-clause-downs : goal.returns-in_default-clause-downs
returns-in_default-clause-downs g c = λ s within h k. c.alone.ensures.downs ByTime s within h k

pub returns-in_default-clause-carried : goal.returns-in_default-clause-carried
returns-in_default-clause-carried g c = λ s h k. c.alone.ensures.carried s h k

pub returns-in_default-clause-within : goal.returns-in_default-clause-within
returns-in_default-clause-within g c = λ s within h k. c.alone.ensures.within s within

pub returns-in-Expect-clause-within : goal.returns-in-Expect-clause-within
returns-in-Expect-clause-within g c = λ s within h k.
    let none : flows_of (line_of c.args.first.now.1) ≡ [] = ap (λ (x : Command). flows_of (line_of x)) c.in-Expect.is in
    let left : flows_in (c.args.first.now ∷ c.args.behind.now) ≡ [] ++ flows_in c.args.behind.now =
    flows_alone c.args.first.now c.args.behind.now (ap (λ (x : Command). is_phase x) c.in-Expect.is ∙ refl) ∙ ap (λ (l : List ℕ). l ++ flows_in c.args.behind.now) none in
    within_next (g.W.Wires.sound c.args.wires.now) (g.W.Wires.made c.args.wires.now) (c.args.first.now ∷ c.args.behind.now) c.args.behind.now [] s within left (g.W.Wires.sound c.args.wires.now) (g.W.Wires.made c.args.wires.now) refl (omega arith)
