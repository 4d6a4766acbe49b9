use Rattle.std.proofs.Common.{◌∷◌, [], arith, inl, refl, subst}
use Rattle.pr_script.specs.declared.command.Command.{Command}
use Rattle.pr_story.specs.Scripts.{JobAfterJob}
use Rattle.pr_top.specs.Progress.{HasCome}
use Rattle.pr_top.specs.Runs.{all_sound}
use Rattle.pr_top.proofs.Downs.{same_downs, within_sound}
use Rattle.pr_top.proofs.stepping.Run.step.Goals as goal

pub judge-requires : goal.judge-requires
judge-requires c =
    let k = c.requires in
    (JobAfterJob, (k.0, k.1, subst (λ (x : Command). HasCome JobAfterJob k.0 ((c.args.first.now.0, x) ∷ c.args.behind.now) k.1 c.args.self.now.engine c.args.self.now.unmet) c.in-Expect.is k.2))

pub returns-in-Expect-clause-steps : goal.returns-in-Expect-clause-steps
returns-in-Expect-clause-steps c = λ s h k. (
  omega arith,
  (
    [],
    c.judge.ensures JobAfterJob s h (subst (λ (x : Command). HasCome JobAfterJob s ((c.args.first.now.0, x) ∷ c.args.behind.now) h c.args.self.now.engine c.args.self.now.unmet) c.in-Expect.is k),
    inl refl,
  ),
)

pub returns-in-Expect-clause-downs : goal.returns-in-Expect-clause-downs
returns-in-Expect-clause-downs c = λ s h k.
    same_downs JobAfterJob s all_sound c.args.behind.now h c.judge.new.self.engine c.judge.new.self.unmet
    (c.judge.ensures JobAfterJob s h (subst (λ (x : Command). HasCome JobAfterJob s ((c.args.first.now.0, x) ∷ c.args.behind.now) h c.args.self.now.engine c.args.self.now.unmet) c.in-Expect.is k))

pub returns-in_default-clause-steps : goal.returns-in_default-clause-steps
returns-in_default-clause-steps c = λ s h k. c.alone.ensures.steps JobAfterJob s (within_sound _ (c.args.first.now ∷ c.args.behind.now) s) h k

pub returns-in_default-clause-downs : goal.returns-in_default-clause-downs
returns-in_default-clause-downs c = λ s h k. c.alone.ensures.downs JobAfterJob s (within_sound _ (c.args.first.now ∷ c.args.behind.now) s) h k
