use Rattle.std.proofs.Common.{◌≡◌}
use Rattle.pr_check.proofs.Judged.{at_stage, not_whole}
use Rattle.pr_check.specs.declared.stage.Stage.TheVariants as stages
use Rattle.pr_check.proofs.judge.Judge.finish.Goals as goal

pub returns-in-Ended-clause-finished : goal.returns-in-Ended-clause-finished
returns-in-Ended-clause-finished c lines j = record {
  accepted = j.decls.accepted;
  ended = at_stage c.args.self lines (stages.Ended c.in-Ended.engine) j c.in-Ended.is;
}

pub returns-in-Heads-clause-finished : goal.returns-in-Heads-clause-finished
returns-in-Heads-clause-finished c lines j =
    not_whole c.args.self.decls.list stages.Heads lines (at_stage c.args.self lines stages.Heads j c.in-Heads.is) (λ e is. absurd (cc))

pub returns-in-Events-clause-finished : goal.returns-in-Events-clause-finished
returns-in-Events-clause-finished c lines j =
    not_whole c.args.self.decls.list c.args.self.stage lines j.stands (λ e same. absurd (cc))
