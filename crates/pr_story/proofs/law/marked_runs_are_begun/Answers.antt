use Rattle.pr_story.proofs.Phases.{marked_is_begun}
use Rattle.pr_story.proofs.law.marked_runs_are_begun.Goals as goal

pub returns : goal.returns
returns c = marked_is_begun
