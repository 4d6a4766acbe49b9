use Rattle.pr_story.proofs.Begun.{whole_begun}
use Rattle.pr_story.proofs.law.whole_runs_are_begun.Goals as goal

pub returns : goal.returns
returns c = whole_begun
