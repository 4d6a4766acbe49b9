use Rattle.pr_story.proofs.Nameless.{nameless_told}
use Rattle.pr_story.proofs.law.nameless_sets_are_told.Goals as goal

pub returns : goal.returns
returns c = nameless_told
