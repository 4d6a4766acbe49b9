use Rattle.pr_story.proofs.Begun.{nothing_begins}
use Rattle.pr_story.proofs.law.nothing_begins_every_line.Goals as goal

pub returns : goal.returns
returns c = nothing_begins
