use Rattle.pr_story.proofs.Places.{entries_placed}
use Rattle.pr_story.proofs.law.entries_have_places.Goals as goal

pub returns : goal.returns
returns c = entries_placed
