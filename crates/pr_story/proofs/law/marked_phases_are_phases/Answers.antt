use Rattle.pr_story.proofs.Phases.{marked_phases}
use Rattle.pr_story.proofs.law.marked_phases_are_phases.Goals as goal

pub returns : goal.returns
returns c = marked_phases
