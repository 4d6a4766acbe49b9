use Rattle.pr_story.proofs.Reading.{reads_are_so}
use Rattle.pr_story.proofs.law.reads_are_so.Goals as goal

pub returns : goal.returns
returns c = reads_are_so
