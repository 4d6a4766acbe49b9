use Rattle.pr_story.proofs.InTime.{stays_in_time}
use Rattle.pr_story.proofs.law.streams_stay_in_time.Goals as goal

pub returns : goal.returns
returns c = stays_in_time
