use Rattle.pr_story.proofs.Joined.{merges_honest}
use Rattle.pr_story.proofs.law.merged_messages_are_honest.Goals as goal

pub returns : goal.returns
returns c = merges_honest
