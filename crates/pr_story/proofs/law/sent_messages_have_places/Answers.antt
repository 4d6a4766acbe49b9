use Rattle.pr_story.proofs.Places.{have_places}
use Rattle.pr_story.proofs.law.sent_messages_have_places.Goals as goal

pub returns : goal.returns
returns c = have_places
