use Rattle.pr_story.proofs.Alike.{nodes_alike}
use Rattle.pr_story.proofs.law.equal_vectors_answer_alike.Goals as goal

pub returns : goal.returns
returns c = nodes_alike
