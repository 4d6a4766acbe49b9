use Rattle.pr_node.proofs.Again.{lawful_again}
use Rattle.pr_node.proofs.law.lawful_journals_can_be_rebuilt.Goals as goal

pub returns : goal.returns
returns c = lawful_again
