use Rattle.pr_sets.proofs.Same.{same_list}
use Rattle.pr_sets.proofs.law.same_names_same_list.Goals as goal

pub returns : goal.returns
returns c = same_list
