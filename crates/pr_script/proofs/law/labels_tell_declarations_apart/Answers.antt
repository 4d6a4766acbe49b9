use Rattle.pr_script.proofs.Accepted.{have_labels}
use Rattle.pr_script.proofs.law.labels_tell_declarations_apart.Goals as goal

pub returns : goal.returns
returns c = have_labels
