use Rattle.pr_keep.proofs.FileLemmas.{one_list}
use Rattle.pr_keep.proofs.law.files_stand_for_one_list.Goals as goal

pub returns : goal.returns
returns c = λ file es ds a b. one_list file es ds a b
