use Rattle.pr_keep.proofs.FileLemmas.{nothing, one_place}
use Rattle.pr_keep.proofs.law.damaged_files_stand_for_nothing.Goals as goal

pub returns-clause-nothing : goal.returns-clause-nothing
returns-clause-nothing c = λ file at es damaged stands. nothing file at es damaged stands

pub returns-clause-one : goal.returns-clause-one
returns-clause-one c = λ file at place a b. one_place file at place a b
