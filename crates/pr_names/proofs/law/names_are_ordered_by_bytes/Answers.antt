use Rattle.pr_names.proofs.Places.{lt_cmp}
use Rattle.pr_names.proofs.law.names_are_ordered_by_bytes.Goals as goal

pub returns : goal.returns
returns c = lt_cmp
