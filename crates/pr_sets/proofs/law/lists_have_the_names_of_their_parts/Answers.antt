use Rattle.pr_sets.proofs.Adding.{list_is}
use Rattle.pr_sets.proofs.Reading.{spans_of}
use Rattle.pr_sets.proofs.law.lists_have_the_names_of_their_parts.Goals as goal

pub returns : goal.returns
returns c parts all = list_is parts (spans_of parts all)
