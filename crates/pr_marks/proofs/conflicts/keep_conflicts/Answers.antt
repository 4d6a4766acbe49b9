use Rattle.std.proofs.Common.{rules}
use Rattle.std.proofs.lemmas.Fn.{filter_same}
use Rattle.pr_stamps.specs.Marks.{is_conflict}
use Rattle.pr_marks.proofs.conflicts.keep_conflicts.Goals as goal

pub returns : goal.returns
returns c = filter_same _ (is_conflict c.args.earlier.now) _ (search rules) _ _ c.retain.ensures.filtered
