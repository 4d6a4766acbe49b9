use Rattle.pr_merge.proofs.Turns.{none_twice}
use Rattle.pr_merge.proofs.law.no_place_stands_twice.Goals as goal

pub returns : goal.returns
returns c = none_twice
