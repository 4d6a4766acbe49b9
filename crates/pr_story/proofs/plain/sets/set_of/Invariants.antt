use Rattle.std.proofs.Common.{◌≡◌, drop}
use Rattle.pr_sets.specs.Sets.{first_with, rest_of}
use Rattle.pr_story.proofs.plain.sets.set_of.Given as goal

abbrev pub invariant-loop-set : goal.invariant-loop-set
invariant-loop-set l = first_with l.sets (rest_of l.sets) l.name ≡ first_with (drop l.set-index l.sets) (rest_of l.sets) l.name
