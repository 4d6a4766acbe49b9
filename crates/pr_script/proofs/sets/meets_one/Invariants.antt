use Rattle.std.proofs.Common.{◌≡◌, drop}
use Rattle.std.specs.List.{list_any}
use Rattle.pr_script.specs.Sets.{share}
use Rattle.pr_script.proofs.sets.meets_one.Given as goal

abbrev pub invariant-loop-other : goal.invariant-loop-other
invariant-loop-other l = list_any (λ b. share l.set b) (drop l.other-index l.others) ≡ list_any (λ b. share l.set b) l.others
