use Rattle.std.proofs.Common.{rules, ◌≡◌, [], ◌∷◌}
use Rattle.pr_cell.specs.Passes.{held}
use Rattle.pr_cell.proofs.Pair.{both_held}
use Rattle.pr_crew.proofs.tests.refusing.left_by_two.Goals as goal

pub close-requires-clause-all : goal.close-requires-clause-all
close-requires-clause-all g c =
    let h : held c.join_pass-one.result.seat ≡ 0 ∷ 1 ∷ [] = search rules in
    let n : c.join_pass-one.result.issued ≡ 2 = search rules in
    both_held (held c.join_pass-one.result.seat) c.join_pass-one.result.issued h n
