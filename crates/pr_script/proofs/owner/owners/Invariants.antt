use Rattle.std.proofs.Common.{◌≡◌, drop}
use Rattle.std.specs.List.{fold}
use Rattle.pr_script.specs.Steps.{Numbered, owner_of, owners_of, with_owner}
use Rattle.pr_script.proofs.owner.owners.Given as goal

abbrev pub invariant-loop-line : goal.invariant-loop-line
invariant-loop-line l = fold (λ owners (c : Numbered). with_owner owners (owner_of c.1)) l.owners (drop l.line-index l.inside) ≡ owners_of l.inside
