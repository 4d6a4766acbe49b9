use Rattle.std.proofs.Common.{◌≡◌, ◌++◌, ◌∷◌, [], drop}
use Rattle.pr_names.specs.declared.bound.Bound.TheVariants.{At}
use Rattle.pr_sets.proofs.Parts.{gaps_from}
use Rattle.pr_sets.proofs.complement.complement.Given as goal

abbrev pub invariant-loop-part : goal.invariant-loop-part
invariant-loop-part l = l.gaps ++ gaps_from (drop l.part-index l.parts) l.from ≡ gaps_from l.parts (At (45 ∷ []))
