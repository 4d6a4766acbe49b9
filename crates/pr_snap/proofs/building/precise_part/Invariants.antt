use Rattle.std.proofs.Common.{ℕ, List}
use Rattle.std.specs.Prelude.{◌↔◌, IsTrue}
use Rattle.pr_names.specs.Name.{IsName}
use Rattle.pr_sets.specs.Spans.{has}
use Rattle.pr_snap.proofs.Targets.{IsPreciseBelow}
use Rattle.pr_snap.proofs.building.precise_part.Given as goal

abbrev pub invariant-loop-index : goal.invariant-loop-index
invariant-loop-index l = (o : List ℕ) → IsName o → IsTrue (has l.precise o) ↔ IsPreciseBelow l.gaps o l.index
