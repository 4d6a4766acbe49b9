use Rattle.std.proofs.Common.{ℕ, List}
use Rattle.std.specs.Prelude.{◌↔◌, IsTrue}
use Rattle.pr_names.specs.Name.{IsName}
use Rattle.pr_log.specs.Sets.{is_gathered}
use Rattle.pr_log.proofs.Omitted.{IsOmittedBelow}
use Rattle.pr_log.proofs.index.Index.omitted.Given as goal

abbrev pub invariant-loop-n : goal.invariant-loop-n
invariant-loop-n l = (o : List ℕ) → IsName o → IsTrue (is_gathered l.names o) ↔ IsOmittedBelow l.self l.from l.to l.sub l.n o
