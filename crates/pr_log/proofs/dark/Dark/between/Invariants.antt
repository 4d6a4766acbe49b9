use Rattle.std.proofs.Common.{ℕ, List}
use Rattle.std.specs.Prelude.{◌↔◌, IsTrue}
use Rattle.pr_names.specs.Name.{IsName}
use Rattle.pr_log.specs.Sets.{is_gathered}
use Rattle.pr_log.proofs.Lit.{IsDarkBelow}
use Rattle.pr_log.proofs.dark.Dark.between.Given as goal

abbrev pub invariant-loop-n : goal.invariant-loop-n
invariant-loop-n l = (o : List ℕ) → IsName o → IsTrue (is_gathered l.names o) ↔ IsDarkBelow l.own l.self-inside.rows.items l.from l.to l.n o
