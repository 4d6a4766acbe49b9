use Rattle.std.proofs.Common.{ℕ, List, false}
use Rattle.pr_names.specs.Name.{IsName}
use Rattle.pr_sets.specs.Spans.{has}
use Rattle.pr_log.proofs.LastClocks.{IsGatheredSofar}
use Rattle.pr_log.proofs.latest.Latest.above.Given as goal

abbrev pub invariant-loop-name : goal.invariant-loop-name
invariant-loop-name l = (o : List ℕ) → IsName o → IsGatheredSofar l.self l.name-iterator l.sub l.clock o false (has l.above o)
