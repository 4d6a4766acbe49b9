use Rattle.std.proofs.Common.{◌≡◌, ℕ, List, false, take}
use Rattle.pr_sets.specs.Spans.{has}
use Rattle.pr_log.specs.Latest.{IsAbove}
use Rattle.pr_log.proofs.latest.Latest.may_have_above.Given as goal

-- no name with a clock above this one is in the intervals so far
abbrev pub invariant-loop-part : goal.invariant-loop-part
invariant-loop-part l = (o : List ℕ) → IsAbove l.self l.clock o → has (take l.part-index l.names) o ≡ false
