use Rattle.std.proofs.Common.{◌≡◌, ℕ, List, true}
use Rattle.pr_names.specs.Span.{holds}
use Rattle.pr_log.specs.Latest.{IsAbove}
use Rattle.pr_log.proofs.latest.Latest.may_have_in.Given as goal

-- a name of the interval with a clock above this one is among those that are left
abbrev pub invariant-loop-last : goal.invariant-loop-last
invariant-loop-last l = (o : List ℕ) → holds l.part o ≡ true → IsAbove l.self l.clock o → IsAbove l.last-iterator l.clock o
