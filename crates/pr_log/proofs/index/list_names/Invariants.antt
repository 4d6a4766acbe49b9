use Rattle.std.proofs.Common.{◌≡◌}
use Rattle.pr_log.proofs.index.list_names.Given as goal

abbrev pub invariant-loop-n : goal.invariant-loop-n
invariant-loop-n l = l.rows.items ≡ l.initial.rows.items
