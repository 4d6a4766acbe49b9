use Rattle.std.proofs.Common.{◌≡◌, ◌-◌}
use Rattle.pr_check.specs.Fields.{behind}
use Rattle.pr_check.proofs.field.behind.Given as goal

abbrev pub invariant-loop : goal.invariant-loop
invariant-loop l = behind l.count l.bytes ≡ behind (l.count - l.counter) l.rest
