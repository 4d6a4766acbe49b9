use Rattle.std.proofs.Common.{◌≡◌}
use Rattle.pr_cell.specs.Passes.{held, IsPassOf}
use Rattle.pr_cell.proofs.tests.answer_all.Given as goal

abbrev pub invariant-loop : goal.invariant-loop
invariant-loop g l =
    IsPassOf (λ x. x.items.items) l.cell l.pass × (held l.pass.seat ≡ held l.fn.pass.seat) × (l.pass.issued ≡ l.fn.pass.issued) × (l.pass.turns ≡ l.counter)
