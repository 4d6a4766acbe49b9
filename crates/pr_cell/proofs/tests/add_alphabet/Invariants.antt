use Rattle.std.proofs.Common.{◌≡◌, ◌+◌}
use Rattle.pr_cell.specs.Passes.{held, IsPassOf}
use Rattle.pr_cell.proofs.tests.add_alphabet.Given as goal

abbrev pub invariant-loop-letter : goal.invariant-loop-letter
invariant-loop-letter g l =
    IsPassOf (λ x. x.items.items) l.cell l.pass × (held l.pass.seat ≡ held l.fn.pass.seat) × (l.pass.issued ≡ l.fn.pass.issued) × (l.pass.turns + 97 ≡ l.letter)
