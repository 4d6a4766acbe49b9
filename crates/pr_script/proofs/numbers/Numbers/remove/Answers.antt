use Rattle.std.proofs.Common.{ℕ, rules}
use Rattle.std.specs.Prelude.{not, ◌==◌}
use Rattle.std.proofs.lemmas.Fn.{filter_same}
use Rattle.pr_script.proofs.numbers.Numbers.remove.Goals as goal

pub returns : goal.returns
returns c = rw (← c.self.view_is) (filter_same _ (λ (m : ℕ). not (m == c.args.number)) _ (search rules) _ _ c.retain.ensures.filtered)
