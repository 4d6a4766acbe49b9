use Rattle.std.proofs.Common.{ℕ, List}
use Rattle.pr_text.specs.Kept.{AreTextsOf}
use Rattle.pr_text.proofs.clock_texts.no_texts.Given as goal

-- each text so far is none
abbrev pub invariant-loop : goal.invariant-loop
invariant-loop l = (labels : List (List ℕ)) → AreTextsOf labels l.own.items
