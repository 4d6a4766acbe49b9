use Rattle.std.specs.Prelude.{◌≤◌, ℕ, reverse}
use Rattle.pr_sets.specs.Spans.{has}
use Rattle.pr_story.specs.Search.{point}
use Rattle.pr_story.specs.Told.{IsTold}
use Rattle.pr_story.proofs.plain.told.run.Given as goal

abbrev pub invariant-loop-before : goal.invariant-loop-before
invariant-loop-before l = (c : ℕ) → 1 ≤ c → c ≤ l.before → IsTold l.node (reverse l.entries) (has l.set) (point c l.n)
