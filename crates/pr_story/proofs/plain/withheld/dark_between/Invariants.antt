use Rattle.std.specs.Prelude.{reverse}
use Rattle.pr_sets.specs.Spans.{IsSetOf}
use Rattle.pr_story.specs.Search.{IsDarkUpTo}
use Rattle.pr_story.proofs.plain.withheld.dark_between.Given as goal

abbrev pub invariant-loop-n : goal.invariant-loop-n
invariant-loop-n l = IsSetOf l.dark (IsDarkUpTo l.node (reverse l.entries) l.from l.to 0 l.n)
