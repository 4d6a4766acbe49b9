use Rattle.std.specs.Prelude.{map, take, reverse}
use Rattle.pr_sets.specs.Spans.{has}
use Rattle.pr_story.specs.Search.{IsStartOf}
use Rattle.pr_story.proofs.plain.starts.start.Given as goal

abbrev pub invariant-loop-set : goal.invariant-loop-set
invariant-loop-set l = IsStartOf l.node (reverse l.entries) (map has (take l.set-index l.sets)) l.names l.start
