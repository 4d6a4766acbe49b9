use Rattle.std.proofs.Common.{drop}
use Rattle.std.specs.Prelude.{◌↔◌, Contains}
use Rattle.pr_story.proofs.plain.ordered.is_among.Given as goal

abbrev pub invariant-loop-other : goal.invariant-loop-other
invariant-loop-other l = Contains l.names l.name ↔ Contains (drop l.other-index l.names) l.name
