use Rattle.std.proofs.Common.{◌≡◌, ◌++◌, drop}
use Rattle.std.specs.List.{flat_map}
use Rattle.pr_draw.specs.Tags.{spelled}
use Rattle.pr_draw.proofs.xml.escape.Given as goal

-- what is written, then what is still to be written, is all
abbrev pub invariant-loop-b : goal.invariant-loop-b
invariant-loop-b l = l.out ++ flat_map spelled (drop l.b-index l.fn.words) ≡ l.fn.out ++ flat_map spelled l.fn.words
