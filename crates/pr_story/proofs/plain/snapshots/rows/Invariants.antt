use Rattle.std.specs.Prelude.{take, reverse}
use Rattle.pr_story.specs.Marking.{AreRowsOf}
use Rattle.pr_story.proofs.plain.snapshots.rows.Given as goal

abbrev pub invariant-loop-name : goal.invariant-loop-name
invariant-loop-name l = AreRowsOf (reverse l.entries) l.target (take l.name-index l.name-items) l.rows
