use Rattle.std.specs.Prelude.{take, reverse}
use Rattle.pr_story.specs.Knowledge.{known_mark}
use Rattle.pr_story.specs.Marking.{AreMarks}
use Rattle.pr_story.proofs.plain.marks.known_marks.Given as goal

abbrev pub invariant-loop-entry : goal.invariant-loop-entry
invariant-loop-entry l = AreMarks (known_mark (reverse (take l.entry-index l.entries)) l.name) l.marks
