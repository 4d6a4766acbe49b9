use Rattle.std.proofs.Common.{◌≡◌, ◌++◌, drop, map}
use Rattle.pr_text.specs.Texts.{joined, mark_text}
use Rattle.pr_text.proofs.Loops.{behind}
use Rattle.pr_text.proofs.rows.push_marks.Given as goal

-- what is written, then what is still to be written, is all
abbrev pub invariant-loop-index : goal.invariant-loop-index
invariant-loop-index l = l.text ++ behind l.index 59 (map (mark_text l.fn.decls.list) (drop l.index l.fn.marks)) ≡ l.fn.text ++ joined 59 (map (mark_text l.fn.decls.list) l.fn.marks)
