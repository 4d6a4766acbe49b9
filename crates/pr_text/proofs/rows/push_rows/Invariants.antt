use Rattle.std.proofs.Common.{◌≡◌, ◌++◌, drop, map}
use Rattle.pr_text.specs.Texts.{joined, row_text}
use Rattle.pr_text.proofs.Loops.{behind}
use Rattle.pr_text.proofs.rows.push_rows.Given as goal

-- what is written, then what is still to be written, is all
abbrev pub invariant-loop-index : goal.invariant-loop-index
invariant-loop-index l = l.text ++ behind l.index 44 (map (row_text l.fn.decls.list) (drop l.index l.fn.rows)) ≡ l.fn.text ++ joined 44 (map (row_text l.fn.decls.list) l.fn.rows)
