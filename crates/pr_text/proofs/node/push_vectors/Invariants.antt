use Rattle.std.proofs.Common.{◌≡◌, ◌++◌, drop, map}
use Rattle.pr_text.specs.Texts.{more, vector_text}
use Rattle.pr_text.proofs.node.push_vectors.Given as goal

-- what is written, then what is still to be written, is all
abbrev pub invariant-loop-vector : goal.invariant-loop-vector
invariant-loop-vector l = l.text ++ more 32 (map (vector_text l.fn.decls.list) (drop l.vector-index l.fn.vectors)) ≡ l.fn.text ++ more 32 (map (vector_text l.fn.decls.list) l.fn.vectors)
