use Rattle.std.proofs.Common.{◌≡◌, ◌++◌, length, take}
use Rattle.std.specs.List.{AllByRecursion, flat_map}
use Rattle.pr_vectors.specs.Vector.{IsVector}
use Rattle.pr_wire.specs.Spelling.{eight, vector_text}
use Rattle.pr_keep.proofs.spelling.parts.append_vectors.Given as goal

abbrev pub invariant-loop-vector : goal.invariant-loop-vector
invariant-loop-vector l =
    (l.out ≡ l.fn.out ++ (eight (length l.vectors) ++ flat_map vector_text (take l.vector-index l.vectors)))
    × AllByRecursion IsVector (take l.vector-index l.vectors)
