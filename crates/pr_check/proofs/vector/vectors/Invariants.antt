use Rattle.std.proofs.Common.{◌≡◌, length}
use Rattle.std.specs.Prelude.{All}
use Rattle.pr_story.specs.Counts.{HasVector}
use Rattle.pr_text.specs.Numbers.{nodes_of}
use Rattle.pr_vectors.specs.Vector.{IsVector}
use Rattle.pr_check.specs.Fields.{items_of, parts, read_each, with_next}
use Rattle.pr_check.specs.Parts.{vector_read}
use Rattle.pr_check.proofs.vector.vectors.Given as goal

abbrev pub invariant-loop-rest : goal.invariant-loop-rest
invariant-loop-rest l = record {
  read : read_each (with_next (vector_read l.decls)) l.vectors (parts 32 l.rest) ≡ items_of (vector_read l.decls) (parts 32 l.fn.bytes);
  range : All IsVector l.vectors;
  declared : All (HasVector (nodes_of l.decls)) l.vectors;
}

abbrev pub decreases-loop-rest : goal.decreases-loop-rest
decreases-loop-rest l = length l.rest
