use Rattle.std.proofs.Common.{◌≡◌, length}
use Rattle.pr_story.specs.Counts.{HasVector}
use Rattle.pr_text.specs.Numbers.{nodes_of}
use Rattle.pr_vectors.specs.Vector.{IsVector, zero_vector}
use Rattle.pr_check.specs.Fields.{parts, read_each}
use Rattle.pr_check.specs.Parts.{with_clock}
use Rattle.pr_check.proofs.vector.clocks.Given as goal

abbrev pub invariant-loop-rest : goal.invariant-loop-rest
invariant-loop-rest l = record {
  read : read_each (with_clock l.decls) l.vector (parts 44 l.rest) ≡ read_each (with_clock l.decls) zero_vector (parts 44 l.fn.bytes);
  range : IsVector l.vector;
  declared : HasVector (nodes_of l.decls) l.vector;
}

abbrev pub decreases-loop-rest : goal.decreases-loop-rest
decreases-loop-rest l = length l.rest
