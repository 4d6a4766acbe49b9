use Rattle.std.proofs.Common.{◌≡◌, length}
use Rattle.std.specs.Prelude.{All}
use Rattle.pr_stamps.specs.Point.{IsStamp}
use Rattle.pr_story.specs.Counts.{HasPair}
use Rattle.pr_text.specs.Numbers.{nodes_of}
use Rattle.pr_check.specs.Fields.{items_of, parts, read_each, with_next}
use Rattle.pr_check.specs.Parts.{pair_read}
use Rattle.pr_check.proofs.row.some_pairs.Given as goal

abbrev pub invariant-loop-rest : goal.invariant-loop-rest
invariant-loop-rest l = record {
  read : read_each (with_next (pair_read l.decls)) l.pairs (parts 44 l.rest) ≡ items_of (pair_read l.decls) (parts 44 l.fn.bytes);
  range : All (λ p. IsStamp p.0 × IsStamp p.1) l.pairs;
  declared : All (HasPair (nodes_of l.decls)) l.pairs;
}

abbrev pub decreases-loop-rest : goal.decreases-loop-rest
decreases-loop-rest l = length l.rest
