use Rattle.std.proofs.Common.{◌≡◌, ◌++◌, length, take}
use Rattle.std.specs.List.{AllByRecursion, flat_map}
use Rattle.pr_wire.specs.Spelling.{eight}
use Rattle.pr_keep.specs.Entries.{IsPair}
use Rattle.pr_keep.specs.Spelling.{pair_text}
use Rattle.pr_keep.proofs.spelling.parts.append_pairs.Given as goal

abbrev pub invariant-loop-pair : goal.invariant-loop-pair
invariant-loop-pair l =
    (l.out ≡ l.fn.out ++ (eight (length l.pairs) ++ flat_map pair_text (take l.pair-index l.pairs)))
    × AllByRecursion IsPair (take l.pair-index l.pairs)
