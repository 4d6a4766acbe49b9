use Rattle.std.proofs.Common.{◌≡◌, ℕ, ◌+◌, List, [], ◌∷◌, ◌++◌, length, take, sym, ap, subst, ◌∙◌, append_assoc}
use Rattle.std.specs.List.{AllByRecursion, flat_map}
use Rattle.std.proofs.lemmas.List.{flat_map_more, take_more}
use Rattle.pr_stamps.specs.Point.{Point}
use Rattle.pr_wire.specs.Spelling.{eight}
use Rattle.pr_keep.specs.Entries.{IsPair}
use Rattle.pr_keep.specs.Spelling.{pair_text}
use Rattle.pr_keep.proofs.KeepLemmas.{each_more}
use Rattle.pr_keep.proofs.spelling.parts.append_pairs.Goals as goal

pub loop-pair-preserved : goal.loop-pair-preserved
loop-pair-preserved c =
    let xs = c.args.pairs.now in
    let i = c.loop-pair.pair-index in
    let x = c.pair-item.result in
    let more : take i xs ++ x ∷ [] ≡ take (i + 1) xs = ap (λ (y : Point × Point). take i xs ++ y ∷ []) c.pair-item.is ∙ sym (take_more xs i x c.loop-pair-test.true) in
    let count = eight (length xs) in (
      c.in_ok-append_pair.ensures.text
          ∙ ap (λ (t : List ℕ). t ++ pair_text x) c.loop-pair.invariant.0
          ∙ append_assoc c.args.out.now (count ++ flat_map pair_text (take i xs)) (pair_text x)
          ∙ ap (λ (t : List ℕ). c.args.out.now ++ t) (flat_map_more pair_text count (take i xs) x ∙ ap (λ (ys : List (Point × Point)). count ++ flat_map pair_text ys) more),
      subst (AllByRecursion IsPair) more (each_more IsPair (take i xs) x c.loop-pair.invariant.1 c.append_pair.ensures.range),
    )
