use Rattle.std.proofs.Common.{◌≡◌, ◌++◌, ◌∷◌, [], ◌∙◌, ℕ, List, ap, sym, get_or, take}
use Rattle.std.specs.List.{flat_map}
use Rattle.std.proofs.lemmas.List.{flat_map_more, take_all, take_more}
use Rattle.pr_gen.specs.Summary.{count_line, words}
use Rattle.pr_gen.specs.declared.counted.Counted.{Counted}
use Rattle.pr_gen.specs.declared.counted.Counted.TheVariants.{Writes}
use Rattle.pr_gen.proofs.summing.push_counts.Goals as goal

pub loop-at-preserved : goal.loop-at-preserved
loop-at-preserved c h are =
    let i = c.loop-at.at in
    let pushed = c.in_ok-push_count.ensures h (are i c.loop-at-test.true) in
    pushed ∙ ap (λ (xs : List ℕ). xs ++ count_line h (get_or words i Writes)) (c.loop-at.invariant h are)
    ∙ flat_map_more (count_line h) c.args.out.now (take i words) (get_or words i Writes)
    ∙ ap (λ (ws : List Counted). c.args.out.now ++ flat_map (count_line h) ws) (sym (take_more words i Writes c.loop-at-test.true))

pub returns : goal.returns
returns c h are =
    c.loop-at.invariant h are ∙ ap (λ (ws : List Counted). c.args.out.now ++ flat_map (count_line h) ws) (take_all c.loop-at.at words c.loop-at-test.false)
