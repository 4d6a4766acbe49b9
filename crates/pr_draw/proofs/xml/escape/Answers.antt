use Rattle.std.proofs.Common.{ℕ, List, ◌++◌, sym, ap, ◌∙◌}
use Rattle.std.specs.List.{flat_map}
use Rattle.std.proofs.lemmas.List.{append-nil, drop_all}
use Rattle.pr_draw.specs.Tags.{spelled}
use Rattle.pr_draw.proofs.xml.escape.Goals as goal

pub returns : goal.returns
returns c =
    sym (append-nil c.loop-b.out)
    ∙ ap (λ (t : List ℕ). c.loop-b.out ++ flat_map spelled t) (sym (drop_all c.loop-b.b-index c.args.words.now c.loop-b-test.false))
    ∙ c.loop-b.invariant
