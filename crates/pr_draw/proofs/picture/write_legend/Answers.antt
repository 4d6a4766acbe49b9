use Rattle.std.proofs.Common.{[], ◌∷◌}
use Rattle.pr_draw.proofs.Grammar.{line_end}
use Rattle.pr_draw.proofs.Tagging.{adds, adds_on}
use Rattle.pr_draw.proofs.picture.write_legend.Goals as goal

pub returns : goal.returns
returns c =
    adds_on c.args.out.now c.write_shapes.new.out c.push.new.self c.push.result c.in_ok-write_shapes.ensures
    (adds c.write_shapes.new.out (10 ∷ []) c.push.new.self c.push.result line_end c.push.ensures.ok)
