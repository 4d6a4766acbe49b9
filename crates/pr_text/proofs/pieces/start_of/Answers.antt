use Rattle.std.proofs.Common.{◌∙◌, ap, length, arith, ℕ}
use Rattle.pr_text.specs.Texts.{part}
use Rattle.pr_text.proofs.Parts.{start_more}
use Rattle.pr_text.proofs.pieces.start_of.Goals as goal

pub loop-below-preserved : goal.loop-below-preserved
loop-below-preserved c =
    c.in_ok-start.ensures.1
    ∙ start_more c.args.pieces.now c.loop-below.below c.index-pieces-below.result c.args.vector.now c.loop-below.start c.in_ok-len.len (omega (arith, c.loop-below-test.true, c.requires)) c.index-pieces-below.is c.loop-below.invariant
    (c.in_ok-len.ensures ∙ ap (λ (k : ℕ). length (part c.index-pieces-below.result k)) c.clock_at.ensures)
