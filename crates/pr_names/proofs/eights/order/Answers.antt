use Rattle.std.proofs.Common.{◌∙◌, sym}
use Rattle.pr_names.proofs.Spelled.{decided, next_word, passed}
use Rattle.pr_names.proofs.eights.order.Goals as goal

pub returns-then-is_ne : goal.returns-then-is_ne
returns-then-is_ne c =
    decided _ _ _
    (c.loop-i.invariant ∙ next_word c.args.a.now c.args.b.now c.fits-a c.fits-b c.told-a c.told-b c.loop-i.i c.loop-i-test.true _ _ _ c.word.ensures c.word-in-loop-i.ensures c.cmp-found.ensures)
    (sym c.is_ne.ensures ∙ c.if-is_ne.true)

pub loop-i-preserved : goal.loop-i-preserved
loop-i-preserved c =
    passed _ _ _
    (c.loop-i.invariant ∙ next_word c.args.a.now c.args.b.now c.fits-a c.fits-b c.told-a c.told-b c.loop-i.i c.loop-i-test.true _ _ _ c.word.ensures c.word-in-loop-i.ensures c.cmp-found.ensures)
    (sym c.is_ne.ensures ∙ c.if-is_ne.false)
