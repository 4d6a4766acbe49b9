use Rattle.std.proofs.Common.{List, ◌++◌, ◌∷◌, [], take, sym, subst, ◌∙◌}
use Rattle.pr_stamps.specs.declared.mark.Mark.{Mark}
use Rattle.pr_story.proofs.NewestFirst.{with_next, with_whole}
use Rattle.pr_story.proofs.Marking.{AreAbove, above_more, above_less}
use Rattle.pr_story.proofs.plain.marks.above.Goals.{then-not-covers+in_ok-push, else-not-covers}
use Rattle.pr_story.proofs.plain.marks.above.Goals as goal

pub loop-mark-preserved : goal.loop-mark-preserved
loop-mark-preserved c =
    with_next (λ ms. AreAbove c.args.floor.now ms c.if-not-covers.kept) _ _ c.mark-item.result c.loop-mark-test.true c.mark-item.is
    (elim c.if-not-covers.branch [
      | then-not-covers+in_ok-push w ↦
          subst (λ (k : List Mark). AreAbove c.args.floor.now (take c.loop-mark.mark-index c.args.marks.now ++ c.mark-item.result ∷ []) k) (sym (w.kept-is ∙ w.in_ok-push.ensures.ok))
          (above_more c.args.floor.now (take c.loop-mark.mark-index c.args.marks.now) c.loop-mark.kept c.mark-item.result (λ covered. let t = c.covers.ensures.covers.1 covered in let f = w.if-not-covers.true in cc) c.loop-mark.invariant)
      | else-not-covers w ↦
          subst (λ (k : List Mark). AreAbove c.args.floor.now (take c.loop-mark.mark-index c.args.marks.now ++ c.mark-item.result ∷ []) k) (sym w.kept-is)
          (above_less c.args.floor.now (take c.loop-mark.mark-index c.args.marks.now) c.loop-mark.kept c.mark-item.result (c.covers.ensures.covers.0 (let f = w.if-not-covers.false in cc)) c.loop-mark.invariant)
    ])

pub returns-clause-rise : goal.returns-clause-rise
returns-clause-rise c = (with_whole (λ ms. AreAbove c.args.floor.now ms c.loop-mark.kept) _ _ c.loop-mark-test.false c.loop-mark.invariant).rise c.requires

pub returns-clause-each : goal.returns-clause-each
returns-clause-each c = (with_whole (λ ms. AreAbove c.args.floor.now ms c.loop-mark.kept) _ _ c.loop-mark-test.false c.loop-mark.invariant).each
