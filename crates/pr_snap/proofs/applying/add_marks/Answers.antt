use Rattle.std.proofs.Common.{◌+◌, ap, sym, ◌∙◌, ◌∷◌, drop, subst, arith}
use Rattle.std.proofs.lemmas.List.{drop_more}
use Rattle.pr_snap.proofs.Turns.{ToMark, mark_turn}
use Rattle.pr_snap.proofs.applying.add_marks.Goals as goal

pub loop-mark-preserved : goal.loop-mark-preserved
loop-mark-preserved c = record {
  marked = mark_turn c.args.marks.now c.loop-mark.marks c.add.new.self c.args.name.now c.args.added.now (drop (c.loop-mark.mark-index + 1) c.args.added.now) c.mark-item.result
      (subst (λ r. ToMark c.args.marks.now c.loop-mark.marks c.args.name.now c.args.added.now r) (drop_more c.args.added.now c.loop-mark.mark-index c.mark-item.result (omega arith) ∙ ap (λ y. y ∷ drop (c.loop-mark.mark-index + 1) c.args.added.now) (sym c.mark-item.is)) c.loop-mark.invariant.marked)
      c.in_ok-add.ensures.ok;
  works = λ _. c.in_ok-add.ensures.works;
}
