use Rattle.std.proofs.Common.{◌≡◌, insert, sym, ◌∙◌, subst}
use Rattle.pr_marks.specs.Conflicting.{HasStamp}
use Rattle.pr_marks.specs.Row.{Rises, with_mark}
use Rattle.pr_marks.proofs.Conflicting.{stamp_put, stamps_stay}
use Rattle.pr_marks.proofs.Placed.{placed_in, rises_with}
use Rattle.pr_marks.proofs.in_order.put.Goals as goal

pub returns-then-stands_at-clause-ok : goal.returns-then-stands_at-clause-ok
returns-then-stands_at-clause-ok c =
    subst (λ l. HasStamp l c.args.mark.now.stamp) c.deref-2.ensures.value
    (c.place-at.result, (c.stands_at.ensures.here c.if-stands_at.true c.args.mark.now).0, λ d. (c.stands_at.ensures.here c.if-stands_at.true d).1)

pub returns-clause-rise : goal.returns-clause-rise
returns-clause-rise c =
    let is : with_mark c.args.marks.now.items c.args.mark.now ≡ insert c.args.marks.now.items c.place-at.result c.args.mark.now = placed_in _ _ _ c.args.mark.now _ c.deref.ensures.value c.deref-2.ensures.value c.place-at.ensures.within c.place-at.ensures.before c.place-at.ensures.after (c.stands_at.ensures.not_here c.if-stands_at.false) in
    subst Rises (is ∙ sym c.in_ok-insert.ensures.items) (rises_with c.args.marks.now.items c.args.mark.now c.requires)

pub returns-clause-stay : goal.returns-clause-stay
returns-clause-stay c s h =
    let is : with_mark c.args.marks.now.items c.args.mark.now ≡ insert c.args.marks.now.items c.place-at.result c.args.mark.now = placed_in _ _ _ c.args.mark.now _ c.deref.ensures.value c.deref-2.ensures.value c.place-at.ensures.within c.place-at.ensures.before c.place-at.ensures.after (c.stands_at.ensures.not_here c.if-stands_at.false) in
    subst (λ l. HasStamp l s) (is ∙ sym c.in_ok-insert.ensures.items) (stamps_stay c.args.marks.now.items c.args.mark.now s h)

pub returns-clause-ok : goal.returns-clause-ok
returns-clause-ok c =
    let is : with_mark c.args.marks.now.items c.args.mark.now ≡ insert c.args.marks.now.items c.place-at.result c.args.mark.now = placed_in _ _ _ c.args.mark.now _ c.deref.ensures.value c.deref-2.ensures.value c.place-at.ensures.within c.place-at.ensures.before c.place-at.ensures.after (c.stands_at.ensures.not_here c.if-stands_at.false) in
    subst (λ l. HasStamp l c.args.mark.now.stamp) (is ∙ sym c.in_ok-insert.ensures.items) (stamp_put c.args.marks.now.items c.args.mark.now)
