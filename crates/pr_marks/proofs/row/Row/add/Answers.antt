use Rattle.std.proofs.Common.{◌≡◌, insert, sym, ◌∙◌}
use Rattle.pr_marks.specs.Row.{with_mark}
use Rattle.pr_marks.proofs.Conflicting.{added_in}
use Rattle.pr_marks.proofs.Placed.{found_in, placed_in}
use Rattle.pr_marks.proofs.row.Row.add.Goals as goal

pub returns-then-stands_at-clause-ok : goal.returns-then-stands_at-clause-ok
returns-then-stands_at-clause-ok c =
    rw (← c.self.view_is) (sym (found_in _ _ _ c.args.mark.now c.args.mark.now _ c.deref.ensures.value c.deref-2.ensures.value c.place-at.ensures.before (c.stands_at.ensures.here c.if-stands_at.true c.args.mark.now)))

pub invariant_of-self-2 : goal.invariant_of-self-2
invariant_of-self-2 c =
    let is : with_mark c.self.inside.marks.items c.args.mark.now ≡ insert c.self.inside.marks.items c.place-at.result c.args.mark.now = placed_in _ _ _ c.args.mark.now _ c.deref.ensures.value c.deref-2.ensures.value c.place-at.ensures.within c.place-at.ensures.before c.place-at.ensures.after (c.stands_at.ensures.not_here c.if-stands_at.false) in
    added_in c.self.inside.marks.items c.self.inside.conflicting.items _ _ _ c.put_at.new.list.items c.list.new.listed.items c.args.mark.now c.place-at.result c.deref.ensures.value c.deref-2.ensures.value c.deref-3.ensures.value (c.in_ok-put_at.ensures.ok ∙ sym is) c.self.invariant.0 c.self.invariant.1 c.list.ensures.rise c.place-at.ensures.within c.place-at.ensures.before c.place-at.ensures.after (c.stands_at.ensures.not_here c.if-stands_at.false) c.list.ensures.stay c.in_ok-list.ensures.this c.in_ok-list.ensures.behind

pub returns-clause-ok : goal.returns-clause-ok
returns-clause-ok c =
    let is : with_mark c.self.inside.marks.items c.args.mark.now ≡ insert c.self.inside.marks.items c.place-at.result c.args.mark.now = placed_in _ _ _ c.args.mark.now _ c.deref.ensures.value c.deref-2.ensures.value c.place-at.ensures.within c.place-at.ensures.before c.place-at.ensures.after (c.stands_at.ensures.not_here c.if-stands_at.false) in
    rw (← c.self.view_is) (c.in_ok-put_at.ensures.ok ∙ sym is)
