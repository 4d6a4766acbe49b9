use Rattle.std.proofs.Common.{◌∙◌, sym, subst, List, ◌∷◌, []}
use Rattle.std.specs.Prelude.{ℕ, OnErr}
use Rattle.pr_names.specs.Text.{bound_text}
use Rattle.pr_sets.specs.Text.{AddsFront}
use Rattle.pr_sets.proofs.Printing.{end_is, front_first, on_err, on_err_behind}
use Rattle.pr_sets.proofs.print.print_end.Goals as goal

pub returns-in_err-add-clause-err : goal.returns-in_err-add-clause-err
returns-in_err-add-clause-err c =
    let P : List ℕ → Type 0 = λ text. OnErr c.from_residual.result (AddsFront c.args.out.now c.add-2.new.out text) in
    subst P
    (end_is c.args.part.now
    (sym (rw (c.hi-hi.ensures.value, c.after.ensures.value, c.lo.ensures.value) at c.are_same.ensures) ∙ c.if-are_same.false)
    (sym (rw (c.hi-hi.ensures.value, c.after_all.ensures.value, c.lo-2.ensures.value) at c.are_same-2.ensures) ∙ c.if-are_same-2.false))
    (on_err c.from_residual.result c.args.out.now c.add-2.new.out (58 ∷ bound_text c.args.part.now.hi)
    (front_first c.args.out.now c.add-2.new.out (58 ∷ []) (bound_text c.args.part.now.hi) c.in_err-add.ensures.err))

pub returns-clause-err : goal.returns-clause-err
returns-clause-err c =
    let P : List ℕ → Type 0 = λ text. OnErr c.push_bound.result (AddsFront c.args.out.now c.push_bound.new.out text) in
    subst P
    (end_is c.args.part.now
    (sym (rw (c.hi-hi.ensures.value, c.after.ensures.value, c.lo.ensures.value) at c.are_same.ensures) ∙ c.if-are_same.false)
    (sym (rw (c.hi-hi.ensures.value, c.after_all.ensures.value, c.lo-2.ensures.value) at c.are_same-2.ensures) ∙ c.if-are_same-2.false))
    (on_err_behind c.push_bound.result c.args.out.now c.add-2.new.out c.push_bound.new.out (58 ∷ []) (bound_text c.args.part.now.hi)
    c.in_ok-add.ensures.ok (rw c.hi-hi.ensures.value at c.push_bound.ensures.err))
