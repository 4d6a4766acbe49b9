use Rattle.std.proofs.Common.{◌∙◌, ◌++◌, ap, sym, subst, List}
use Rattle.std.specs.Prelude.{ℕ, OnErr}
use Rattle.pr_names.specs.Text.{end_text}
use Rattle.pr_sets.specs.Text.{AddsFront}
use Rattle.pr_sets.proofs.Printing.{front_first, on_err, on_err_behind, text_is}
use Rattle.pr_sets.proofs.print.print_interval.Goals as goal

pub returns-in_err-add-clause-err : goal.returns-in_err-add-clause-err
returns-in_err-add-clause-err c =
    let P : List ℕ → Type 0 = λ text. OnErr c.from_residual.result (AddsFront c.args.out.now c.add-2.new.out text) in
    subst P
    (ap (λ lo. lo ++ end_text c.args.part.now) (c.bytes.ensures.value ∙ c.lo.ensures.value) ∙ text_is c.args.part.now (sym c.is_whole.ensures ∙ c.if-is_whole.false))
    (on_err c.from_residual.result c.args.out.now c.add-2.new.out (c.bytes.result.now ++ end_text c.args.part.now)
    (front_first c.args.out.now c.add-2.new.out c.bytes.result.now (end_text c.args.part.now) c.in_err-add.ensures.err))

pub returns-clause-err : goal.returns-clause-err
returns-clause-err c =
    let P : List ℕ → Type 0 = λ text. OnErr c.print_end.result (AddsFront c.args.out.now c.print_end.new.out text) in
    subst P
    (ap (λ lo. lo ++ end_text c.args.part.now) (c.bytes.ensures.value ∙ c.lo.ensures.value) ∙ text_is c.args.part.now (sym c.is_whole.ensures ∙ c.if-is_whole.false))
    (on_err_behind c.print_end.result c.args.out.now c.add-2.new.out c.print_end.new.out c.bytes.result.now (end_text c.args.part.now)
    c.in_ok-add.ensures.ok c.print_end.ensures.err)
