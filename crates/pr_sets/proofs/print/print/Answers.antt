use Rattle.std.proofs.Common.{◌≡◌, ℕ, List, OnOk, ◌++◌, ◌<◌, ◌-◌, take, drop, length, sym, ap, ◌∙◌, subst, append_assoc}
use Rattle.std.specs.Prelude.{OnErr}
use Rattle.pr_names.specs.Text.{interval_text}
use Rattle.pr_sets.specs.Text.{AddsFront, more_text}
use Rattle.pr_sets.proofs.Printing.{empty_text, first_text, front_first, on_err, on_err_behind, some_where_not}
use Rattle.pr_sets.proofs.print.print.Goals as goal

pub returns-then-is_empty-clause-ok : goal.returns-then-is_empty-clause-ok
returns-then-is_empty-clause-ok c =
    let P : List ℕ → Type 0 = λ text. OnOk c.add.result (c.add.new.out ≡ c.args.out.now ++ text) in
    subst P (empty_text c.args.parts.now (sym c.is_empty.ensures ∙ c.if-is_empty.true)) c.add.ensures.ok

pub returns-then-is_empty-clause-err : goal.returns-then-is_empty-clause-err
returns-then-is_empty-clause-err c =
    let P : List ℕ → Type 0 = λ text. OnErr c.add.result (AddsFront c.args.out.now c.add.new.out text) in
    subst P (empty_text c.args.parts.now (sym c.is_empty.ensures ∙ c.if-is_empty.true)) c.add.ensures.err

pub returns-in_err-print_interval-clause-err : goal.returns-in_err-print_interval-clause-err
returns-in_err-print_interval-clause-err c =
    let P : List ℕ → Type 0 = λ text. OnErr c.from_residual.result (AddsFront c.args.out.now c.print_interval.new.out text) in
    let some : 0 < length c.args.parts.now = some_where_not (length c.args.parts.now) (sym c.is_empty.ensures ∙ c.if-is_empty.false) in
    let more = more_text (take (length c.args.parts.now - 1) (drop 1 c.args.parts.now)) in
    subst P (sym (first_text c.args.parts.now c.index-parts-0.result some c.index-parts-0.is))
    (on_err c.from_residual.result c.args.out.now c.print_interval.new.out (interval_text c.index-parts-0.result ++ more)
    (front_first c.args.out.now c.print_interval.new.out (interval_text c.index-parts-0.result) more c.in_err-print_interval.ensures.err))

pub returns-clause-ok : goal.returns-clause-ok
returns-clause-ok c =
    let P : List ℕ → Type 0 = λ text. OnOk c.print_more.result (c.print_more.new.out ≡ text) in
    let some : 0 < length c.args.parts.now = some_where_not (length c.args.parts.now) (sym c.is_empty.ensures ∙ c.if-is_empty.false) in
    let more = more_text (take (length c.args.parts.now - 1) (drop 1 c.args.parts.now)) in
    subst P
    (ap (λ text. text ++ more) c.in_ok-print_interval.ensures.ok
    ∙ append_assoc c.args.out.now (interval_text c.index-parts-0.result) more
    ∙ ap (λ text. c.args.out.now ++ text) (sym (first_text c.args.parts.now c.index-parts-0.result some c.index-parts-0.is)))
    c.print_more.ensures.ok

pub returns-clause-err : goal.returns-clause-err
returns-clause-err c =
    let P : List ℕ → Type 0 = λ text. OnErr c.print_more.result (AddsFront c.args.out.now c.print_more.new.out text) in
    let some : 0 < length c.args.parts.now = some_where_not (length c.args.parts.now) (sym c.is_empty.ensures ∙ c.if-is_empty.false) in
    let more = more_text (take (length c.args.parts.now - 1) (drop 1 c.args.parts.now)) in
    subst P (sym (first_text c.args.parts.now c.index-parts-0.result some c.index-parts-0.is))
    (on_err_behind c.print_more.result c.args.out.now c.print_interval.new.out c.print_more.new.out (interval_text c.index-parts-0.result) more
    c.in_ok-print_interval.ensures.ok c.print_more.ensures.err)
