use Rattle.std.proofs.Common.{refl, arith, sym, ap, ◌∙◌, ◌++◌}
use Rattle.pr_text.specs.Texts.{row_text}
use Rattle.pr_text.proofs.Loops.{turn, ended, some_listed}
use Rattle.pr_text.proofs.rows.push_rows.Goals as goal

pub loop-index-init : goal.loop-index-init
loop-index-init c = refl

pub loop-index-preserved : goal.loop-index-preserved
loop-index-preserved c =
    turn (row_text c.args.decls.now.list) 44 c.loop-index.index c.args.rows.now c.index-rows-index.result
    c.loop-index.text c.push_between.new.text c.push_row.new.text _
    (omega arith) c.index-rows-index.is c.in_ok-push_between.ensures c.in_ok-push_row.ensures c.loop-index.invariant

pub returns : goal.returns
returns c = ended (row_text c.args.decls.now.list) 44 c.loop-index.index c.args.rows.now c.loop-index.text _ c.loop-index-test.false c.loop-index.invariant
    ∙ ap (λ t. c.args.text.now ++ t) (sym (some_listed (row_text c.args.decls.now.list) c.args.rows.now (sym c.is_empty.ensures ∙ c.if-is_empty.false)))
