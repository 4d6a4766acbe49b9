use Rattle.std.proofs.Common.{refl, arith, sym, ap, ◌∙◌, ◌++◌}
use Rattle.pr_text.specs.Texts.{pair_text}
use Rattle.pr_text.proofs.Loops.{turn, ended, some_listed}
use Rattle.pr_text.proofs.rows.push_pairs.Goals as goal

pub loop-index-init : goal.loop-index-init
loop-index-init c = refl

pub loop-index-preserved : goal.loop-index-preserved
loop-index-preserved c =
    turn (pair_text c.args.decls.now.list) 44 c.loop-index.index c.args.pairs.now c.index-pairs-index.result
    c.loop-index.text c.push_between.new.text c.push_pair.new.text _
    (omega arith) c.index-pairs-index.is c.in_ok-push_between.ensures c.in_ok-push_pair.ensures c.loop-index.invariant

pub returns : goal.returns
returns c = ended (pair_text c.args.decls.now.list) 44 c.loop-index.index c.args.pairs.now c.loop-index.text _ c.loop-index-test.false c.loop-index.invariant
    ∙ ap (λ t. c.args.text.now ++ t) (sym (some_listed (pair_text c.args.decls.now.list) c.args.pairs.now (sym c.is_empty.ensures ∙ c.if-is_empty.false)))
