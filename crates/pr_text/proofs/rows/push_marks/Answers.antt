use Rattle.std.proofs.Common.{refl, arith}
use Rattle.pr_text.specs.Texts.{mark_text}
use Rattle.pr_text.proofs.Loops.{turn, ended}
use Rattle.pr_text.proofs.rows.push_marks.Goals as goal

pub loop-index-init : goal.loop-index-init
loop-index-init c = refl

pub loop-index-preserved : goal.loop-index-preserved
loop-index-preserved c =
    turn (mark_text c.args.decls.now.list) 59 c.loop-index.index c.args.marks.now c.index-marks-index.result
    c.loop-index.text c.push_between.new.text c.push_mark.new.text _
    (omega arith) c.index-marks-index.is c.in_ok-push_between.ensures c.in_ok-push_mark.ensures c.loop-index.invariant

pub returns : goal.returns
returns c = ended (mark_text c.args.decls.now.list) 59 c.loop-index.index c.args.marks.now c.loop-index.text _ c.loop-index-test.false c.loop-index.invariant
