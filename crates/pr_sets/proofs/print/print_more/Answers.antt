use Rattle.std.proofs.Common.{arith, sym}
use Rattle.std.proofs.lemmas.List.{append-nil}
use Rattle.pr_sets.specs.Text.{more_text}
use Rattle.pr_sets.proofs.Printing.{comma_refused, interval_refused, more_end, more_turn}
use Rattle.pr_sets.proofs.print.print_more.Goals as goal

pub returns-in_err-add-clause-err : goal.returns-in_err-add-clause-err
returns-in_err-add-clause-err c =
    comma_refused c.from_residual.result c.args.parts.now c.loop-part.part-index c.part-item.result c.args.out.now c.loop-part.out c.add.new.out
    (omega arith) c.part-item.is c.loop-part.invariant c.in_err-add.ensures.err

pub returns-in_err-print_interval-clause-err : goal.returns-in_err-print_interval-clause-err
returns-in_err-print_interval-clause-err c =
    interval_refused c.from_residual-in_err-print_interval.result c.args.parts.now c.loop-part.part-index c.part-item.result c.args.out.now c.loop-part.out c.add.new.out c.print_interval.new.out
    (omega arith) c.part-item.is c.loop-part.invariant c.in_ok-add.ensures.ok c.in_err-print_interval.ensures.err

pub loop-part-preserved : goal.loop-part-preserved
loop-part-preserved c =
    more_turn c.args.parts.now c.loop-part.part-index c.part-item.result c.args.out.now c.loop-part.out c.add.new.out c.print_interval.new.out
    (omega arith) c.part-item.is c.in_ok-add.ensures.ok c.in_ok-print_interval.ensures.ok c.loop-part.invariant

pub returns-clause-ok : goal.returns-clause-ok
returns-clause-ok c = more_end c.args.parts.now c.loop-part.part-index c.args.out.now c.loop-part.out (omega arith) c.loop-part.invariant

pub loop-part-init : goal.loop-part-init
unfolding more_text
loop-part-init c = sym (append-nil c.args.out.now)
