use Rattle.std.proofs.Common.{arith}
use Rattle.pr_script.proofs.Beginnings.{one_more}
use Rattle.pr_script.proofs.Spelled.{decl_turn, decl_end}
use Rattle.pr_script.proofs.printer.print_decls.Goals as goal

pub loop-i-preserved : goal.loop-i-preserved
loop-i-preserved c = record {
  text = decl_turn c.args.decls.now c.loop-i.i c.index-decls-i.result c.loop-i.out _ _ (omega arith) c.index-decls-i.is c.in_ok-print_decl.ensures.ok c.loop-i.invariant.text;
  begins = one_more _ _ _ _ c.loop-i.invariant.begins c.in_ok-print_decl.ensures.ok;
}

pub returns-clause-ok : goal.returns-clause-ok
returns-clause-ok c = decl_end c.args.decls.now c.loop-i.i c.loop-i.out _ (omega arith) c.loop-i.invariant.text
