use Rattle.std.proofs.Common.{◌≡◌, ◌++◌, take, drop, []}
use Rattle.std.specs.List.{flat_map}
use Rattle.pr_script.specs.Reading.{ended}
use Rattle.pr_script.specs.Printing.{Begins, decl_lines}
use Rattle.pr_script.proofs.printer.print_decls.Given as goal

abbrev pub invariant-loop-i : goal.invariant-loop-i
invariant-loop-i l = record {
  text : l.out ++ flat_map ended (decl_lines (take l.i l.decls) (drop l.i l.decls)) ≡ l.fn.out ++ flat_map ended (decl_lines [] l.decls);
  begins : Begins l.fn.out l.out;
}
