use Rattle.std.proofs.Common.{◌≡◌, ◌++◌, drop}
use Rattle.std.specs.List.{flat_map}
use Rattle.pr_script.specs.Reading.{ended}
use Rattle.pr_script.specs.Printing.{Begins, command_lines}
use Rattle.pr_script.proofs.printer.print_commands.Given as goal

abbrev pub invariant-loop-command : goal.invariant-loop-command
invariant-loop-command l = record {
  text : l.out ++ flat_map ended (command_lines l.decls (drop l.command-index l.commands)) ≡ l.fn.out ++ flat_map ended (command_lines l.decls l.commands);
  begins : Begins l.fn.out l.out;
}
