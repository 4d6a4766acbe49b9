use Rattle.std.proofs.Common.{◌≡◌, ◌++◌, drop}
use Rattle.pr_script.specs.Printing.{Begins, sets_text}
use Rattle.pr_script.proofs.spelling.sets_fields.Given as goal

abbrev pub invariant-loop-set : goal.invariant-loop-set
invariant-loop-set l = record {
  text : l.out ++ sets_text (drop l.set-index l.sets) ≡ l.fn.out ++ sets_text l.sets;
  begins : Begins l.fn.out l.out;
}
