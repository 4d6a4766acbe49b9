use Rattle.std.proofs.Common.{◌≡◌, ◌++◌, ◌∷◌, [], drop}
use Rattle.std.specs.List.{flat_map}
use Rattle.pr_script.specs.Printing.{Begins, spell}
use Rattle.pr_script.proofs.spelling.print_text.Given as goal

abbrev pub invariant-loop-b : goal.invariant-loop-b
invariant-loop-b l = record {
  text : l.out ++ flat_map spell (drop l.b-index l.text) ≡ (l.fn.out ++ 32 ∷ 34 ∷ []) ++ flat_map spell l.text;
  begins : Begins l.fn.out l.out;
}
