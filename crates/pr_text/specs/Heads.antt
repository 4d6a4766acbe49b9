-- The head lines: the declarations, as scripts print them.
use Rattle.std.specs.Prelude.{ℕ, List, []}
use Rattle.std.specs.List.{flat_map}
use Rattle.pr_script.specs.declared.decl.Decl.{Decl}
use Rattle.pr_script.specs.Printing.{decl_lines}
use Rattle.pr_script.specs.Reading.{ended}

abbrev pub heads_text : List Decl → List ℕ
heads_text ds = flat_map ended (decl_lines [] ds)
