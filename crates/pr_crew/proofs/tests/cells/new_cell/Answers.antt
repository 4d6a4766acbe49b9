use Rattle.std.proofs.Common.{List, [], ◌∙◌, ap}
use Rattle.std.specs.Prelude.{false}
use Rattle.pr_names.specs.Span.{Span}
use Rattle.pr_node.specs.Stored.{NodeMeaning}
use Rattle.pr_crew.proofs.NewJobs.{new_cell}
use Rattle.pr_crew.proofs.tests.cells.new_cell.Goals as goal

pub returns-in-Ok-clause-cell : goal.returns-in-Ok-clause-cell
returns-in-Ok-clause-cell c =
    let new = c.in_ok-node.ensures ∙ ap (λ (sets : List (List Span)). let m : NodeMeaning = record { id = c.args.node; sets = sets; journal = []; spent = false } in m) c.new.ensures in
    let e = new_cell c.args.node c.new-3.result c.in_ok-node.node c.in-Ok.cell.0 c.requires new c.new-3.ensures.stories c.in-Ok.ensures.cell.1 in
    (e.0, e.1, e.2, c.in-Ok.ensures.cell.0)
