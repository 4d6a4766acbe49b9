use Rattle.std.proofs.Common.{◌≡◌, ◌∙◌, Some}
use Rattle.std.specs.Prelude.{slice_get}
use Rattle.pr_crew.proofs.Splitting.{cell_is, joins, own_number, root_changes}
use Rattle.pr_crew.proofs.sites.Sites.join.Goals as goal

pub returns-clause-joins : goal.returns-clause-joins
returns-clause-joins c =
    let s = c.args.self.now in
    let t = c.take_root-root.new.self in
    let d = c.join_pass-root.ensures in
    let at : slice_get s.cells.items c.args.node ≡ Some c.index.result.now = cell_is s t c.args.node c.requires.0 c.index.result.now c.requires.3.cell c.take_root-root.ensures.cells c.index.ensures in
    let first = own_number s c.args.node c.index.result.now c.take_root-root.result at c.take_root-root.ensures.root c.args.pass c.requires in
    joins s c.args.node c.index.result.now c.take_root-root.result at c.take_root-root.ensures.root c.put_root.new.self c.args.pass c.in-Some.pass c.join_pass-root.result c.in-Some.is first
    d.pass d.held d.seen d.mine (c.put_root.ensures.cells ∙ c.take_root-root.ensures.cells) (root_changes s t c.put_root.new.self c.args.node c.join_pass-root.result c.take_root-root.ensures.roots c.put_root.ensures.roots)
