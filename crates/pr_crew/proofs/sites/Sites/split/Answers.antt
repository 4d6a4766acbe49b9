use Rattle.std.proofs.Common.{◌∙◌}
use Rattle.pr_crew.proofs.Splitting.{cell_is, root_changes, splits}
use Rattle.pr_crew.proofs.sites.Sites.split.Goals as goal

pub returns-clause-splits : goal.returns-clause-splits
returns-clause-splits c =
    let s = c.args.self.now in
    let t = c.take_root-root.new.self in
    let d = c.split-pass.ensures in
    splits s c.args.node c.index.result.now c.take_root-root.result (cell_is s t c.args.node c.requires.0 c.index.result.now c.requires.2.cell c.take_root-root.ensures.cells c.index.ensures) c.take_root-root.ensures.root
    c.put_root.new.self c.split-pass.new.pass c.split-pass.result d.pass d.kept d.same d.new d.number d.given (c.put_root.ensures.cells ∙ c.take_root-root.ensures.cells)
    (root_changes s t c.put_root.new.self c.args.node c.split-pass.new.pass c.take_root-root.ensures.roots c.put_root.ensures.roots)
