use Rattle.std.proofs.Common.{arith}
use Rattle.pr_gaps.proofs.Covered.{node_covered, one_covered}
use Rattle.pr_gaps.proofs.row.Row.cover_one.Goals as goal

pub returns : goal.returns
returns c p lt = rw (← c.self.view_is) (one_covered c.args.from.now c.args.to.now c.self.inside.clocks.items c.args.node c.index_mut-clocks.result.now c.add.new.self
    (omega (arith, c.self.invariant, c.requires.node)) c.index_mut-clocks.ensures.value
    (node_covered c.args.from.now c.args.to.now c.args.node c.add.new.self c.index_mut-clocks.result.now c.at.result c.at-2.result c.at.ensures.value c.at-2.ensures.value c.in_ok-add.ensures)
    c.requires.alone p.node lt p.clock)
