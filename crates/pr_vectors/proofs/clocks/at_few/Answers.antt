use Rattle.std.proofs.Common.{◌≤◌, length, arith, sym}
use Rattle.std.proofs.lemmas.List.{get_or_past}
use Rattle.pr_vectors.specs.Vector.{clock_of}
use Rattle.pr_vectors.proofs.Vectors.{clock_of-vector_of}
use Rattle.pr_vectors.proofs.clocks.at_few.Goals as goal

pub returns-then-node-lt8 : goal.returns-then-node-lt8
returns-then-node-lt8 c = rw (clock_of-vector_of (clock_of c.args.few.now) c.args.node c.requires) c.from.ensures

pub returns-else-node-lt8 : goal.returns-else-node-lt8
returns-else-node-lt8 c =
    let past : length c.args.few.now ≤ c.args.node = omega (arith, c.fits-few, c.if-node-lt8.false) in
    rw (clock_of-vector_of (clock_of c.args.few.now) c.args.node c.requires) (sym (get_or_past c.args.few.now c.args.node 0 past))
