use Rattle.pr_wire.proofs.Above.{le_test}
use Rattle.pr_wire.proofs.reading.vectors.is_le.Goals as goal

pub returns : goal.returns
returns c = le_test c.args.vector.now c.args.other.now c.le.result c.le.ensures
