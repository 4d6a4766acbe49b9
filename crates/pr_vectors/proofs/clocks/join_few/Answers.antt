use Rattle.std.proofs.Common.{◌∙◌}
use Rattle.pr_vectors.proofs.Vectors.{join_unpacked}
use Rattle.pr_vectors.proofs.clocks.join_few.Goals as goal

pub returns : goal.returns
returns c = c.join_short.ensures ∙ rw c.wide.ensures (join_unpacked c.args.others.now c.args.few.now)
