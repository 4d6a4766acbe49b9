use Rattle.std.proofs.Common.{rules}
use Rattle.pr_vectors.proofs.Vectors.{same_unpacked}
use Rattle.pr_vectors.proofs.clocks.is_few.Goals as goal

pub returns : goal.returns
returns c = same_unpacked _ _ _ c.told-few c.told-others (search rules)
