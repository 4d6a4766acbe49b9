use Rattle.std.proofs.Common.{arith}
use Rattle.std.proofs.lemmas.List.{get_or_past}
use Rattle.pr_vectors.specs.Vector.{clock_of}
use Rattle.pr_vectors.proofs.Vectors.{clock_of-vector_of}
use Rattle.pr_vectors.proofs.clocks.nodes_of_few.Goals as goal

pub returns-clause-behind : goal.returns-clause-behind
returns-clause-behind c = λ n above lt. rw (clock_of-vector_of (clock_of c.args.few.now) n lt) (get_or_past c.args.few.now n 0 (omega (arith, c.told-few, above)))
