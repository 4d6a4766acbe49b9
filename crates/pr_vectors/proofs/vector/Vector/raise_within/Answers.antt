use Rattle.std.proofs.Common.{◌∙◌, ap, arith}
use Rattle.std.proofs.lemmas.Grind.{common_steps}
use Rattle.std.proofs.lemmas.Bool.Decides.{nat_tests}
use Rattle.pr_vectors.proofs.Vectors.{is-vector_of, raised_to_cut}
use Rattle.pr_vectors.specs.Vector.{raised_within}
use Rattle.pr_vectors.proofs.vector.Vector.raise_within.Goals as goal

pub returns-clause-value : goal.returns-clause-value
returns-clause-value c = is-vector_of _ _ (grind (arith, common_steps)) (λ k h. grind (arith, common_steps, nat_tests))

pub returns-clause-cut : goal.returns-clause-cut
returns-clause-cut c v e = returns-clause-value c ∙ ap (λ x. raised_within x c.args.stamp.now c.args.other.now) e ∙ raised_to_cut v c.args.other.now c.args.stamp.now
