use Rattle.std.proofs.Common.{ap, arith}
use Rattle.pr_log.specs.Sets.{begins_at, lacks}
use Rattle.pr_log.proofs.Standing.{narrowed_above}
use Rattle.pr_log.proofs.beginnings.forget.Goals as goal

pub returns-in-Some-clause-lit : goal.returns-in-Some-clause-lit
returns-in-Some-clause-lit c o k above = ap (λ x. lacks x o) (narrowed_above (begins_at c.args.sets.now.entries) (begins_at c.drop_below.new.sets.entries) c.in-Some.last c.in-Some.ensures.some.1 c.drop_below.ensures k (omega (arith, c.in-Some.ensures.some.0, above)))
