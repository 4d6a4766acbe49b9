use Rattle.std.proofs.Common.{arith, ap, ◌∙◌}
use Rattle.pr_log.specs.Sets.{is_lit_at}
use Rattle.pr_log.proofs.Tails.{all_forgotten, some_forgotten}
use Rattle.pr_log.proofs.segments.forget_before.Goals as goal

pub returns-then-tail-clock-clause-lit : goal.returns-then-tail-clock-clause-lit
returns-then-tail-clock-clause-lit c o k lt = rw c.clear.ensures.empty (all_forgotten c.args.tail.now c.args.sets.now.entries c.args.clock c.requires.before c.if-tail-clock.true o k lt)

pub returns-else-tail-clock-clause-lit : goal.returns-else-tail-clock-clause-lit
returns-else-tail-clock-clause-lit c = some_forgotten c.args.tail.now c.args.sets.now.entries c.forget.new.sets.entries c.args.clock c.requires.before (omega (arith, c.if-tail-clock.false)) c.forget.ensures.lit c.forget.ensures.others
