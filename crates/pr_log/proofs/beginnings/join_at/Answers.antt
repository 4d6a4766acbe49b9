use Rattle.std.proofs.Common.{sym}
use Rattle.pr_log.specs.Sets.{begins_at}
use Rattle.pr_log.proofs.Clocks.{taken_out}
use Rattle.pr_log.proofs.Standing.{joined_lit}
use Rattle.pr_log.proofs.beginnings.join_at.Goals as goal

pub returns-then-repeats : goal.returns-then-repeats
returns-then-repeats c o k name =
    let found = c.repeats.ensures c.if-repeats.true in
    joined_lit (begins_at c.args.sets.now.entries) (begins_at c.remove.new.self.entries) c.args.clock found.0 found.1 o c.requires c.remove.ensures.updates.1
    (λ q other. taken_out c.args.clock q (begins_at c.args.sets.now.entries q) _ (c.remove.ensures.updates.0 q) (λ e. other (sym e)))
    found.3 found.2 (found.4 o name) k
