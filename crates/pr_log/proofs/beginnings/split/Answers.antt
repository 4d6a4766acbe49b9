use Rattle.std.proofs.Common.{sym}
use Rattle.pr_log.specs.Sets.{begins_at}
use Rattle.pr_log.proofs.Clocks.{put_in}
use Rattle.pr_log.proofs.Standing.{split_lit}
use Rattle.pr_log.proofs.beginnings.split.Goals as goal

pub returns-clause-others : goal.returns-clause-others
returns-clause-others c q other = put_in c.args.clock q (begins_at c.args.sets.now.entries q) (begins_at c.insert.new.self.entries q) c.in_ok-set.set (c.in_ok-insert.ensures.updates.0 q) (λ e. other (sym e))

pub returns-clause-lit : goal.returns-clause-lit
returns-clause-lit c o k name =
    split_lit (begins_at c.args.sets.now.entries) (begins_at c.insert.new.self.entries) c.args.clock c.in_ok-set.set o c.in_ok-insert.ensures.updates.1
    (λ q other. put_in c.args.clock q (begins_at c.args.sets.now.entries q) (begins_at c.insert.new.self.entries q) c.in_ok-set.set (c.in_ok-insert.ensures.updates.0 q) (λ e. other (sym e)))
    (c.in_ok-set.ensures o name) k
