use Rattle.std.proofs.Common.{sym}
use Rattle.pr_log.specs.Sets.{begins_at}
use Rattle.pr_log.proofs.Clocks.{put_in}
use Rattle.pr_log.proofs.beginnings.begin_unless_same.Goals as goal

pub returns-clause-others : goal.returns-clause-others
returns-clause-others c q other = put_in c.args.clock q (begins_at c.args.sets.now.entries q) (begins_at c.insert.new.self.entries q) c.args.set (c.in_ok-insert.ensures.updates.0 q) (λ e. other (sym e))
