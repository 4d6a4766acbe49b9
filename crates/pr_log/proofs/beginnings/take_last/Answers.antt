use Rattle.pr_log.proofs.Tails.{out_before, out_lit}
use Rattle.pr_log.proofs.beginnings.take_last.Goals as goal

pub returns-clause-before : goal.returns-clause-before
returns-clause-before c = out_before (record { start = c.in_ok-start.start; set = c.in_ok-start.set }) c.args.sets.now.entries c.pop_last.new.self.entries c.in_ok-start.ensures.updates.0 c.in_ok-start.ensures.greatest

pub returns-clause-lit : goal.returns-clause-lit
returns-clause-lit c = out_lit (record { start = c.in_ok-start.start; set = c.in_ok-start.set }) c.args.sets.now.entries c.pop_last.new.self.entries c.in_ok-start.ensures.value c.in_ok-start.ensures.updates.0
