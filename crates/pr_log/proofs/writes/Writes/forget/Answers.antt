use Rattle.pr_log.proofs.LastClocks.{up_to_forgot}
use Rattle.pr_log.proofs.writes.Writes.forget.Goals as goal

pub invariant_of-self : goal.invariant_of-self
invariant_of-self c = (up_to_forgot c.args.clock c.self.inside.last c.self.inside.by_clock c.forget.new.self c.self.invariant.0 c.forget.ensures, tt)
