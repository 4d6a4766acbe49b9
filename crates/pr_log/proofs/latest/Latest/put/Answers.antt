use Rattle.std.proofs.Common.{rules, ◌≡◌}
use Rattle.pr_log.specs.Latest.{clock_by, later_of}
use Rattle.pr_log.proofs.LastClocks.{raised}
use Rattle.pr_log.proofs.latest.Latest.put.Goals as goal

pub returns-clause-ok : goal.returns-clause-ok
returns-clause-ok c o =
    let now : c.max.result ≡ later_of (clock_by c.self.inside.clocks.entries c.args.name.now) c.args.clock = raised _ _ c.max.result c.args.clock (search rules) c.max.ensures in
    rw (← c.self.view_is, ← now) (search (rules, (c.in_ok-self-inside.ensures.update.0 c.max.result).0 o))
