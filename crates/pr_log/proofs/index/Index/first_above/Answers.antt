use Rattle.std.proofs.Common.{arith, []}
use Rattle.std.specs.Prelude.{option_copied}
use Rattle.pr_log.proofs.Places.{at_place}
use Rattle.pr_log.proofs.Stamped.{first_is}
use Rattle.pr_log.proofs.index.Index.first_above.Goals as goal

pub returns : goal.returns
returns c = rw (← c.self.view_is) (first_is c.self.inside.rows.items c.args.writer c.args.clock c.index.result.now (option_copied c.first_above.result) c.self.invariant.1 (at_place c.self.inside.rows.items c.args.writer c.index.result.now [] c.index.ensures (omega (arith, c.self.invariant.0, c.requires))) c.first_above.ensures)
