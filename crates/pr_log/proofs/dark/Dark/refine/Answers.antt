use Rattle.pr_log.proofs.Lit.{lit_refined}
use Rattle.pr_log.proofs.dark.Dark.refine.Goals as goal

pub returns : goal.returns
returns c = rw (← c.self.view_is) (lit_refined c.args.own c.self.inside.rows.items c.refine_rows.new.rows.items c.args.from.now c.args.to.now c.args.target.now c.self.invariant c.refine_rows.ensures.len c.at.ensures.range.nodes c.in_ok-refine_rows.ensures.each)
