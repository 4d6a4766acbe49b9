use Rattle.std.proofs.Common.{sym}
use Rattle.pr_top.proofs.FrontBytes.{cut_none, cut_some}
use Rattle.pr_top.proofs.fronts.cut.Goals as goal

pub returns-in-Some : goal.returns-in-Some
returns-in-Some c = cut_some c.args.piece.now c.in-Some.at (sym c.in-Some.ensures.place)

pub returns-in-None : goal.returns-in-None
returns-in-None c = cut_none c.args.piece.now (sym c.in-None.ensures.place)
