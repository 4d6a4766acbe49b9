use Rattle.std.proofs.Common.{refl}
use Rattle.pr_gaps.proofs.Least.{is_own_told}
use Rattle.pr_gaps.proofs.gaps.Gaps.own.Goals as goal

pub returns-clause-told : goal.returns-clause-told
returns-clause-told c = rw (← c.self.view_is) (is_own_told _ _ c.args.clock refl refl refl c.raise.ensures)
