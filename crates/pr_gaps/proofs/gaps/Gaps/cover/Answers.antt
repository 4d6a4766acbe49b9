use Rattle.std.proofs.Common.{refl}
use Rattle.pr_gaps.proofs.Sets.{is_covered}
use Rattle.pr_gaps.proofs.gaps.Gaps.cover.Goals as goal

pub returns-clause-ok : goal.returns-clause-ok
returns-clause-ok c = rw (← c.self.view_is) (is_covered _ _ c.args.from.now c.args.to.now c.args.target.now refl refl c.join_in.ensures c.self.invariant.2 (rw (← c.as_slice.ensures) c.in_ok-cover_rows.ensures.told) c.self.invariant.1)
