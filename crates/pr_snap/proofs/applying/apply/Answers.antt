use Rattle.std.proofs.Common.{subst}
use Rattle.pr_gaps.specs.Gaps.{IsCovered}
use Rattle.pr_snap.proofs.Targets.{zero_le}
use Rattle.pr_snap.proofs.Turns.{is_applied}
use Rattle.pr_snap.proofs.applying.apply.Goals as goal

pub cover-requires-clause-span : goal.cover-requires-clause-span
cover-requires-clause-span c = rw c.zero-from.ensures (zero_le c.args.to.now)

pub cover-requires-clause-from : goal.cover-requires-clause-from
cover-requires-clause-from c = rw c.zero-from.ensures (zero_le c.args.gaps.now.vector)

pub returns-clause-ok : goal.returns-clause-ok
returns-clause-ok c = is_applied _ _ _ c.add_rows.new.marks _ _ _ _ _ (subst (λ v. IsCovered c.args.gaps.now c.cover.new.self v c.args.to.now c.args.target.now) c.zero-from.ensures c.in_ok-cover.ensures.ok) c.in_ok-add_rows.ensures.taken c.forget.ensures.forgotten
