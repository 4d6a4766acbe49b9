use Rattle.std.proofs.Common.{ℕ, Option, arith}
use Rattle.pr_gaps.specs.Ranges.{end_at}
use Rattle.pr_gaps.proofs.Joined.{grown_apart, grown_same, has_left, has_now, min_first, now_apart, now_has, still_apart, on_err, turn_from, turn_to}
use Rattle.pr_gaps.proofs.ranges.Ranges.add.Goals as goal

-- a near range that begins later is taken out
pub loop-start-preserved : goal.loop-start-preserved
loop-start-preserved c =
    let f : ℕ → Option ℕ = end_at c.loop-start.self-inside.ends.entries in
    let g : ℕ → Option ℕ = end_at c.remove.new.self.entries in
    let k = c.loop-start.invariant.apart.some c.in-Some.start c.in-Some.end c.in-Some.ensures.range in
    let m = min_first c.args.lo c.in-Some.start (omega (arith, c.if-start-lo.false)) in
    rw (c.max-last.ensures) (record {
      apart = still_apart f g c.in-Some.start c.remove.ensures.updates.0 c.loop-start.invariant.apart;
      order = omega (arith, k.1.0);
      most = omega (arith, k.1.1);
      same = λ x. (
        (λ h. (c.loop-start.invariant.same x).0 (turn_to f g c.args.lo c.loop-start.last c.in-Some.start c.in-Some.end c.args.lo x m c.in-Some.ensures.range c.remove.ensures.updates.0 c.loop-start.invariant.order k.1.0 c.in-Some.ensures.near.0 c.in-Some.ensures.near.1 h)),
        (λ h. turn_from f g c.args.lo c.loop-start.last c.in-Some.start c.in-Some.end c.args.lo x m c.in-Some.ensures.range c.remove.ensures.updates.0 ((c.loop-start.invariant.same x).1 h)),
      );
      left = λ x has. c.loop-start.invariant.left x (has_left f g c.in-Some.start c.remove.ensures.updates.0 x has);
    })

-- the last near range grows
pub invariant_of-self : goal.invariant_of-self
invariant_of-self c =
    let f : ℕ → Option ℕ = end_at c.loop-start.self-inside.ends.entries in
    grown_apart f (end_at c.set_end.new.ends.entries) c.args.lo c.loop-start.last c.in-Some.start c.in-Some.end c.loop-start.invariant.apart c.in-Some.ensures.range c.in-Some.ensures.last
    (rw (← c.max-last.ensures) c.set_end.ensures) c.if-start-lo.true c.loop-start.invariant.order c.loop-start.invariant.most

pub returns-then-start-lo-clause-ok : goal.returns-then-start-lo-clause-ok
returns-then-start-lo-clause-ok c x =
    let f : ℕ → Option ℕ = end_at c.loop-start.self-inside.ends.entries in
    let same = grown_same f (end_at c.set_end.new.ends.entries) c.args.lo c.loop-start.last c.in-Some.start c.in-Some.end c.loop-start.invariant.apart c.in-Some.ensures.range c.in-Some.ensures.last
    (rw (← c.max-last.ensures) c.set_end.ensures) c.if-start-lo.true c.loop-start.invariant.order c.in-Some.ensures.near.1 x in
    rw (← c.self.view_is) ((λ has. (c.loop-start.invariant.same x).0 (same.0 has)), (λ either. same.1 ((c.loop-start.invariant.same x).1 either)))

-- no range is near
pub invariant_of-self-2 : goal.invariant_of-self-2
invariant_of-self-2 c =
    now_apart (end_at c.loop-start.self-inside.ends.entries) (end_at c.insert.new.self.entries) c.args.lo c.loop-start.last c.in_ok-insert.ensures.updates.0 c.loop-start.invariant.apart c.in_default.ensures.none c.requires.some c.loop-start.invariant.order c.loop-start.invariant.most

pub returns-clause-ok : goal.returns-clause-ok
returns-clause-ok c x =
    let f : ℕ → Option ℕ = end_at c.loop-start.self-inside.ends.entries in
    let h : ℕ → Option ℕ = end_at c.insert.new.self.entries in
    rw (← c.self.view_is) (
      (λ has. (c.loop-start.invariant.same x).0 (now_has f h c.args.lo c.loop-start.last x c.in_ok-insert.ensures.updates.0 has)),
      (λ either. has_now f h c.args.lo c.loop-start.last x c.in_ok-insert.ensures.updates.0 c.loop-start.invariant.apart c.in_default.ensures.none c.loop-start.invariant.order ((c.loop-start.invariant.same x).1 either)),
    )

pub returns-in_err-insert-clause-err : goal.returns-in_err-insert-clause-err
returns-in_err-insert-clause-err c = on_err c.from_residual.result (λ x has. rw (← c.self.view_is) (c.loop-start.invariant.left x (rw (← c.in_err-insert.ensures.err) has)))
