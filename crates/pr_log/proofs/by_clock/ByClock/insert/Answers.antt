use Rattle.std.proofs.Common.{◌<◌, ℕ, ap, get_or, length, subst, sym, arith}
use Rattle.std.specs.Prelude.{zip}
use Rattle.std.proofs.lemmas.List.{length_push}
use Rattle.std.proofs.lemmas.List.Quantifiers.{all_pairs_push}
use Rattle.pr_log.specs.Entries.{Rise}
use Rattle.pr_log.proofs.Ordered.{count_inserted, count_pushed, inserted, inserted_back, pushed, pushed_back, zip_pushed}
use Rattle.pr_log.proofs.by_clock.ByClock.insert.Goals as goal

pub invariant_of-self : goal.invariant_of-self
invariant_of-self c = (
  subst Rise (sym c.in_ok-push_both.ensures.clocks) (
      all_pairs_push (λ (a : ℕ) (b : ℕ). a < b) c.self.inside.clocks.items c.args.clock c.self.invariant.0
      (subst (λ l. (k d : ℕ) → k < length l → get_or l k d < c.args.clock) c.deref.ensures.value (c.is_past.ensures c.if-is_past.true))),
  omega (
    arith,
    ap length c.in_ok-push_both.ensures.clocks,
    ap length c.in_ok-push_both.ensures.items,
    length_push c.self.inside.clocks.items c.args.clock,
    length_push c.self.inside.writes.items c.args.write.now,
    c.self.invariant.1,
  ),
)

pub returns-in_ok-push_both-clause-ok : goal.returns-in_ok-push_both-clause-ok
returns-in_ok-push_both-clause-ok c k =
    rw (← c.self.view_is) (
    pushed (zip c.self.inside.clocks.items c.self.inside.writes.items) (zip c.push_both.new.clocks.items c.push_both.new.items.items) c.self.inside.late.entries c.args.clock k c.args.write.now (rw c.self.view_is c.requires)
    (zip_pushed _ _ _ _ c.args.clock c.args.write.now c.self.invariant.1 c.in_ok-push_both.ensures.clocks c.in_ok-push_both.ensures.items))

pub returns-in_ok-push_both-clause-few : goal.returns-in_ok-push_both-clause-few
returns-in_ok-push_both-clause-few c k =
    rw (← c.self.view_is) (
    count_pushed (zip c.self.inside.clocks.items c.self.inside.writes.items) (zip c.push_both.new.clocks.items c.push_both.new.items.items) c.self.inside.late.entries c.args.clock k c.args.write.now
    (zip_pushed _ _ _ _ c.args.clock c.args.write.now c.self.invariant.1 c.in_ok-push_both.ensures.clocks c.in_ok-push_both.ensures.items))

pub returns-in_ok-push_both-clause-back : goal.returns-in_ok-push_both-clause-back
returns-in_ok-push_both-clause-back c =
    rw (← c.self.view_is) (
    pushed_back (zip c.self.inside.clocks.items c.self.inside.writes.items) (zip c.push_both.new.clocks.items c.push_both.new.items.items) c.self.inside.late.entries c.args.clock c.args.write.now (rw c.self.view_is c.requires)
    (zip_pushed _ _ _ _ c.args.clock c.args.write.now c.self.invariant.1 c.in_ok-push_both.ensures.clocks c.in_ok-push_both.ensures.items))

pub returns-in_ok-put_late-clause-ok : goal.returns-in_ok-put_late-clause-ok
returns-in_ok-put_late-clause-ok c k = rw (← c.self.view_is) (inserted (zip c.self.inside.clocks.items c.self.inside.writes.items) c.self.inside.late.entries c.put_late.new.late.entries c.args.clock k c.args.write.now (rw c.self.view_is c.requires) (c.in_ok-put_late.ensures.at k))

pub returns-in_ok-put_late-clause-few : goal.returns-in_ok-put_late-clause-few
returns-in_ok-put_late-clause-few c k = rw (← c.self.view_is) (count_inserted (zip c.self.inside.clocks.items c.self.inside.writes.items) c.self.inside.late.entries c.put_late.new.late.entries c.args.clock k c.args.write.now c.in_ok-put_late.ensures.ok)

pub returns-in_ok-put_late-clause-back : goal.returns-in_ok-put_late-clause-back
returns-in_ok-put_late-clause-back c = rw (← c.self.view_is) (inserted_back (zip c.self.inside.clocks.items c.self.inside.writes.items) c.self.inside.late.entries c.put_late.new.late.entries c.args.clock c.args.write.now (rw c.self.view_is c.requires) c.in_ok-put_late.ensures.ok)
