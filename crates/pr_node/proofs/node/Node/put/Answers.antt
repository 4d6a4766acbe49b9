use Rattle.std.proofs.Common.{◌∙◌, sym, refl, ap, subst, rules, List, ℕ, ◌∷◌, reverse}
use Rattle.pr_story.specs.declared.entry.Entry.{Entry}
use Rattle.pr_story.specs.declared.event.Event.TheVariants.{Wrote}
use Rattle.pr_node.specs.Ties.{IsTied}
use Rattle.pr_node.specs.Writes.{IsNextOwn, IsNextStamp}
use Rattle.pr_node.proofs.Adding.{stands, adds}
use Rattle.pr_node.proofs.Ready.{behind_ready, write_ready}
use Rattle.pr_node.proofs.Quiet.{quiet_tied}
use Rattle.pr_node.proofs.node.Node.put.Goals as goal

pub invariant_of-self-then-not-le : goal.invariant_of-self-then-not-le
invariant_of-self-then-not-le c =
    stands c.self.inside.id _ _ _ _ _ _ c.self.invariant.0 c.in_ok-time.ensures.items c.in_ok-behind.ensures.items
    (quiet_tied c.self.inside.id _ _ _ tt (c.self.invariant.1 c.in_ok-time.ensures.worked))

pub returns-then-not-le-clause-ok : goal.returns-then-not-le-clause-ok
returns-then-not-le-clause-ok c sessions =
    let tied = c.self.invariant.1 c.in_ok-time.ensures.worked in
    rw (← c.self.view_is) (adds _ _ _ _ _ _ _ _ _ sessions (λ x. c.args.needs.now) _ _ _ c.in_ok-time.ensures.items c.in_ok-behind.ensures.items refl c.in_ok-behind.ensures.spent
    (behind_ready sessions _ _ _ _ _ _ _ _ c.ranges.client.fits c.at.ensures.range c.vector-vector.ensures.range (c.vector-vector.ensures.value ∙ tied.log.vector) (search rules))
    c.ranges.caller.fits refl refl c.in_ok-time.ensures.time (c.args.needs.now, refl))

pub own_write-requires-clause-next : goal.own_write-requires-clause-next
own_write-requires-clause-next c =
    let tied = c.self.invariant.1 c.in_ok-time.ensures.worked in
    subst (λ (n : ℕ). IsNextStamp n c.self.inside.stores.log.vector c.in-Some.stamp) (sym tied.log.own) c.in-Some.ensures.some

pub invariant_of-self-2 : goal.invariant_of-self-2
invariant_of-self-2 c =
    let j : List Entry = reverse c.self.inside.diary.entries.items in
    let tied = c.self.invariant.1 c.in_ok-time.ensures.worked in
    let node = c.in-Some.ensures.some.node in
    stands c.self.inside.id _ _ _ _ _ _ c.self.invariant.0 c.in_ok-time.ensures.items c.wrote.ensures.items
    (subst (λ (n : ℕ). IsTied n ((record { time = c.in_ok-time.time; caller = c.args.caller; event = Wrote c.args.client c.in_ok-write.write c.in_ok-body.body c.in_ok-after.after }) ∷ j) c.own_write.new.stores) node
    (subst (λ (b : List ℕ). IsTied c.in-Some.stamp.node (record { time = c.in_ok-time.time; caller = c.args.caller; event = Wrote c.args.client c.in_ok-write.write b c.in_ok-after.after } ∷ j) c.own_write.new.stores) c.as_slice.ensures
    (c.in_ok-write.ensures.tied j c.in_ok-time.time c.args.caller c.args.client c.in_ok-after.after (subst (λ (n : ℕ). IsTied n j c.self.inside.stores) (sym node) tied))))

pub returns-clause-ok : goal.returns-clause-ok
returns-clause-ok c sessions =
    let j : List Entry = reverse c.self.inside.diary.entries.items in
    let tied = c.self.invariant.1 c.in_ok-time.ensures.worked in
    let node = c.in-Some.ensures.some.node in
    let own : IsNextOwn c.self.inside.id j c.args.name.now c.args.gone c.in_ok-write.write =
    subst (λ (n : ℕ). IsNextOwn n j c.args.name.now c.args.gone c.in_ok-write.write) node (c.in_ok-write.ensures.own j (subst (λ (n : ℕ). IsTied n j c.self.inside.stores) (sym node) tied)) in
    rw (← c.self.view_is) (adds _ _ _ _ _ _ _ _ _ sessions (λ x. c.args.needs.now) _ _ _ c.in_ok-time.ensures.items c.wrote.ensures.items c.in_ok-write.ensures.sets c.wrote.ensures.spent
    (write_ready sessions _ _ _ _ _ _ _ _ _ _ _ _ _ own c.ranges.client.fits c.bytes_in_range.ensures c.requires.short c.requires.gone c.in_ok-body.ensures (rw c.in_ok-after.ensures c.vector.ensures.range) (c.in_ok-after.ensures ∙ c.vector.ensures.value ∙ tied.log.vector) (search rules))
    c.ranges.caller.fits refl refl c.in_ok-time.ensures.time (c.in_ok-write.write, c.in_ok-after.after, ap (λ (b : List ℕ). Wrote c.args.client c.in_ok-write.write b c.in_ok-after.after) c.in_ok-body.ensures, own.is_name, refl, own.is_gone))
