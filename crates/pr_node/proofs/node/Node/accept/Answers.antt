use Rattle.std.proofs.Common.{◌∙◌, ap, sym, refl, rules, ℕ, List, [], reverse}
use Rattle.pr_story.specs.declared.entry.Entry.{Entry}
use Rattle.pr_story.specs.declared.event.Event.TheVariants.{Gapped}
use Rattle.pr_node.proofs.Adding.{stands, still_stands, adds}
use Rattle.pr_node.proofs.Quiet.{quiet_tied}
use Rattle.pr_node.proofs.Receiving.{gapped_ready, accepted_ready}
use Rattle.pr_node.proofs.node.Node.accept.Goals as goal

pub invariant_of-self : goal.invariant_of-self
invariant_of-self c = still_stands _ _ _ _ _ _ c.self.invariant c.begin.ensures.items c.begin.ensures.stays

pub invariant_of-self-in-Some : goal.invariant_of-self-in-Some
invariant_of-self-in-Some c =
    stands c.self.inside.id _ _ _ _ _ _ c.self.invariant.0 c.in_ok-time.ensures.items c.in_ok-gapped.ensures.items
    (quiet_tied c.self.inside.id _ _ _ tt (c.self.invariant.1 c.in_ok-time.ensures.worked))

pub returns-in-Some-clause-ok : goal.returns-in-Some-clause-ok
returns-in-Some-clause-ok c sessions needs =
    let tied = c.self.invariant.1 c.in_ok-time.ensures.worked in
    rw (← c.self.view_is) (adds _ _ _ _ _ _ _ _ _ sessions needs _ _ _ c.in_ok-time.ensures.items c.in_ok-gapped.ensures.items refl c.in_ok-gapped.ensures.spent
    (gapped_ready sessions needs _ _ _ _ _ _ _ c.in-Some.needs.now c.msg_in_range.ensures c.vector-has.ensures.range (c.vector-has.ensures.value ∙ tied.log.vector) c.in-Some.ensures)
    c.ranges.caller.fits refl refl c.in_ok-time.ensures.time (ap (λ (v : List ℕ). Gapped c.args.msg v) (sym c.in_ok-had.ensures), c.in_ok-needs.ensures ∙ c.in-Some.ensures.0, refl))

pub invariant_of-self-2 : goal.invariant_of-self-2
invariant_of-self-2 c =
    let j : List Entry = reverse c.self.inside.diary.entries.items in
    let tied = c.self.invariant.1 c.in_ok-time.ensures.worked in
    stands c.self.inside.id _ _ _ _ _ _ c.self.invariant.0 c.in_ok-time.ensures.items c.in_ok-accepted.ensures.items
    (c.in_ok-take.ensures.taken c.self.inside.id j c.in_ok-time.time c.args.caller c.args.msg c.vector-at.result.now refl tied)

pub returns-clause-ok : goal.returns-clause-ok
returns-clause-ok c sessions needs =
    let j : List Entry = reverse c.self.inside.diary.entries.items in
    let tied = c.self.invariant.1 c.in_ok-time.ensures.worked in
    let now = c.in_ok-take.ensures.taken c.self.inside.id j c.in_ok-time.time c.args.caller c.args.msg [] refl tied in
    rw (← c.self.view_is) (adds _ _ _ _ _ _ _ _ _ sessions needs _ _ _ c.in_ok-time.ensures.items c.in_ok-accepted.ensures.items c.in_ok-take.ensures.sets c.in_ok-accepted.ensures.spent
    (accepted_ready sessions needs _ _ _ _ _ _ c.vector-has.result.now _ c.msg_in_range.ensures c.vector-at.ensures.range (c.vector-has.ensures.value ∙ tied.log.vector) (search rules) (c.vector-at.ensures.value ∙ now.log.vector))
    c.ranges.caller.fits refl refl c.in_ok-time.ensures.time ((c.vector-at.result.now, refl), refl))
