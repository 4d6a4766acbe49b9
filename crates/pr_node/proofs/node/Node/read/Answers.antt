use Rattle.std.proofs.Common.{◌∙◌, sym, refl, ap, rules, List, reverse}
use Rattle.pr_story.specs.declared.entry.Entry.{Entry}
use Rattle.pr_story.specs.declared.event.Event.TheVariants.{Answered}
use Rattle.pr_story.specs.declared.reply.Reply.{Reply}
use Rattle.pr_node.proofs.Adding.{stands, adds}
use Rattle.pr_node.proofs.Quiet.{quiet_tied}
use Rattle.pr_node.proofs.Ready.{answered_ready, behind_ready}
use Rattle.pr_node.proofs.node.Node.read.Goals as goal

pub invariant_of-self-then-not-le : goal.invariant_of-self-then-not-le
invariant_of-self-then-not-le c =
    stands c.self.inside.id _ _ _ _ _ _ c.self.invariant.0 c.in_ok-time.ensures.items c.in_ok-behind.ensures.items
    (quiet_tied c.self.inside.id _ _ _ tt (c.self.invariant.1 c.in_ok-time.ensures.worked))

pub returns-then-not-le-clause-ok : goal.returns-then-not-le-clause-ok
returns-then-not-le-clause-ok c sessions =
    let tied = c.self.invariant.1 c.in_ok-time.ensures.worked in
    rw (← c.self.view_is) (adds _ _ _ _ _ _ _ _ _ sessions (λ x. c.args.needs.now) _ _ _ c.in_ok-time.ensures.items c.in_ok-behind.ensures.items refl c.in_ok-behind.ensures.spent
    (behind_ready sessions _ _ _ _ _ _ _ _ c.ranges.client.fits c.at.ensures.range c.vector-has.ensures.range (c.vector-has.ensures.value ∙ tied.log.vector) (search rules))
    c.ranges.caller.fits refl refl c.in_ok-time.ensures.time (c.args.needs.now, refl))

pub invariant_of-self-2 : goal.invariant_of-self-2
invariant_of-self-2 c =
    stands c.self.inside.id _ _ _ _ _ _ c.self.invariant.0 c.in_ok-time.ensures.items c.in_ok-answered-2.ensures.items
    (quiet_tied c.self.inside.id _ _ _ tt (c.self.invariant.1 c.in_ok-time.ensures.worked))

pub returns-clause-ok : goal.returns-clause-ok
returns-clause-ok c sessions =
    let j : List Entry = reverse c.self.inside.diary.entries.items in
    let tied = c.self.invariant.1 c.in_ok-time.ensures.worked in
    rw (← c.self.view_is) (adds _ _ _ _ _ _ _ _ _ sessions (λ x. c.args.needs.now) _ _ _ c.in_ok-time.ensures.items c.in_ok-answered-2.ensures.items refl c.in_ok-answered-2.ensures.spent
    (answered_ready sessions _ _ _ _ _ _ _ _ _ _ _ c.ranges.client.fits c.bytes.ensures.name c.in_ok-answered.ensures.1 c.answer.ensures.range c.vector-at.ensures.range (c.vector-at.ensures.value ∙ tied.log.vector) (search rules) (c.answer.ensures.value c.self.inside.id j tied))
    c.ranges.caller.fits refl refl c.in_ok-time.ensures.time (c.vector-at.result.now, ap (λ (r : Reply). Answered c.args.client c.args.name.now r c.vector-at.result.now) (c.in_ok-answered.ensures.1 ∙ sym c.in_ok-answered.ensures.0)))
