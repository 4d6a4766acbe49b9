use Rattle.std.proofs.Common.{sym, refl, ap, List, reverse}
use Rattle.pr_story.specs.declared.entry.Entry.{Entry}
use Rattle.pr_story.specs.declared.event.Event.TheVariants.{Conflicts}
use Rattle.pr_story.specs.declared.found.Found.{Found}
use Rattle.pr_node.proofs.Adding.{stands, adds}
use Rattle.pr_node.proofs.Quiet.{quiet_tied}
use Rattle.pr_node.proofs.node.Node.conflicts.Goals as goal

pub invariant_of-self-2 : goal.invariant_of-self-2
invariant_of-self-2 c =
    stands c.self.inside.id _ _ _ _ _ _ c.self.invariant.0 c.in_ok-time.ensures.items c.finish.ensures.items
    (quiet_tied c.self.inside.id _ _ _ tt (c.self.invariant.1 c.in_ok-time.ensures.worked))

pub returns-clause-ok : goal.returns-clause-ok
returns-clause-ok c sessions needs =
    let j : List Entry = reverse c.self.inside.diary.entries.items in
    let tied = c.self.invariant.1 c.in_ok-time.ensures.worked in
    rw (← c.self.view_is) (adds _ _ _ _ _ _ _ _ _ sessions needs _ _ _ c.in_ok-time.ensures.items c.finish.ensures.items refl c.finish.ensures.spent
    (record { in_range = (c.bytes.ensures.name, c.in_ok-found.ensures.range c.self.inside.id j tied); may_come = c.in_ok-found.ensures.value c.self.inside.id j tied })
    c.ranges.caller.fits refl refl c.in_ok-time.ensures.time (ap (λ (f : Found). Conflicts c.args.name.now f) (sym c.in_ok-answered.ensures)))
