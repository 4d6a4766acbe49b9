use Rattle.std.proofs.Common.{◌∙◌, refl, List, reverse}
use Rattle.pr_story.specs.declared.entry.Entry.{Entry}
use Rattle.pr_node.proofs.Adding.{stands, adds}
use Rattle.pr_node.proofs.Quiet.{quiet_tied}
use Rattle.pr_node.proofs.States.{states_are}
use Rattle.pr_node.proofs.node.Node.state.Goals as goal

pub invariant_of-self-2 : goal.invariant_of-self-2
invariant_of-self-2 c =
    stands c.self.inside.id _ _ _ _ _ _ c.self.invariant.0 c.in_ok-time.ensures.items c.in_ok-state.ensures.items
    (quiet_tied c.self.inside.id _ _ _ tt (c.self.invariant.1 c.in_ok-time.ensures.worked))

pub returns-clause-ok : goal.returns-clause-ok
returns-clause-ok c sessions needs =
    let j : List Entry = reverse c.self.inside.diary.entries.items in
    let tied = c.self.invariant.1 c.in_ok-time.ensures.worked in
    rw (← c.self.view_is) (adds _ _ _ _ _ _ _ _ _ sessions needs _ _ _ c.in_ok-time.ensures.items c.in_ok-state.ensures.items refl c.in_ok-state.ensures.spent
    (record {
      in_range = (c.vector.ensures.range, c.cut_at.ensures.range, c.floor-floor.ensures.range, c.in_ok-precise.ensures.range);
      may_come = (
        c.vector.ensures.value ∙ tied.log.vector,
        c.cut_at.ensures.value ∙ tied.log.cut,
        c.floor-floor.ensures.value ∙ tied.marks.floor,
        states_are c.self.inside.id j _ _ tied.gaps c.in_ok-precise.ensures.value c.in_ok-precise.ensures.range,
      );
    })
    c.ranges.caller.fits refl refl c.in_ok-time.ensures.time tt)
