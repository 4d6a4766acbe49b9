use Rattle.std.proofs.Common.{◌≡◌, ◌<◌, List, sym, subst, length, get_or}
use Rattle.std.specs.Prelude.{None, Option}
use Rattle.std.specs.Borrow.{Bor}
use Rattle.pr_stamps.specs.Kept.{Kept}
use Rattle.pr_node.specs.Stored.{Stored}
use Rattle.pr_story.specs.declared.entry.Entry.{Entry}
use Rattle.pr_sim.proofs.Telling.{journal_told}
use Rattle.pr_sim.proofs.engine.Engine.journal.Goals as goal

pub returns-in-Some : goal.returns-in-Some
returns-in-Some c d h tells =
    let e = c.args.self.now in
    let found = c.in-Some.ensures.lookup.3 in
    let is : get_or e.nodes.items c.args.node None ≡ c.in-Some.slot.now =
    sym (subst (λ (xs : List (Option Stored)). c.in-Some.slot.now ≡ get_or xs c.args.node None) c.deref.ensures.value (found.1 None)) in
    let known : c.args.node < length e.nodes.items = subst (λ (xs : List (Option Stored)). c.args.node < length xs) c.deref.ensures.value found.0 in
    journal_told d h e tells {J = Bor (Kept Entry)} (λ j. j.now.items) c.args.node c.in-Some.slot.now c.journal_of.result is known c.journal_of.ensures
