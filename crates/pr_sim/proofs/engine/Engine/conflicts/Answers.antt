use Rattle.std.proofs.Common.{[], ◌∷◌, ◌++◌, refl, ◌∙◌, ap, arith}
use Rattle.pr_node.specs.Stored.{means}
use Rattle.pr_story.specs.declared.event.Event.TheVariants.{Conflicts}
use Rattle.pr_story.specs.Commands.{ToFindConflicts}
use Rattle.pr_sim.specs.Commands.{GivesIt}
use Rattle.pr_sim.proofs.Ending.{quiet_ends}
use Rattle.pr_sim.proofs.Faults.{no_memory, not_made, same_journal, stopped_same, stopped_still, this_cause, time_is_worn}
use Rattle.pr_sim.proofs.Step.{is_node_of, never_empty, place_len, stood}
use Rattle.std.specs.Vec.{with_item}
use Rattle.std.specs.Prelude.{Some}
use Rattle.pr_sim.proofs.engine.Engine.conflicts.Goals as goal

pub returns-in_err-reserve : goal.returns-in_err-reserve
returns-in_err-reserve c d attached h k =
    let f = record c.args.self.now { history = c.reserve.new.self } in
    not_made d attached h (GivesIt (ToFindConflicts c.args.node c.args.name.now)) f _ c.from_residual.result c.from_residual.ensures.1 (no_memory h) (stopped_same d attached h c.args.self.now f k refl c.reserve.ensures.items)

pub unreachable-requires : goal.unreachable-requires
unreachable-requires c =
    let within = c.requires.known in
    let x = c.requires.kept.3.stands.nodes.each c.args.node within in
    never_empty _ _ _ x.0 within c.index_mut.ensures.value x.1 c.in_default.is

pub returns-in_err-conflicts : goal.returns-in_err-conflicts
returns-in_err-conflicts c d attached h k =
    let was = stood _ _ _ _ c.requires.known c.index_mut.ensures.value c.in-Some.is in
    let f = record c.args.self.now { nodes = with_item c.args.self.now.nodes c.args.node (Some c.conflicts.new.self); history = c.reserve.new.self } in
    let node = is_node_of d.plan h c.args.self.now.nodes.items c.args.node c.in-Some.at k.stands.nodes c.requires.known was in
    not_made d attached h (GivesIt (ToFindConflicts c.args.node c.args.name.now)) f _ c.from_residual-in_err-conflicts.result c.from_residual-in_err-conflicts.ensures.1
    (λ fault is. this_cause h c.in_err-conflicts.field-0.0 fault (time_is_worn d.plan h k.stands.valid _ (means c.in-Some.at) (means c.conflicts.new.self) node.journal_is (0) (omega arith) c.in_err-conflicts.field-0.0 c.in_err-conflicts.ensures.fault) is)
    (stopped_still d attached h c.args.self.now f c.args.node c.in-Some.at c.conflicts.new.self k was
    refl c.reserve.ensures.items
    (same_journal (means c.in-Some.at) (means c.conflicts.new.self) _ c.in_err-conflicts.field-0.0 c.in_err-conflicts.ensures.fault))

pub returns : goal.returns
returns c d attached h k =
    let was = stood _ _ _ _ c.requires.known c.index_mut.ensures.value c.in-Some.is in
    let f = record c.args.self.now { nodes = with_item c.args.self.now.nodes c.args.node (Some c.conflicts.new.self); history = c.push.new.self } in
    quiet_ends d attached h c.args.self.now f k c.args.node c.in-Some.at c.conflicts.new.self c.len-place.result
    (record {
      within = c.requires.known;
      was = was;
      nodes = refl;
      place_is = c.len-place.ensures ∙ place_len c.journal.result.now.items c.in-Some.at.journal.items c.journal.ensures;
      noted = c.push.ensures.items ∙ ap (λ ps. ps ++ (c.args.node, c.len-place.result) ∷ []) c.reserve.ensures.items;
    }) 0
    (record { sessions = refl; routes = refl; sent = refl; scans = refl; homes = refl; seen = refl }) (ToFindConflicts c.args.node c.args.name.now) (Conflicts c.args.name.now c.in_ok-conflicts.field-0) _ c.in_ok-conflicts.ensures.ok (λ entry is. is)
    (λ s. refl) (λ s. refl) tt tt (refl, refl)
