use Rattle.std.proofs.Common.{◌<◌, [], ◌∷◌, ◌++◌, refl, sym, ◌∙◌, ap, subst, length, set, List, ℕ}
use Rattle.std.specs.Prelude.{true, Some}
use Rattle.std.specs.Vec.{with_item}
use Rattle.pr_vectors.specs.Vector.{zero_vector}
use Rattle.pr_node.specs.Calls.{seen_after_done}
use Rattle.pr_node.specs.Stored.{means}
use Rattle.pr_story.specs.Commands.{ToWrite}
use Rattle.pr_story.specs.History.{current_vector, journal}
use Rattle.pr_story.specs.Turns.{standing}
use Rattle.pr_sim.specs.Commands.{GivesIt}
use Rattle.pr_node.proofs.OfClients.{done_is, done_seen}
use Rattle.pr_sim.proofs.Ending.{client_ends}
use Rattle.pr_sim.proofs.Faults.{no_memory, not_made, same_journal, stopped_same, stopped_still, this_cause, write_is_worn}
use Rattle.pr_sim.proofs.Step.{is_node_of, never_empty, place_len, stood}
use Rattle.pr_sim.proofs.engine.Engine.delete.Goals as goal

pub returns-in_err-reserve : goal.returns-in_err-reserve
returns-in_err-reserve c d attached h k =
    let f = record c.args.self.now { history = c.reserve.new.self } in
    not_made d attached h (GivesIt (ToWrite c.args.client c.args.name.now [] true)) f _ c.from_residual.result c.from_residual.ensures.1 (no_memory h) (stopped_same d attached h c.args.self.now f k refl c.reserve.ensures.items)

pub unreachable-requires : goal.unreachable-requires
unreachable-requires c =
    let within = subst (λ i. i < length c.args.self.now.nodes.items) (sym c.number-node.ensures) (c.requires.kept.3.stands.clients.at c.args.client c.requires.client) in
    let x = c.requires.kept.3.stands.nodes.each c.number-node.result within in
    never_empty _ _ _ x.0 within c.index_mut.ensures.value x.1 c.in_default.is

pub returns-in_err-done : goal.returns-in_err-done
returns-in_err-done c d attached h k =
    let within = subst (λ i. i < length c.args.self.now.nodes.items) (sym c.number-node.ensures) (k.stands.clients.at c.args.client c.requires.client) in
    let was = stood _ _ _ _ within c.index_mut.ensures.value c.in-Some.is in
    let f = record c.args.self.now { nodes = with_item c.args.self.now.nodes c.number-node.result (Some c.delete.new.self); history = c.reserve.new.self } in
    let node = is_node_of d.plan h c.args.self.now.nodes.items c.number-node.result c.in-Some.at k.stands.nodes within was in
    not_made d attached h (GivesIt (ToWrite c.args.client c.args.name.now [] true)) f _ c.from_residual-in_err-done.result c.from_residual-in_err-done.ensures.1
    (λ fault is. this_cause h c.in_err-done.field-0.0 fault (write_is_worn d.plan h k.stands.valid _ (means c.in-Some.at) (means c.delete.new.self) node.journal_is c.vector-seen.result.now c.in_err-done.field-0.0 c.in_err-done.ensures.fault) is)
    (stopped_still d attached h c.args.self.now f c.number-node.result c.in-Some.at c.delete.new.self k was
    refl c.reserve.ensures.items
    (same_journal (means c.in-Some.at) (means c.delete.new.self) _ c.in_err-done.field-0.0 c.in_err-done.ensures.fault))

pub returns : goal.returns
returns c d attached h k =
    let within = subst (λ i. i < length c.args.self.now.nodes.items) (sym c.number-node.ensures) (k.stands.clients.at c.args.client c.requires.client) in
    let was = stood _ _ _ _ within c.index_mut.ensures.value c.in-Some.is in
    let n = c.number-node.result in
    let needs = c.vector-seen.result.now in
    let seen = seen_after_done c.in_ok-done.done needs c.vector.result in
    let f = record c.args.self.now { nodes = with_item c.args.self.now.nodes c.number-node.result (Some c.delete.new.self); history = c.push.new.self; seen = c.note_done.new.seen } in
    client_ends d attached h c.args.self.now f k n c.in-Some.at c.delete.new.self c.len-place.result
    (record {
      within = within;
      was = was;
      nodes = refl;
      place_is = c.len-place.ensures ∙ place_len c.journal.result.now.items c.in-Some.at.journal.items c.journal.ensures;
      noted = c.push.ensures.items ∙ ap (λ ps. ps ++ (n, c.len-place.result) ∷ []) c.reserve.ensures.items;
    }) 0
    (ToWrite c.args.client c.args.name.now [] true) c.args.client seen needs _ refl refl refl refl refl (c.note_done.ensures zero_vector ∙ sym (ap (λ (v : List ℕ). set c.args.self.now.seen.items c.args.client (seen_after_done c.in_ok-done.done v c.vector.result)) (c.vector-seen.ensures zero_vector))) c.requires.client c.number-node.ensures (c.vector-seen.ensures zero_vector) c.in_ok-done.ensures.ok
    (λ entry is. done_is c.args.client c.args.name.now [] true n c.in_ok-done.done entry is)
    (λ entry is own follows. done_seen (standing d.plan h) d.plan n (journal h n) needs c.vector.result c.args.client c.args.name.now [] true c.in_ok-done.done entry is own (c.vector.ensures.value (c.in_ok-done.ensures.ok (standing d.plan h)).works ∙ ap (λ j. current_vector j) follows))
