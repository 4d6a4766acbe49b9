use Rattle.std.proofs.Common.{ℕ, [], ◌∷◌, ◌++◌, refl, ◌∙◌, ap, subst, arith}
use Rattle.std.specs.Prelude.{IsTrue, Some}
use Rattle.pr_inval.specs.Standing as session
use Rattle.pr_node.specs.Stored.{means}
use Rattle.pr_story.specs.Clients.{client_vector}
use Rattle.pr_node.specs.Calls.{IsCheckpointed}
use Rattle.pr_sim.specs.Commands.{IsCheckpointMade}
use Rattle.pr_sim.proofs.Faults.{no_memory, not_made, same_journal, stopped_same, stopped_still, this_cause, time_is_worn}
use Rattle.pr_sim.proofs.Step.{is_node_of, never_empty, place_len, some_is, stood}
use Rattle.pr_sim.proofs.OfStreams.{checkpoint_at_source, checkpoint_noted, ends_of, source_ends, session_short}
use Rattle.std.specs.Vec.{with_item}
use Rattle.pr_sim.proofs.engine.Engine.snapshot.Goals as goal

pub returns-in_err-reserve : goal.returns-in_err-reserve
returns-in_err-reserve c d attached h k =
    let f = record c.args.self.now { history = c.reserve.new.self } in
    not_made d attached h (IsCheckpointMade c.args.stream) f _ c.from_residual.result c.from_residual.ensures.1 (no_memory h) (stopped_same d attached h c.args.self.now f k refl c.reserve.ensures.items)

pub returns-in_err-room_for : goal.returns-in_err-room_for
returns-in_err-room_for c d attached h k =
    let f = record c.args.self.now { history = c.reserve.new.self; sent = c.room_for.new.sent } in
    not_made d attached h (IsCheckpointMade c.args.stream) f _ c.from_residual-in_err-room_for.result c.from_residual-in_err-room_for.ensures.1 (no_memory h) (stopped_same d attached h c.args.self.now f k refl c.reserve.ensures.items)

pub unreachable-requires : goal.unreachable-requires
unreachable-requires c =
    let within = (ends_of c.requires.kept.0.plan _ _ c.args.stream c.route-node.result c.requires.kept.3.stands.routes (let lt = c.requires.stream in let l = c.requires.kept.3.stands.many in omega arith) c.route-node.ensures).2 in
    let x = c.requires.kept.3.stands.nodes.each c.route-node.result.source within in
    never_empty _ _ _ x.0 within c.index_mut.ensures.value x.1 c.in_default.is

pub unreachable-requires-in_default-index_mut : goal.unreachable-requires-in_default-index_mut
unreachable-requires-in_default-index_mut c =
    let x = c.requires.kept.3.stands.sessions c.args.stream c.requires.stream in
    never_empty _ _ _ x.0 c.requires.stream c.index_mut-2.ensures.value x.1 c.in_default-index_mut.is

pub returns-in_err-note_checkpoint : goal.returns-in_err-note_checkpoint
returns-in_err-note_checkpoint c d attached h k =
    let within = (ends_of d.plan _ _ c.args.stream c.route-node.result k.stands.routes (let lt = c.requires.stream in let l = k.stands.many in omega arith) c.route-node.ensures).2 in
    let was = stood _ _ _ _ within c.index_mut.ensures.value c.in-Some.is in
    let held = stood _ _ _ _ c.requires.stream c.index_mut-2.ensures.value c.in-Some-index_mut.is in
    let f = record c.args.self.now { nodes = with_item c.args.self.now.nodes c.route-node.result.source (Some c.note_checkpoint.new.self); sessions = with_item c.args.self.now.sessions c.args.stream (Some c.note_checkpoint.new.session); history = c.reserve.new.self; sent = c.room_for.new.sent } in
    let node = is_node_of d.plan h c.args.self.now.nodes.items c.route-node.result.source c.in-Some.at k.stands.nodes within was in
    not_made d attached h (IsCheckpointMade c.args.stream) f _ c.from_residual-in_err-note_checkpoint.result c.from_residual-in_err-note_checkpoint.ensures.1
    (λ fault is. this_cause h c.in_err-note_checkpoint.field-0.0 fault (time_is_worn d.plan h k.stands.valid _ (means c.in-Some.at) (means c.note_checkpoint.new.self) node.journal_is (session.means c.in-Some-index_mut.session).standing.time (session_short d attached h c.args.self.now c.args.stream c.in-Some-index_mut.session k c.requires.stream held) c.in_err-note_checkpoint.field-0.0 c.in_err-note_checkpoint.ensures.fault) is)
    (stopped_still d attached h c.args.self.now f c.route-node.result.source c.in-Some.at c.note_checkpoint.new.self k was
    refl c.reserve.ensures.items
    (same_journal (means c.in-Some.at) (means c.note_checkpoint.new.self) _ c.in_err-note_checkpoint.field-0.0 c.in_err-note_checkpoint.ensures.fault))

pub returns : goal.returns
returns c d attached h k =
    let r = ends_of d.plan _ _ c.args.stream c.route-node.result k.stands.routes (let lt = c.requires.stream in let l = k.stands.many in omega arith) c.route-node.ensures in
    let within = r.2 in
    let was = stood _ _ _ _ within c.index_mut.ensures.value c.in-Some.is in
    let held = stood _ _ _ _ c.requires.stream c.index_mut-2.ensures.value c.in-Some-index_mut.is in
    let n = c.route-node.result.source in
    let f = record c.args.self.now { nodes = with_item c.args.self.now.nodes c.route-node.result.source (Some c.note_checkpoint.new.self); sessions = with_item c.args.self.now.sessions c.args.stream (Some c.note_checkpoint.new.session); history = c.push.new.self; sent = c.note.new.sent } in
    let added = c.in_ok-note_checkpoint.ensures.ok (client_vector h) in
    source_ends d attached h c.args.self.now f k n c.in-Some.at c.note_checkpoint.new.self c.len-place.result
    (record {
      within = within;
      was = was;
      nodes = refl;
      place_is = c.len-place.ensures ∙ place_len c.journal.result.now.items c.in-Some.at.journal.items c.journal.ensures;
      noted = c.push.ensures.items ∙ ap (λ ps. ps ++ (n, c.len-place.result) ∷ []) c.reserve.ensures.items;
    }) 0 c.args.stream c.in-Some-index_mut.session c.note_checkpoint.new.session c.requires.stream held
    (IsCheckpointMade c.args.stream c.in_ok-note_checkpoint.field-0) _ added refl refl refl refl
    (let y = c.requires.attached in subst (λ z. IsTrue z.attached) (some_is y.0 c.in-Some-index_mut.session _ y.1 held) y.2)
    (λ on same q. checkpoint_at_source d.plan h n c.args.stream added.entry r.0 on (subst (λ (t : ℕ). IsCheckpointed t added.entry) same q)) (λ same q. subst (λ (t : ℕ). IsCheckpointed t added.entry) same q)
    c.room_for.new.sent.items c.room_for.ensures.many c.room_for.ensures.items
    (λ same q. checkpoint_noted c.args.stream c.len-place.result added.entry c.room_for.new.sent.items c.note.new.sent.items (subst (λ (t : ℕ). IsCheckpointed t added.entry) same q) c.note.ensures) refl (λ i j are. are)
