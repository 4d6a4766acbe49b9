use Rattle.std.proofs.Common.{ℕ, List, [], ◌∷◌, ◌++◌, get_or, refl, sym, ◌∙◌, ap, subst, arith}
use Rattle.std.specs.Prelude.{IsTrue, Some}
use Rattle.pr_inval.specs.Standing as session
use Rattle.std.specs.Vec.{with_item}
use Rattle.std.proofs.lemmas.List.{length-set}
use Rattle.pr_node.specs.Scanning.{IsScanOf, Scanned}
use Rattle.pr_node.specs.Stored.{means}
use Rattle.pr_story.specs.declared.entry.Entry.{Entry}
use Rattle.pr_story.specs.History.{NodeEntry, journal}
use Rattle.pr_story.specs.Turns.{standing}
use Rattle.pr_sim.proofs.Scans.{scan_of_session, scan_of_stream, scans_put}
use Rattle.pr_story.specs.Clients.{client_vector}
use Rattle.pr_node.specs.Calls.{IsTurned}
use Rattle.pr_sim.specs.Commands.{IsTurnMade}
use Rattle.pr_sim.proofs.Faults.{no_memory, not_made, same_journal, stopped_same, stopped_still, this_cause, time_is_worn}
use Rattle.pr_sim.proofs.Step.{is_node_of, never_empty, place_len, some_is, stood}
use Rattle.pr_sim.proofs.OfStreams.{ends_of, session_of, source_ends, turn_at_source, session_short}
use Rattle.pr_sim.proofs.engine.Engine.turn.Goals as goal

pub returns-in_err-reserve : goal.returns-in_err-reserve
returns-in_err-reserve c d attached h k =
    let f = record c.args.self.now { history = c.reserve.new.self } in
    not_made d attached h (IsTurnMade c.args.stream) f _ c.from_residual.result c.from_residual.ensures.1 (no_memory h) (stopped_same d attached h c.args.self.now f k refl c.reserve.ensures.items)

pub returns-in_err-room_for : goal.returns-in_err-room_for
returns-in_err-room_for c d attached h k =
    let f = record c.args.self.now { history = c.reserve.new.self; sent = c.room_for.new.sent } in
    not_made d attached h (IsTurnMade c.args.stream) f _ c.from_residual-in_err-room_for.result c.from_residual-in_err-room_for.ensures.1 (no_memory h) (stopped_same d attached h c.args.self.now f k refl c.reserve.ensures.items)

pub unreachable-requires : goal.unreachable-requires
unreachable-requires c =
    let within = (ends_of c.requires.kept.0.plan _ _ c.args.stream c.route-node.result c.requires.kept.3.stands.routes (let lt = c.requires.stream in let l = c.requires.kept.3.stands.many in omega arith) c.route-node.ensures).2 in
    let x = c.requires.kept.3.stands.nodes.each c.route-node.result.source within in
    never_empty _ _ _ x.0 within c.index_mut.ensures.value x.1 c.in_default.is

pub unreachable-requires-in_default-index_mut : goal.unreachable-requires-in_default-index_mut
unreachable-requires-in_default-index_mut c =
    let x = c.requires.kept.3.stands.sessions c.args.stream c.requires.stream in
    never_empty _ _ _ x.0 c.requires.stream c.index_mut-2.ensures.value x.1 c.in_default-index_mut.is

pub note_turn-requires-clause-scan : goal.note_turn-requires-clause-scan
note_turn-requires-clause-scan c =
    let plan = c.requires.kept.0.plan in
    let h = c.requires.kept.2 in
    let k = c.requires.kept.3.stands in
    let r = ends_of plan _ _ c.args.stream c.route-node.result k.routes (let lt = c.requires.stream in let l = k.many in omega arith) c.route-node.ensures in
    let within = r.2 in
    let was = stood _ _ _ _ within c.index_mut.ensures.value c.in-Some.is in
    let held = stood _ _ _ _ c.requires.stream c.index_mut-2.ensures.value c.in-Some-index_mut.is in
    let st = (session.means c.in-Some-index_mut.session).standing in
    let i = session_of plan h c.args.self.now.sessions.items c.args.stream c.in-Some-index_mut.session k.sessions c.requires.stream held in
    let node = is_node_of plan h c.args.self.now.nodes.items c.route-node.result.source c.in-Some.at k.nodes within was in
    subst (λ (x : Scanned). IsScanOf x st (means c.in-Some.at).journal) (sym c.index_mut-scan.ensures.value)
    (scan_of_session plan h c.args.stream st _ (means c.in-Some.at).journal i.stands
    (subst (λ (l : List Entry). IsScanOf (get_or c.args.self.now.scans.items c.args.stream c.index_mut-scan.result.now) (standing plan h c.args.stream) l) (sym (node.journal_is ∙ ap (λ (t : ℕ). journal h t) r.0))
    (k.scans c.args.stream c.index_mut-scan.result.now (let l = k.many_scans in let lt = c.requires.stream in omega arith))))

pub returns-in_err-turned : goal.returns-in_err-turned
returns-in_err-turned c d attached h k =
    let within = (ends_of d.plan _ _ c.args.stream c.route-node.result k.stands.routes (let lt = c.requires.stream in let l = k.stands.many in omega arith) c.route-node.ensures).2 in
    let was = stood _ _ _ _ within c.index_mut.ensures.value c.in-Some.is in
    let held = stood _ _ _ _ c.requires.stream c.index_mut-2.ensures.value c.in-Some-index_mut.is in
    let f = record c.args.self.now { nodes = with_item c.args.self.now.nodes c.route-node.result.source (Some c.note_turn.new.self); sessions = with_item c.args.self.now.sessions c.args.stream (Some c.note_turn.new.session); history = c.reserve.new.self; sent = c.room_for.new.sent; scans = with_item c.args.self.now.scans c.args.stream c.note_turn.new.scan } in
    let node = is_node_of d.plan h c.args.self.now.nodes.items c.route-node.result.source c.in-Some.at k.stands.nodes within was in
    not_made d attached h (IsTurnMade c.args.stream) f _ c.from_residual-in_err-turned.result c.from_residual-in_err-turned.ensures.1
    (λ fault is. this_cause h c.in_err-turned.field-0.0 fault (time_is_worn d.plan h k.stands.valid _ (means c.in-Some.at) (means c.note_turn.new.self) node.journal_is (session.means c.in-Some-index_mut.session).standing.time (session_short d attached h c.args.self.now c.args.stream c.in-Some-index_mut.session k c.requires.stream held) c.in_err-turned.field-0.0 c.in_err-turned.ensures.fault) is)
    (stopped_still d attached h c.args.self.now f c.route-node.result.source c.in-Some.at c.note_turn.new.self k was
    refl c.reserve.ensures.items
    (same_journal (means c.in-Some.at) (means c.note_turn.new.self) _ c.in_err-turned.field-0.0 c.in_err-turned.ensures.fault))

pub returns : goal.returns
returns c d attached h k =
    let r = ends_of d.plan _ _ c.args.stream c.route-node.result k.stands.routes (let lt = c.requires.stream in let l = k.stands.many in omega arith) c.route-node.ensures in
    let within = r.2 in
    let was = stood _ _ _ _ within c.index_mut.ensures.value c.in-Some.is in
    let held = stood _ _ _ _ c.requires.stream c.index_mut-2.ensures.value c.in-Some-index_mut.is in
    let n = c.route-node.result.source in
    let f = record c.args.self.now { nodes = with_item c.args.self.now.nodes c.route-node.result.source (Some c.note_turn.new.self); sessions = with_item c.args.self.now.sessions c.args.stream (Some c.note_turn.new.session); history = c.push.new.self; sent = c.note_turn-2.new.sent; scans = with_item c.args.self.now.scans c.args.stream c.note_turn.new.scan } in
    let added = c.in_ok-turned.ensures.ok (client_vector h) in
    source_ends d attached h c.args.self.now f k n c.in-Some.at c.note_turn.new.self c.len-place.result
    (record {
      within = within;
      was = was;
      nodes = refl;
      place_is = c.len-place.ensures ∙ place_len c.journal.result.now.items c.in-Some.at.journal.items c.journal.ensures;
      noted = c.push.ensures.items ∙ ap (λ ps. ps ++ (n, c.len-place.result) ∷ []) c.reserve.ensures.items;
    }) 0 c.args.stream c.in-Some-index_mut.session c.note_turn.new.session c.requires.stream held
    (IsTurnMade c.args.stream c.in_ok-turned.turned) _ added refl refl refl refl
    (let y = c.requires.attached in subst (λ z. IsTrue z.attached) (some_is y.0 c.in-Some-index_mut.session _ y.1 held) y.2)
    (λ on same q. turn_at_source d.plan h n c.args.stream c.in_ok-turned.turned added.entry r.0 on (subst (λ (t : ℕ). IsTurned t c.in_ok-turned.turned added.entry) same q))
    (λ same q. subst (λ (t : ℕ). IsTurned t c.in_ok-turned.turned added.entry) same q)
    c.room_for.new.sent.items c.room_for.ensures.many c.room_for.ensures.items
    (λ same q. c.note_turn-2.ensures added.entry (subst (λ (t : ℕ). IsTurned t c.in_ok-turned.turned added.entry) same q))
    (length-set c.args.self.now.scans.items c.args.stream c.note_turn.new.scan)
    (λ i j are.
    let made : NodeEntry = record { node = n; entry = added.entry } in
    scans_put d.plan (made ∷ h) c.args.self.now.scans.items _ c.args.stream c.note_turn.new.scan refl
    (scan_of_stream d.plan (made ∷ h) c.args.stream (session.means c.note_turn.new.session).standing c.note_turn.new.scan _ i.stands
    (subst (λ (l : List Entry). IsScanOf c.note_turn.new.scan (session.means c.note_turn.new.session).standing l) (j ∙ ap (λ (t : ℕ). journal (made ∷ h) t) r.0) c.note_turn.ensures.scan)) are)
