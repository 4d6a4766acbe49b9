use Rattle.std.proofs.Common.{ℕ, [], ◌∷◌, ◌++◌, refl, subst, ◌∙◌, ap, arith}
use Rattle.pr_inval.specs.Standing.{HasHeard}
use Rattle.pr_inval.specs.Standing as session
use Rattle.pr_node.specs.Stored.{means}
use Rattle.pr_story.specs.Clients.{client_vector}
use Rattle.pr_story.specs.Turns.{standing}
use Rattle.pr_story.proofs.Short.{valid_short}
use Rattle.pr_sim.specs.Commands.{IsTakingMade}
use Rattle.pr_sim.proofs.Receiving.{take_ends}
use Rattle.pr_sim.proofs.Faults.{no_memory, not_made, same_journal, stopped_same, stopped_still, this_cause, time_is_worn}
use Rattle.pr_sim.proofs.Step.{is_node_of, never_empty, place_len, stood}
use Rattle.pr_sim.proofs.OfStreams.{ends_of}
use Rattle.std.specs.Vec.{with_item}
use Rattle.std.specs.Prelude.{Some}
use Rattle.pr_sim.proofs.engine.Engine.take_in.Goals as goal

pub unreachable-requires : goal.unreachable-requires
unreachable-requires c =
    let within = (ends_of c.requires.kept.0.plan _ _ c.args.stream c.route-node.result c.requires.kept.3.stands.routes (let lt = c.requires.stream in let l = c.requires.kept.3.stands.many in omega arith) c.route-node.ensures).3 in
    let x = c.requires.kept.3.stands.nodes.each c.route-node.result.destination within in
    never_empty _ _ _ x.0 within c.index_mut.ensures.value x.1 c.in_default.is

pub returns-in_err-reserve : goal.returns-in_err-reserve
returns-in_err-reserve c d attached h k sent of =
    let f = record c.args.self.now { history = c.reserve.new.self } in
    not_made d attached h (IsTakingMade c.args.msg) f _ c.from_residual.result c.from_residual.ensures.1 (no_memory h) (stopped_same d attached h c.args.self.now f k refl c.reserve.ensures.items)

pub returns-in_err-taken : goal.returns-in_err-taken
returns-in_err-taken c d attached h k sent of =
    let within = (ends_of d.plan _ _ c.args.stream c.route-node.result k.stands.routes (let lt = c.requires.stream in let l = k.stands.many in omega arith) c.route-node.ensures).3 in
    let was = stood _ _ _ _ within c.index_mut.ensures.value c.in-Some.is in
    let f = record c.args.self.now { nodes = with_item c.args.self.now.nodes c.route-node.result.destination (Some c.accept.new.self); history = c.reserve.new.self } in
    let node = is_node_of d.plan h c.args.self.now.nodes.items c.route-node.result.destination c.in-Some.at k.stands.nodes within was in
    not_made d attached h (IsTakingMade c.args.msg) f _ c.from_residual-in_err-taken.result c.from_residual-in_err-taken.ensures.1
    (λ fault is. this_cause h c.in_err-taken.field-0.0 fault (time_is_worn d.plan h k.stands.valid _ (means c.in-Some.at) (means c.accept.new.self) node.journal_is c.args.msg.time ((valid_short d.plan h k.stands.valid).messages c.args.msg sent) c.in_err-taken.field-0.0 c.in_err-taken.ensures.fault) is)
    (stopped_still d attached h c.args.self.now f c.route-node.result.destination c.in-Some.at c.accept.new.self k was
    refl c.reserve.ensures.items
    (same_journal (means c.in-Some.at) (means c.accept.new.self) _ c.in_err-taken.field-0.0 c.in_err-taken.ensures.fault))

pub unreachable-requires-in_default-index_mut : goal.unreachable-requires-in_default-index_mut
unreachable-requires-in_default-index_mut c =
    let x = c.requires.kept.3.stands.sessions c.args.stream c.requires.stream in
    never_empty _ _ _ x.0 c.requires.stream c.index_mut-2.ensures.value x.1 c.in_default-index_mut.is

pub heard-requires : goal.heard-requires
heard-requires c =
    let a = c.in_ok-taken.ensures.ok (standing c.requires.kept.0.plan c.requires.kept.2) (client_vector c.requires.kept.2) in
    let e = c.time_of.ensures c.args.msg a.entry a.is in
    let early = a.early in
    omega arith

pub returns : goal.returns
returns c d attached h k sent of =
    let r = ends_of d.plan _ _ c.args.stream c.route-node.result k.stands.routes (let lt = c.requires.stream in let l = k.stands.many in omega arith) c.route-node.ensures in
    let within = r.3 in
    let was = stood _ _ _ _ within c.index_mut.ensures.value c.in-Some.is in
    let held = stood _ _ _ _ c.requires.stream c.index_mut-2.ensures.value c.in-Some-index_mut.is in
    let n = c.route-node.result.destination in
    let f = record c.args.self.now { nodes = with_item c.args.self.now.nodes c.route-node.result.destination (Some c.accept.new.self); history = c.push.new.self; sessions = with_item c.args.self.now.sessions c.args.stream (Some c.heard.new.self) } in
    take_ends d attached h c.args.self.now f k n c.in-Some.at c.accept.new.self c.len-place.result
    (record {
      within = within;
      was = was;
      nodes = refl;
      place_is = c.len-place.ensures ∙ place_len c.journal.result.now.items c.in-Some.at.journal.items c.journal.ensures;
      noted = c.push.ensures.items ∙ ap (λ ps. ps ++ (n, c.len-place.result) ∷ []) c.reserve.ensures.items;
    }) 0 c.args.stream c.in-Some-index_mut.session c.heard.new.self c.args.msg c.in_ok-taken.taken c.in_ok-taken.ensures.ok refl refl refl refl refl
    c.requires.stream held refl
    (λ entry is. subst (λ (t : ℕ). HasHeard (session.means c.in-Some-index_mut.session) (session.means c.heard.new.self) t) (c.time_of.ensures c.args.msg entry is) c.heard.ensures)
    r.1 sent of
