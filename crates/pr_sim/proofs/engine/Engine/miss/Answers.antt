use Rattle.std.proofs.Common.{[], ◌∷◌, ◌++◌, refl, ◌∙◌, ap, arith}
use Rattle.pr_node.specs.Stored.{means}
use Rattle.pr_story.specs.Commands.{ToDeliver}
use Rattle.pr_sim.specs.Commands.{GivesIt}
use Rattle.pr_sim.proofs.Receiving.{miss_ends}
use Rattle.pr_sim.proofs.Faults.{no_memory, not_made, same_journal, stopped_same, stopped_still, this_cause, time_is_worn}
use Rattle.pr_sim.proofs.Step.{is_node_of, never_empty, place_len, stood}
use Rattle.pr_sim.proofs.OfStreams.{ends_of}
use Rattle.std.specs.Vec.{with_item}
use Rattle.std.specs.Prelude.{Some}
use Rattle.pr_sim.proofs.engine.Engine.miss.Goals as goal

pub unreachable-requires : goal.unreachable-requires
unreachable-requires c =
    let within = (ends_of c.requires.kept.0.plan _ _ c.args.stream c.route-node.result c.requires.kept.3.stands.routes (let lt = c.requires.stream in let l = c.requires.kept.3.stands.many in omega arith) c.route-node.ensures).3 in
    let x = c.requires.kept.3.stands.nodes.each c.route-node.result.destination within in
    never_empty _ _ _ x.0 within c.index_mut.ensures.value x.1 c.in_default.is

pub returns-in_err-reserve : goal.returns-in_err-reserve
returns-in_err-reserve c d attached h k none =
    let f = record c.args.self.now { history = c.reserve.new.self } in
    not_made d attached h (GivesIt (ToDeliver c.args.stream c.args.number)) f _ c.from_residual.result c.from_residual.ensures.1 (no_memory h) (stopped_same d attached h c.args.self.now f k refl c.reserve.ensures.items)

pub returns-in_err-missing : goal.returns-in_err-missing
returns-in_err-missing c d attached h k none =
    let within = (ends_of d.plan _ _ c.args.stream c.route-node.result k.stands.routes (let lt = c.requires.stream in let l = k.stands.many in omega arith) c.route-node.ensures).3 in
    let was = stood _ _ _ _ within c.index_mut.ensures.value c.in-Some.is in
    let f = record c.args.self.now { nodes = with_item c.args.self.now.nodes c.route-node.result.destination (Some c.missing.new.self); history = c.reserve.new.self } in
    let node = is_node_of d.plan h c.args.self.now.nodes.items c.route-node.result.destination c.in-Some.at k.stands.nodes within was in
    not_made d attached h (GivesIt (ToDeliver c.args.stream c.args.number)) f _ c.from_residual-in_err-missing.result c.from_residual-in_err-missing.ensures.1
    (λ fault is. this_cause h c.in_err-missing.field-0.0 fault (time_is_worn d.plan h k.stands.valid _ (means c.in-Some.at) (means c.missing.new.self) node.journal_is 0 (omega arith) c.in_err-missing.field-0.0 c.in_err-missing.ensures.fault) is)
    (stopped_still d attached h c.args.self.now f c.route-node.result.destination c.in-Some.at c.missing.new.self k was
    refl c.reserve.ensures.items
    (same_journal (means c.in-Some.at) (means c.missing.new.self) _ c.in_err-missing.field-0.0 c.in_err-missing.ensures.fault))

pub returns : goal.returns
returns c d attached h k none =
    let r = ends_of d.plan _ _ c.args.stream c.route-node.result k.stands.routes (let lt = c.requires.stream in let l = k.stands.many in omega arith) c.route-node.ensures in
    let within = r.3 in
    let was = stood _ _ _ _ within c.index_mut.ensures.value c.in-Some.is in
    let n = c.route-node.result.destination in
    let f = record c.args.self.now { nodes = with_item c.args.self.now.nodes c.route-node.result.destination (Some c.missing.new.self); history = c.push.new.self } in
    miss_ends d attached h c.args.self.now f k n c.in-Some.at c.missing.new.self c.len-place.result
    (record {
      within = within;
      was = was;
      nodes = refl;
      place_is = c.len-place.ensures ∙ place_len c.journal.result.now.items c.in-Some.at.journal.items c.journal.ensures;
      noted = c.push.ensures.items ∙ ap (λ ps. ps ++ (n, c.len-place.result) ∷ []) c.reserve.ensures.items;
    }) 0 c.args.stream c.args.number c.in_ok-missing.ensures.ok refl refl refl refl refl refl c.requires.stream r.1 none
