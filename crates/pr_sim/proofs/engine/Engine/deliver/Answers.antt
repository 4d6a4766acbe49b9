use Rattle.std.proofs.Common.{Some, None, ℕ, refl, sym, ◌∙◌, ap, subst, arith}
use Rattle.pr_inval.specs.declared.msg.Msg.{Msg}
use Rattle.pr_story.specs.Commands.{Gives, ToDeliver}
use Rattle.pr_story.specs.History.{WasSent}
use Rattle.pr_inval.specs.Messages.{IsMessage}
use Rattle.pr_sim.specs.Commands.{GivesIt}
use Rattle.pr_sim.proofs.Receiving.{at_node, delivered, found, not_found, place_is}
use Rattle.pr_sim.proofs.Faults.{no_memory, not_made, stopped_same, this_cause}
use Rattle.pr_sim.proofs.OfStreams.{ends_of}
use Rattle.pr_sim.proofs.engine.Engine.deliver.Goals as goal

pub place_of-requires : goal.place_of-requires
place_of-requires c = let k = c.requires.kept.3.stands in let l = k.many_sent in let lt = c.requires.stream in omega arith

pub returns-in-None : goal.returns-in-None
returns-in-None c d attached h k =
    c.miss.ensures d attached h k (not_found d.plan h c.args.self.now c.args.stream c.args.number k.stands c.requires.stream (place_is _ c.args.stream c.args.number c.place_of.result None c.place_of.ensures c.in-None.is))

pub again-requires : goal.again-requires
again-requires c =
    let r = ends_of c.requires.kept.0.plan _ _ c.args.stream c.route-source.result c.requires.kept.3.stands.routes (let lt = c.requires.stream in let l = c.requires.kept.3.stands.many in omega arith) c.route-source.ensures in
    let x = found c.requires.kept.0.plan c.requires.kept.2 c.args.self.now c.args.stream c.args.number c.in-Some.place c.requires.kept.3.stands c.requires.stream (place_is _ c.args.stream c.args.number c.place_of.result (Some c.in-Some.place) c.place_of.ensures c.in-Some.is) in
    (x.msg, (at_node c.requires.kept.0.plan c.requires.kept.2 c.args.self.now c.args.stream c.route-source.result.source c.args.number c.in-Some.place c.requires.kept.3.stands r.0 r.2 x), c.requires.kept.3.stands.grammar x.msg x.sent)

pub returns-in_err-msg-in-Some : goal.returns-in_err-msg-in-Some
returns-in_err-msg-in-Some c d attached h k =
    not_made d attached h (GivesIt (ToDeliver c.args.stream c.args.number)) c.args.self.now _ c.from_residual.result c.from_residual.ensures.1 (no_memory h) (stopped_same d attached h c.args.self.now c.args.self.now k refl refl)

pub take_in-requires-clause-message : goal.take_in-requires-clause-message
take_in-requires-clause-message c =
    let r = ends_of c.requires.kept.0.plan _ _ c.args.stream c.route-source.result c.requires.kept.3.stands.routes (let lt = c.requires.stream in let l = c.requires.kept.3.stands.many in omega arith) c.route-source.ensures in
    let x = found c.requires.kept.0.plan c.requires.kept.2 c.args.self.now c.args.stream c.args.number c.in-Some.place c.requires.kept.3.stands c.requires.stream (place_is _ c.args.stream c.args.number c.place_of.result (Some c.in-Some.place) c.place_of.ensures c.in-Some.is) in
    let same = c.in_ok-msg-in-Some.ensures x.msg (at_node c.requires.kept.0.plan c.requires.kept.2 c.args.self.now c.args.stream c.route-source.result.source c.args.number c.in-Some.place c.requires.kept.3.stands r.0 r.2 x) in
    subst (λ (m : Msg). IsMessage m) (sym same) (c.requires.kept.3.stands.grammar x.msg x.sent)

pub returns-in_err-take_in-in-Some : goal.returns-in_err-take_in-in-Some
returns-in_err-take_in-in-Some c d attached h k =
    let r = ends_of d.plan _ _ c.args.stream c.route-source.result k.stands.routes (let lt = c.requires.stream in let l = k.stands.many in omega arith) c.route-source.ensures in
    let x = found d.plan h c.args.self.now c.args.stream c.args.number c.in-Some.place k.stands c.requires.stream (place_is _ c.args.stream c.args.number c.place_of.result (Some c.in-Some.place) c.place_of.ensures c.in-Some.is) in
    let same = c.in_ok-msg-in-Some.ensures x.msg (at_node d.plan h c.args.self.now c.args.stream c.route-source.result.source c.args.number c.in-Some.place k.stands r.0 r.2 x) in
    let was = c.in_err-take_in-in-Some.ensures d attached h k (subst (λ (m : Msg). WasSent h m) (sym same) x.sent) (ap (λ (m : Msg). m.stream) same ∙ x.stream) in
    not_made d attached h (GivesIt (ToDeliver c.args.stream c.args.number)) c.take_in.new.self _ c.from_residual-in_err-take_in-in-Some.result c.from_residual-in_err-take_in-in-Some.ensures.1 (λ fault is. this_cause h c.in_err-take_in-in-Some.field-0.0 fault was.1 is) was.0

pub returns-in_ok-take_in-in-Some : goal.returns-in_ok-take_in-in-Some
returns-in_ok-take_in-in-Some c d attached h k =
    let r = ends_of d.plan _ _ c.args.stream c.route-source.result k.stands.routes (let lt = c.requires.stream in let l = k.stands.many in omega arith) c.route-source.ensures in
    let x = found d.plan h c.args.self.now c.args.stream c.args.number c.in-Some.place k.stands c.requires.stream (place_is _ c.args.stream c.args.number c.place_of.result (Some c.in-Some.place) c.place_of.ensures c.in-Some.is) in
    let same = c.in_ok-msg-in-Some.ensures x.msg (at_node d.plan h c.args.self.now c.args.stream c.route-source.result.source c.args.number c.in-Some.place k.stands r.0 r.2 x) in
    let of = ap (λ (m : Msg). m.stream) same ∙ x.stream in
    let made = c.in_ok-take_in-in-Some.ensures d attached h k (subst (λ (m : Msg). WasSent h m) (sym same) x.sent) of in (
      made.0,
      made.1,
      subst (λ (i : ℕ). Gives (ToDeliver c.args.stream i) made.0.node made.0.entry.event) (ap (λ (m : Msg). m.number) same ∙ x.number_is)
          (delivered c.args.stream made.0.node c.in_ok-msg-in-Some.msg c.in_ok-take_in-in-Some.field-0 made.0.entry of made.2),
    )
