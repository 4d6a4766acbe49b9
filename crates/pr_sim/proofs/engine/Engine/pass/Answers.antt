use Rattle.std.proofs.Common.{◌≡◌, ◌∷◌, List, refl, sym, ◌∙◌, ap, subst, arith}
use Rattle.pr_inval.specs.declared.msg.Msg.{Msg}
use Rattle.pr_story.specs.History.{NodeEntry, WasSent}
use Rattle.pr_story.specs.Lawful.{IsLawful, Valid}
use Rattle.pr_sim.specs.Commands.{IsTakingMade}
use Rattle.pr_sim.specs.Settles.{IsAcceptOf}
use Rattle.pr_sim.proofs.Faults.{no_memory, not_made, stopped_same, this_cause}
use Rattle.pr_sim.proofs.JustSent.{is_good, stands_last}
use Rattle.pr_sim.proofs.OfStreams.{ends_of}
use Rattle.pr_sim.proofs.Passing.{passes, was_sent}
use Rattle.pr_sim.proofs.Receiving.{is_what}
use Rattle.pr_sim.proofs.engine.Engine.pass.Goals as goal

pub last_sent-requires : goal.last_sent-requires
last_sent-requires c =
    let k = c.requires.kept in
    let r = ends_of k.0.plan _ _ c.args.stream c.route-source.result k.3.stands.routes (let lt = c.requires.stream in let l = k.3.stands.many in omega arith) c.route-source.ensures in
    let last = stands_last k.0 k.1 k.2 c.args.self.now c.args.stream k.4.0 k.3 k.4.1 c.route-source.result.source r.0 r.2 in
    (k.4.0, last)

pub through_bytes-requires : goal.through_bytes-requires
through_bytes-requires c =
    let k = c.requires.kept in
    let r = ends_of k.0.plan _ _ c.args.stream c.route-source.result k.3.stands.routes (let lt = c.requires.stream in let l = k.3.stands.many in omega arith) c.route-source.ensures in
    let last = stands_last k.0 k.1 k.2 c.args.self.now c.args.stream k.4.0 k.3 k.4.1 c.route-source.result.source r.0 r.2 in
    is_what k.4.0 c.last_sent.result.now (c.last_sent.ensures k.4.0 last) (is_good k.0 k.1 k.2 c.args.self.now c.args.stream k.4.0 k.3 k.4.1)

pub take_in-requires-clause-kept : goal.take_in-requires-clause-kept
take_in-requires-clause-kept c = let k = c.requires.kept in (k.0, k.1, k.2, k.3)

pub take_in-requires-clause-message : goal.take_in-requires-clause-message
take_in-requires-clause-message c =
    let k = c.requires.kept in
    let r = ends_of k.0.plan _ _ c.args.stream c.route-source.result k.3.stands.routes (let lt = c.requires.stream in let l = k.3.stands.many in omega arith) c.route-source.ensures in
    let last = stands_last k.0 k.1 k.2 c.args.self.now c.args.stream k.4.0 k.3 k.4.1 c.route-source.result.source r.0 r.2 in
    is_what k.4.0 c.in_ok-msg.msg (c.in_ok-msg.ensures ∙ c.last_sent.ensures k.4.0 last) (is_good k.0 k.1 k.2 c.args.self.now c.args.stream k.4.0 k.3 k.4.1)

pub returns-in_err-msg : goal.returns-in_err-msg
returns-in_err-msg c d attached h k m sent before is event of in_time =
    not_made d attached h (λ done. IsAcceptOf m) c.args.self.now _ c.from_residual.result c.from_residual.ensures.1 (no_memory h) (stopped_same d attached h c.args.self.now c.args.self.now k refl refl)

pub returns-in_err-take_in : goal.returns-in_err-take_in
returns-in_err-take_in c d attached h k m sent before is event of in_time =
    let r = ends_of d.plan _ _ c.args.stream c.route-source.result k.stands.routes (let lt = c.requires.stream in let l = k.stands.many in omega arith) c.route-source.ensures in
    let same : c.in_ok-msg.msg ≡ m = c.in_ok-msg.ensures ∙ c.last_sent.ensures m (stands_last d attached h c.args.self.now c.args.stream m k (sent, before, is, event, of) c.route-source.result.source r.0 r.2) in
    let valid : Valid d.plan (sent ∷ before) = subst (λ (xs : List NodeEntry). Valid d.plan xs) is k.stands.valid in
    let was : WasSent h c.in_ok-msg.msg = subst (λ (y : Msg). WasSent h y) (sym same) (subst (λ (xs : List NodeEntry). WasSent xs m) (sym is) (was_sent d.plan before sent m c.args.stream valid event of)) in
    let stopped = c.in_err-take_in.ensures d attached h k was (ap (λ (y : Msg). y.stream) same ∙ of) in
    not_made d attached h (λ done. IsAcceptOf m) c.take_in.new.self _ c.from_residual-in_err-take_in.result c.from_residual-in_err-take_in.ensures.1
    (λ fault is. this_cause h c.in_err-take_in.field-0.0 fault stopped.1 is) stopped.0

pub returns : goal.returns
returns c d attached h k m sent before is event of in_time =
    let r = ends_of d.plan _ _ c.args.stream c.route-source.result k.stands.routes (let lt = c.requires.stream in let l = k.stands.many in omega arith) c.route-source.ensures in
    let same : c.in_ok-msg.msg ≡ m = c.in_ok-msg.ensures ∙ c.last_sent.ensures m (stands_last d attached h c.args.self.now c.args.stream m k (sent, before, is, event, of) c.route-source.result.source r.0 r.2) in
    let valid : Valid d.plan (sent ∷ before) = subst (λ (xs : List NodeEntry). Valid d.plan xs) is k.stands.valid in
    let was : WasSent h c.in_ok-msg.msg = subst (λ (y : Msg). WasSent h y) (sym same) (subst (λ (xs : List NodeEntry). WasSent xs m) (sym is) (was_sent d.plan before sent m c.args.stream valid event of)) in
    let made = c.in_ok-take_in.ensures d attached h k was (ap (λ (y : Msg). y.stream) same ∙ of) in
    let lawful : IsLawful d.plan (sent ∷ before) made.0 = subst (λ (xs : List NodeEntry). IsLawful d.plan xs made.0) is made.1.stands.valid.0 in (
      made.0,
      made.1,
      passes d.plan before sent m c.args.stream valid event of in_time c.in_ok-take_in.field-0 made.0 lawful (subst (λ (y : Msg). IsTakingMade y c.in_ok-take_in.field-0 made.0) same made.2),
    )
