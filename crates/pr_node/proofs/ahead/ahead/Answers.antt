use Rattle.std.proofs.Common.{◌≡◌, refl}
use Rattle.pr_inval.specs.Standing.{means}
use Rattle.pr_inval.specs.declared.kind.Kind.{Kind}
use Rattle.pr_inval.specs.declared.kind.Kind.TheVariants.{Precise}
use Rattle.pr_story.specs.Sending.{IsAhead}
use Rattle.pr_inval.specs.declared.msg.Msg.{Msg}
use Rattle.pr_story.specs.declared.event.Event.TheVariants.{Sent}
use Rattle.pr_node.specs.Sending.{IsImpreciseOf, IsSentOf}
use Rattle.pr_node.proofs.Going.{sent_as}
use Rattle.pr_node.proofs.Sending.{sends_before, sends_write, up_to}
use Rattle.pr_story.proofs.Withholding.{if_ok}
use Rattle.pr_vectors.specs.Vector.{below_of}
use Rattle.pr_node.proofs.ahead.ahead.Goals as goal

pub found_between-requires-clause-to : goal.found_between-requires-clause-to
found_between-requires-clause-to c =
    up_to c.args.position.now c.args.log.now.vector (below_of c.vector-vector.result.now c.in-Some.write.now.stamp) c.join_below.new.self c.vector-vector.result.now c.in-Some.write.now.stamp c.vector-vector.ensures.value refl c.join_below.ensures

pub returns-then-is_nothing-clause-next : goal.returns-then-is_nothing-clause-next
returns-then-is_nothing-clause-next c =
    let P : Kind → Type 0 = λ kind. kind ≡ Precise c.args.position.now c.raise_within.new.self c.in-Some.write.now in
    if_ok c.precise.result (λ (m : Msg). IsSentOf P (means c.args.session.now) c.args.time (Sent m)) _
    (λ s so n j f. sent_as P (IsAhead n j c.args.names.now c.args.position.now) (means c.args.session.now) c.args.time (Sent s) (λ kind k. sends_write n j _ _ _ _ (below_of c.vector-vector.result.now c.in-Some.write.now.stamp) _ _ _ c.in-Some.write.now c.in_ok-found.found kind f c.requires.cut c.in-Some.ensures.next c.vector-vector.ensures.value refl c.join_below.ensures
    (record { dark = c.in_ok-found.ensures.dark n j f; omitted = c.in_ok-found.ensures.omitted n j f })
    (c.if-is_nothing.ensures.none refl) refl (c.raise_within.ensures.cut c.args.position.now c.join_below.ensures) k) so)
    c.precise.ensures.value

pub returns-clause-next : goal.returns-clause-next
returns-clause-next c =
    if_ok c.imprecise.result (λ (m : Msg). IsSentOf (IsImpreciseOf c.in_ok-found.found c.args.names.now c.args.position.now c.join_below.new.self) (means c.args.session.now) c.args.time (Sent m)) _
    (λ s so n j f. sent_as (IsImpreciseOf c.in_ok-found.found c.args.names.now c.args.position.now c.join_below.new.self) (IsAhead n j c.args.names.now c.args.position.now) (means c.args.session.now) c.args.time (Sent s) (λ kind k. sends_before n j _ _ _ _ (below_of c.vector-vector.result.now c.in-Some.write.now.stamp) _ c.in-Some.write.now c.in_ok-found.found kind f c.requires.cut c.in-Some.ensures.next c.vector-vector.ensures.value refl c.join_below.ensures
    (record { dark = c.in_ok-found.ensures.dark n j f; omitted = c.in_ok-found.ensures.omitted n j f })
    (c.if-is_nothing.ensures.some refl) k) so)
    c.imprecise.ensures.value
