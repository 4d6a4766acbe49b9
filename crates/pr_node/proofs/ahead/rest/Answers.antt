use Rattle.pr_inval.specs.Standing.{means}
use Rattle.pr_story.specs.Sending.{IsAhead}
use Rattle.pr_inval.specs.declared.msg.Msg.{Msg}
use Rattle.pr_story.specs.declared.event.Event.TheVariants.{Sent}
use Rattle.pr_node.specs.Sending.{IsImpreciseOf, IsSentOf}
use Rattle.pr_node.proofs.Going.{sent_as}
use Rattle.pr_node.proofs.Sending.{sends_rest}
use Rattle.pr_story.proofs.Withholding.{if_ok}
use Rattle.pr_node.proofs.ahead.rest.Goals as goal

pub returns-clause-next : goal.returns-clause-next
returns-clause-next c =
    if_ok c.imprecise.result (λ (m : Msg). IsSentOf (IsImpreciseOf c.in_ok-found.found c.args.names.now c.args.position.now c.join_in.new.self) (means c.args.session.now) c.args.time (Sent m)) _
    (λ s so n j f. sent_as (IsImpreciseOf c.in_ok-found.found c.args.names.now c.args.position.now c.join_in.new.self) (IsAhead n j c.args.names.now c.args.position.now) (means c.args.session.now) c.args.time (Sent s) (λ kind k. sends_rest n j _ _ _ _ _ c.in_ok-found.found kind f c.requires.cut c.requires.none c.vector-vector.ensures.value c.join_in.ensures
    (record { dark = c.in_ok-found.ensures.dark n j f; omitted = c.in_ok-found.ensures.omitted n j f }) k) so)
    c.imprecise.ensures.value
