use Rattle.std.proofs.Common.{◌≡◌, ◌∙◌, None, Some, ap, refl, sym, slice_set}
use Rattle.std.proofs.lemmas.Option.{same_Some}
use Rattle.pr_merge.specs.Holding.{HeldState}
use Rattle.pr_node.specs.Stored.{Stored}
use Rattle.pr_crew.specs.declared.phase_node.PhaseNode.{PhaseNode}
use Rattle.pr_crew.proofs.Opening.{has_opened}
use Rattle.pr_crew.proofs.Slots.{put_again}
use Rattle.pr_crew.proofs.sites.Sites.open_one.Goals as goal

pub returns-in-Ok-clause-opened : goal.returns-in-Ok-clause-opened
returns-in-Ok-clause-opened g c m is =
    has_opened c.args.callers m c.in-Some.value c.new.result c.args.self.now _ c.in-Ok.cell c.in-Ok.root (same_Some c.in-Some.value m (sym c.in-Some.is ∙ c.take_node.ensures.was ∙ is)) (c.new.ensures.stories)
    c.in-Ok.ensures.cell c.in-Ok.ensures.pass c.push_reserved.ensures.items c.push_reserved-in-Ok.ensures.items

pub returns-in-Err-clause-refused : goal.returns-in-Err-clause-refused
returns-in-Err-clause-refused g c =
    let was = (g.H.Held.state c.args.held.now).nodes in
    let e : c.into_node.result ≡ c.in-Some.value = c.into_node.ensures ∙ ap (λ (x : PhaseNode). x.node) c.in-Err.ensures.err ∙ c.new.ensures.node in (
      refl,
      ap (λ (s : HeldState Stored). s.nodes) c.give_node.ensures.state ∙ ap (λ (s : HeldState Stored). slice_set s.nodes c.args.node (Some c.into_node.result)) c.take_node.ensures.state
          ∙ ap (λ (m : Stored). slice_set (slice_set was c.args.node None) c.args.node (Some m)) e ∙ put_again was c.args.node c.in-Some.value (sym c.take_node.ensures.was ∙ c.in-Some.is),
    )
