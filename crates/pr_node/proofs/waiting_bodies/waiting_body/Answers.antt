use Rattle.std.proofs.Common.{◌∙◌, ap, subst}
use Rattle.std.specs.Prelude.{Option}
use Rattle.pr_inval.specs.declared.kind.Kind.{Kind}
use Rattle.pr_inval.specs.Standing.{means}
use Rattle.pr_story.specs.Sending.{IsBodyOf}
use Rattle.pr_node.specs.Scanning.{Scanned}
use Rattle.pr_node.proofs.Scanning.{left_passed, left_waiting, waiting_next}
use Rattle.pr_node.proofs.waiting_bodies.waiting_body.Goals as goal

pub returns-in-Some-2-clause-next : goal.returns-in-Some-2-clause-next
returns-in-Some-2-clause-next c n j f was =
    waiting_next c.loop-name.scan (means c.args.session.now).standing j c.in-Some.name c.in-Some-2.kind c.in-Some.ensures.0 c.in-Some.ensures.1
    (subst (λ (k : Option Kind). IsBodyOf j (means c.args.session.now).standing c.in-Some.name k) c.in-Some-2.is (c.in_ok-kind.ensures.body n j f)) c.loop-name.invariant.1 (c.loop-name.invariant.0 n j f was)

pub loop-name-preserved : goal.loop-name-preserved
loop-name-preserved c = (
  λ n j f was. left_passed c.loop-name.scan c.leave_first.new.self (means c.args.session.now).standing j c.in-Some.name c.in-Some.ensures.0 c.leave_first.ensures
      (subst (λ (k : Option Kind). IsBodyOf j (means c.args.session.now).standing c.in-Some.name k) c.in_default-2.is (c.in_ok-kind.ensures.body n j f)) (c.loop-name.invariant.0 n j f was),
  left_waiting c.loop-name.scan c.leave_first.new.self (means c.args.session.now).standing c.in-Some.name c.in-Some.ensures.0 c.leave_first.ensures c.loop-name.invariant.1,
  ap (λ (x : Scanned). x.looked) c.leave_first.ensures ∙ c.loop-name.invariant.2,
)
