use Rattle.std.proofs.Common.{◌∙◌, ap, subst}
use Rattle.std.specs.Prelude.{None, Option, Some}
use Rattle.pr_inval.specs.declared.kind.Kind.{Kind}
use Rattle.pr_inval.specs.Standing.{means}
use Rattle.pr_marks.specs.Table.{names_of}
use Rattle.pr_story.specs.Sending.{IsBodyOf}
use Rattle.pr_snap.proofs.KnownNames.{next_in_set}
use Rattle.pr_node.specs.Scanning.{Scanned}
use Rattle.pr_node.proofs.Scanning.{found_at, pass_less, pass_on, passed_of}
use Rattle.pr_node.proofs.Walk.{passed_all, passed_more, passed_to}
use Rattle.pr_node.proofs.waiting_bodies.body_past.Goals as goal

pub body_of-requires : goal.body_of-requires
body_of-requires c = next_in_set c.last.result c.sub-names.result.now _ (names_of c.args.stores.now.marks) c.in-Some.name c.sub-names.ensures.value c.in-Some.ensures.value

pub returns-in-Some-2-clause-next : goal.returns-in-Some-2-clause-next
returns-in-Some-2-clause-next c n j f was =
    passed_to j c.args.stores.now.marks (means c.args.session.now).standing c.loop-name.scan.last c.in-Some.name c.in-Some-2.kind f.marks c.in-Some.ensures.order
    (found_at (Some c.in-Some.name) c.last.result c.loop-name.scan c.sub-names.result.now _ (names_of c.args.stores.now.marks) c.last.ensures c.sub-names.ensures.value c.in-Some.ensures.value)
    (subst (λ (k : Option Kind). IsBodyOf j (means c.args.session.now).standing c.in-Some.name k) c.in-Some-2.is (c.in_ok-kind.ensures.body n j f))
    (passed_of c.loop-name.scan (means c.args.session.now).standing j c.loop-name.invariant.1 (c.loop-name.invariant.0 n j f was))

pub loop-name-smaller : goal.loop-name-smaller
loop-name-smaller c = pass_less c.loop-name.scan c.pass.new.self c.sub-names.result.now (names_of c.args.stores.now.marks) c.last.result c.in-Some.name c.last.ensures c.pass.ensures c.in-Some.ensures.value

pub loop-name-preserved : goal.loop-name-preserved
loop-name-preserved c = (
  λ n j f was. pass_on c.loop-name.scan c.pass.new.self (means c.args.session.now).standing j c.in-Some.name c.pass.ensures
      (passed_more j c.args.stores.now.marks (means c.args.session.now).standing c.loop-name.scan.last c.in-Some.name f.marks c.in-Some.ensures.order
      (found_at (Some c.in-Some.name) c.last.result c.loop-name.scan c.sub-names.result.now _ (names_of c.args.stores.now.marks) c.last.ensures c.sub-names.ensures.value c.in-Some.ensures.value)
      (subst (λ (k : Option Kind). IsBodyOf j (means c.args.session.now).standing c.in-Some.name k) c.in_default-2.is (c.in_ok-kind.ensures.body n j f))
      (passed_of c.loop-name.scan (means c.args.session.now).standing j c.loop-name.invariant.1 (c.loop-name.invariant.0 n j f was))),
  ap (λ (x : Scanned). x.waiting) c.pass.ensures ∙ c.loop-name.invariant.1,
  ap (λ (x : Scanned). x.looked) c.pass.ensures ∙ c.loop-name.invariant.2,
)

pub returns-clause-next : goal.returns-clause-next
returns-clause-next c n j f was =
    passed_all j c.args.stores.now.marks (means c.args.session.now).standing c.loop-name.scan.last f.marks
    (found_at None c.last.result c.loop-name.scan c.sub-names.result.now _ (names_of c.args.stores.now.marks) c.last.ensures c.sub-names.ensures.value c.in_default.ensures.value)
    (passed_of c.loop-name.scan (means c.args.session.now).standing j c.loop-name.invariant.1 (c.loop-name.invariant.0 n j f was))
