use Rattle.std.proofs.Common.{ap, sym, ◌∙◌}
use Rattle.std.specs.Prelude.{false}
use Rattle.pr_node.specs.Calls.{IsDone, seen_after_done}
use Rattle.pr_node.specs.Stored.{means}
use Rattle.pr_node.specs.declared.answers.done.Done.{Done}
use Rattle.pr_story.specs.History.{current_vector}
use Rattle.pr_crew.proofs.Adding.{written}
use Rattle.pr_crew.specs.Acting.{nowhere}
use Rattle.pr_crew.proofs.Called.{left, within}
use Rattle.pr_crew.proofs.phase_node.PhaseNode.write.Goals as goal

pub invariant_of-self : goal.invariant_of-self
invariant_of-self c = record {
  within = within c.args.caller c.args.self.now c.write.new.self
      (left nowhere (λ s. c.args.needs.now) c.args.caller _ (IsDone c.args.client c.args.name.now c.args.body.now false) c.args.self.now.node c.write.new.self _ c.write.result (λ v adds. adds nowhere) c.write.ensures.ok c.write.ensures.fault);
}

pub returns-in-Stamp-clause-ok : goal.returns-in-Stamp-clause-ok
returns-in-Stamp-clause-ok c sessions =
    let x = c.in_ok-write.ensures.ok sessions in
    written (means c.args.self.now.node) (means c.write.new.self) sessions c.args.client c.args.caller c.args.name.now c.args.needs.now c.vector.result c.args.body.now false c.in_ok-write.field-0 x
    (c.vector.ensures.value x.works ∙ sym (ap (λ (d : Done). seen_after_done d c.args.needs.now (current_vector (means c.write.new.self).journal)) c.in-Stamp.is))

pub returns-in-Behind-clause-ok : goal.returns-in-Behind-clause-ok
returns-in-Behind-clause-ok c sessions =
    written (means c.args.self.now.node) (means c.write.new.self) sessions c.args.client c.args.caller c.args.name.now c.args.needs.now c.args.needs.now c.args.body.now false c.in_ok-write.field-0 (c.in_ok-write.ensures.ok sessions)
    (sym (ap (λ (d : Done). seen_after_done d c.args.needs.now (current_vector (means c.write.new.self).journal)) c.in-Behind.is))
