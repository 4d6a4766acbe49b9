use Rattle.std.proofs.Common.{ℕ, List, ap, sym, ◌∙◌, subst, IfOk}
use Rattle.pr_inval.specs.declared.node_fault.NodeFault.{NodeFault}
use Rattle.std.specs.Prelude.{Result}
use Rattle.pr_node.specs.Calls.{AddsOfClient, IsSeen, seen_after_read}
use Rattle.pr_node.specs.Stored.{means}
use Rattle.pr_node.specs.declared.answers.seen.Seen.{Seen}
use Rattle.pr_story.specs.History.{current_vector}
use Rattle.pr_crew.specs.Asking.{IsRead}
use Rattle.pr_crew.proofs.Adding.{read}
use Rattle.pr_crew.specs.Acting.{nowhere}
use Rattle.pr_crew.proofs.Called.{left, within}
use Rattle.pr_crew.proofs.phase_node.PhaseNode.read.Goals as goal
use Rattle.pr_crew.proofs.phase_node.PhaseNode.read.Goals.{in-Reply, in-Behind}

pub invariant_of-self : goal.invariant_of-self
invariant_of-self c = record {
  within = within c.args.caller c.args.self.now c.read.new.self
      (left nowhere (λ s. c.args.needs.now) c.args.caller _ (IsSeen c.args.client c.args.name.now) c.args.self.now.node c.read.new.self _ c.read.result (λ v adds. adds nowhere) c.read.ensures.ok c.read.ensures.fault);
}

pub returns-clause-ok : goal.returns-clause-ok
returns-clause-ok c = elim c.match-branch-2.branch [
  | in-Reply w ↦ subst (λ (r : Result (List ℕ) NodeFault). IfOk r (λ after. AddsOfClient (means c.args.self.now.node) (means c.read.new.self) c.args.needs.now c.args.caller (IsRead c.args.client c.args.name.now c.args.needs.now after))) (sym w.result-is)
      (λ sessions.
      let x = c.in_ok-read.ensures.ok sessions in
      read (means c.args.self.now.node) (means c.read.new.self) sessions c.args.client c.args.caller c.args.name.now c.args.needs.now w.vector.result c.in_ok-read.field-0 x
      (w.vector.ensures.value x.works ∙ sym (ap (λ (s : Seen). seen_after_read s c.args.needs.now (current_vector (means c.read.new.self).journal)) w.in-Reply.is)))
  | in-Behind w ↦ subst (λ (r : Result (List ℕ) NodeFault). IfOk r (λ after. AddsOfClient (means c.args.self.now.node) (means c.read.new.self) c.args.needs.now c.args.caller (IsRead c.args.client c.args.name.now c.args.needs.now after))) (sym w.result-is)
      (λ sessions.
      read (means c.args.self.now.node) (means c.read.new.self) sessions c.args.client c.args.caller c.args.name.now c.args.needs.now c.args.needs.now c.in_ok-read.field-0 (c.in_ok-read.ensures.ok sessions)
      (sym (ap (λ (s : Seen). seen_after_read s c.args.needs.now (current_vector (means c.read.new.self).journal)) w.in-Behind.is)))
]
