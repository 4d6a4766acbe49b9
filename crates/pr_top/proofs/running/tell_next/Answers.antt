use Rattle.std.proofs.Common.{◌∙◌, subst, ℕ, List}
use Rattle.pr_ports.specs.Faults.{HasRisen}
use Rattle.pr_top.specs.Progress.{Writes}
use Rattle.pr_top.proofs.running.tell_next.Goals as goal

pub returns-clause-told : goal.returns-clause-told
returns-clause-told g c =
    let text = c.as_slice.ensures ∙ c.in_ok-next_line.ensures.ok in
    subst (λ (t : List ℕ). Writes t (HasRisen (g.K.Sink.faults c.args.out.now) (g.K.Sink.faults c.write.new.out)) (g.K.Sink.text c.args.out.now) (g.K.Sink.text c.write.new.out) c.write.result) text c.write.ensures.told
