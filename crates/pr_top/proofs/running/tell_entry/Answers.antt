use Rattle.std.proofs.Common.{◌∙◌, ap, subst, get_or, reverse, ℕ, List}
use Rattle.pr_ports.specs.Faults.{HasRisen}
use Rattle.pr_sim.specs.Making.{declared_of}
use Rattle.pr_story.specs.declared.entry.Entry.{Entry}
use Rattle.pr_text.specs.Lines.{line_text}
use Rattle.pr_top.specs.Progress.{Writes}
use Rattle.pr_top.proofs.running.tell_entry.Goals as goal

pub returns-clause-told : goal.returns-clause-told
returns-clause-told g c = λ h e tells lt.
    let ds = c.args.decls.now.list in
    let x = get_or (reverse h) c.args.at e in
    let line = ap (λ (n : ℕ). line_text ds n c.entry.result.now.event) (c.node_of.ensures (declared_of ds) h e tells lt)
    ∙ ap (λ (y : Entry). line_text ds x.node y.event) (c.entry.ensures (declared_of ds) h e tells lt) in
    subst (λ (t : List ℕ). Writes t (HasRisen (g.K.Sink.faults c.args.out.now) (g.K.Sink.faults c.tell_next.new.out)) (g.K.Sink.text c.args.out.now) (g.K.Sink.text c.tell_next.new.out) c.tell_next.result) line c.tell_next.ensures.told
