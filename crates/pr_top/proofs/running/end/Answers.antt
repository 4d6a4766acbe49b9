use Rattle.std.proofs.Common.{◌+◌, ◌∙◌, List, ap, length, subst, ℕ}
use Rattle.pr_ports.specs.Faults.{HasRisen}
use Rattle.pr_script.specs.declared.decl.Decl.{Decl}
use Rattle.pr_sim.specs.Making.{declared_of}
use Rattle.pr_sim.proofs.Telling.{many_places}
use Rattle.pr_text.specs.Endings.{ok_line}
use Rattle.pr_top.specs.Progress.{Writes}
use Rattle.pr_top.proofs.running.end.Goals as goal

pub returns-clause-told : goal.returns-clause-told
returns-clause-told g c = λ h tells.
    let ds = c.args.script.now.decls.list in
    let places = c.history.ensures (declared_of ds) h tells in
    let many = ap (λ (ps : List (ℕ × ℕ)). length ps) places ∙ many_places h in
    let count = ap (λ (n : ℕ). length c.as_slice.result.now + n) many ∙ ap (λ (xs : List Decl). length xs + length h) c.as_slice.ensures in
    subst (λ (n : ℕ). Writes (ok_line n) (HasRisen (g.K.Sink.faults c.args.out.now) (g.K.Sink.faults c.close.new.out)) (g.K.Sink.text c.args.out.now) (g.K.Sink.text c.close.new.out) c.close.result) count c.close.ensures.told
