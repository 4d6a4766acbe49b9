use Rattle.std.proofs.Common.{◌≡◌, ◌+◌, ◌∙◌, ℕ, List, length, ap}
use Rattle.pr_script.specs.declared.decl.Decl.{Decl}
use Rattle.pr_sim.specs.Making.{declared_of}
use Rattle.pr_sim.proofs.Telling.{many_places}
use Rattle.pr_check.proofs.reading.lines.Goals as goal

pub returns : goal.returns
returns c h t =
    let d = declared_of c.args.transcript.now.decls.list in
    let many : length c.history.result.now ≡ length h = ap (λ (xs : List (ℕ × ℕ)). length xs) (c.history.ensures d h t) ∙ many_places h in
    ap (λ (k : ℕ). k + length c.history.result.now) (ap (λ (xs : List Decl). length xs) c.as_slice.ensures) ∙ ap (λ (k : ℕ). length c.args.transcript.now.decls.list + k) many
