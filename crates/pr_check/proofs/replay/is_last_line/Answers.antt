use Rattle.std.proofs.Common.{◌≡◌, ◌+◌, ◌∙◌, ℕ, List, length, ap}
use Rattle.pr_script.specs.declared.decl.Decl.{Decl}
use Rattle.pr_sim.specs.Making.{declared_of}
use Rattle.pr_sim.proofs.Telling.{many_places}
use Rattle.pr_check.proofs.Compared.{one_end}
use Rattle.pr_check.proofs.replay.is_last_line.Goals as goal

pub returns : goal.returns
returns c h t =
    let d = declared_of c.args.decls.now.list in
    let many : length c.history.result.now ≡ length h = ap (λ (xs : List (ℕ × ℕ)). length xs) (c.history.ensures d h t) ∙ many_places h in
    one_end (length c.as_slice.result.now + length c.history.result.now) (length c.args.decls.now.list + length h) c.args.line.now c.is_ok.result (ap (λ (k : ℕ). k + length c.history.result.now) (ap (λ (xs : List Decl). length xs) c.as_slice.ensures) ∙ ap (λ (k : ℕ). length c.args.decls.now.list + k) many) c.is_ok.ensures
