use Rattle.std.proofs.Common.{◌∙◌, ◌++◌, ◌-◌, List, ℕ, ap, take}
use Rattle.pr_text.specs.Endings.{ok_line}
use Rattle.pr_check.proofs.Compared.{is_end}
use Rattle.pr_check.proofs.replay.is_ok.Goals as goal

pub returns : goal.returns
returns c =
    is_end c.args.lines c.args.line.now c.ok.new.out c.as_slice.result.now c.eq.result
    (c.in_ok-ok.ensures.ok ∙ ap (λ (xs : List ℕ). xs ++ ok_line c.args.lines) c.new-text.ensures)
    (c.as_slice.ensures ∙ c.truncate.ensures ∙ ap (λ (n : ℕ). take (n - 1) c.ok.new.out) c.len.ensures) c.eq.ensures
