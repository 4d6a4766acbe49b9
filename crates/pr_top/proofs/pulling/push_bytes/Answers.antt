use Rattle.std.proofs.Common.{◌++◌, ◌∷◌, ◌∙◌, [], List, ap, ℕ}
use Rattle.std.specs.Prelude.{decimal}
use Rattle.pr_top.proofs.PulledTexts.{bytes_line, if_pushed}
use Rattle.pr_top.proofs.pulling.push_bytes.Goals as goal

pub returns : goal.returns
returns c = if_pushed c.push.result _ _ c.push.ensures.ok (λ is. is ∙ ap (λ (t : List ℕ). t ++ 10 ∷ []) (c.in_ok-push_number.ensures.ok ∙ ap (λ (t : List ℕ). t ++ 32 ∷ decimal c.args.at) c.in_ok-extend.ensures.ok) ∙ bytes_line c.args.out.now c.args.at)
