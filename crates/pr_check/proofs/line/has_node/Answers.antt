use Rattle.std.proofs.Common.{◌∙◌, List, ℕ, not, length, ap}
use Rattle.std.specs.Prelude.{◌==◌}
use Rattle.pr_check.proofs.LineRead.{has_node}
use Rattle.pr_check.proofs.line.has_node.Goals as goal

pub returns : goal.returns
returns c = has_node c.args.decls.now.list c.requires (not c.is_empty.result) (ap not (c.is_empty.ensures ∙ ap (λ (l : List ℕ). length l == 0) c.label.ensures))
