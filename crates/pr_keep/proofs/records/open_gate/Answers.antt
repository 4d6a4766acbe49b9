use Rattle.std.proofs.Common.{ℕ, List, ◌∷◌, sym, ap, ◌∙◌, arith}
use Rattle.pr_wire.specs.Spelling.{eight}
use Rattle.pr_wire.proofs.Fields.{eight_back}
use Rattle.pr_keep.proofs.records.open_gate.Goals as goal

pub returns : goal.returns
returns c =
    ap (λ (t : List ℕ). 1 ∷ t) (sym (eight_back c.args.len.now (omega arith) c.number_of.ensures.bytes) ∙ ap eight (sym c.number_of.ensures.value))
