use Rattle.std.proofs.Common.{inl, inr, sym, ◌∙◌, arith}
use Rattle.std.proofs.lemmas.Bool.{cases_lt}
use Rattle.std.proofs.lemmas.List.{get_or_past}
use Rattle.pr_text.proofs.packed.is_same_but.Goals as goal

pub returns-then-node-lt32 : goal.returns-then-node-lt32
returns-then-node-lt32 c t n other = elim (cases_lt n 32) [
  | inl within ↦ c.is_but.ensures.0 t n within other
  | inr past ↦ get_or_past c.args.a.now n 0 (omega (arith, past, c.at.ensures.range.nodes)) ∙ sym (get_or_past c.args.b.now n 0 (omega (arith, past, c.at-2.ensures.range.nodes)))
]
