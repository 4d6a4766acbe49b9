use Rattle.std.proofs.Common.{◌∙◌, eq-eqb, sym}
use Rattle.pr_crew.proofs.Bits.{all_are, are_all, same_number}
use Rattle.pr_crew.proofs.meet_gate.are_set.Goals as goal

pub returns : goal.returns
returns c = (
  λ same. are_all c.args.word c.args.count (sym c.set_bits.ensures.value ∙ same_number c.set_bits.result c.args.count same),
  λ are. eq-eqb c.set_bits.result c.args.count (c.set_bits.ensures.value ∙ all_are c.args.word c.args.count are),
)
