-- A turn, after a write through `value`.
use Rattle.std.specs.Borrow.{Lends, MutBor, Fml}
use denote.RattleType.{RattleType}
use Rattle.pr_cell.specs.declared.turn.Turn.{Turn}
use Rattle.pr_cell.specs.contracts.turn.Turn.{the_row}

abbrev pub with_value : {T E : Type 0} → Turn T E → T → Turn T E
with_value t w = record t { value = w }

abbrev pub LendsValue : (T E : RattleType) → MutBor (Turn T.Denot E.Denot) → MutBor T.Denot → Fml
LendsValue T E s r = Lends (the_row T E) T s r (with_value s.now)
