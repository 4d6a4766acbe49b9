use Rattle.std.proofs.Common.{rules, ap, ◌≡◌, sym, subst, [], ◌∷◌, Some}
use Rattle.atomic_table.specs.Table.{opening}
use Rattle.pr_cell.specs.Rule.{IsKept, starting}
use Rattle.pr_cell.proofs.Ends.{starts}
use Rattle.pr_cell.proofs.cell.Cell.new.Goals as goal

pub new-requires : goal.new-requires
new-requires g c =
    let items : c.push.new.self.items ≡ Some c.args.value ∷ [] = search rules in
    subst (λ xs. IsKept g.T.Storied.entries g.T.Storied.number (g.T.Storied.entries c.of-key.result.value) (opening (0 ∷ 0 ∷ 0 ∷ []) xs (starting (g.T.Storied.entries c.of-key.result.value)))) (sym items)
    (starts _ _ _ c.args.value (ap g.T.Storied.entries (sym c.of-key.ensures)))
