use Rattle.std.proofs.Common.{rules, ap, ◌∙◌, sym, subst, [], ◌∷◌, ◌++◌, ◌≡◌, Some, append_assoc, drop, length}
use Rattle.atomic_table.specs.Table.{rest}
use Rattle.pr_cell.specs.declared.view.Stage.TheVariants.{Booked}
use Rattle.pr_cell.specs.Steps.{at_stage, carried}
use Rattle.pr_cell.proofs.Puts.{books, advances, dropped}
use Rattle.pr_cell.proofs.cell.Cell.put.Goals as goal

pub fetch_add-requires : goal.fetch_add-requires
fetch_add-requires g c =
    let e : c.exchange.new.seat.me ≡ (c.args.turn.seat.me.0, (0, Some c.args.turn.value) ∷ []) = c.exchange.ensures.3 ∙ ap (λ l. (c.args.turn.seat.me.0, (0, Some c.args.turn.value) ∷ rest l)) c.requires.turn.slot in
    let v = ap (λ m. m.0) e in
    let new = c.requires.value.0 in (
      search rules,
      search rules,
      books _ _ _ _ _ _ c.args.turn.value new (ap (λ w. w.stage) v ∙ c.requires.turn.holding) (ap (λ w. w.opening) v ∙ c.requires.turn.opening) (ap (λ w. w.other) v ∙ c.requires.turn.alone) (ap (λ m. m.1) e)
          (c.requires.value.1 ∙ (append_assoc _ _ new ∙ (λ i. c.requires.turn.opening i ++ (sym (ap (λ w. w.main.since) v) i ++ new))))
          (subst (λ n. Rattle.std.specs.Prelude.All (λ x. g.T.Storied.number x ≡ n) new) (sym (ap (λ w. w.number) v ∙ c.requires.turn.number)) c.requires.value.2),
    )

pub fetch_add-requires-2 : goal.fetch_add-requires-2
fetch_add-requires-2 g c =
    let e : c.exchange.new.seat.me ≡ (c.args.turn.seat.me.0, (0, Some c.args.turn.value) ∷ []) = c.exchange.ensures.3 ∙ ap (λ l. (c.args.turn.seat.me.0, (0, Some c.args.turn.value) ∷ rest l)) c.requires.turn.slot in
    let b = c.fetch_add.ensures in
    let after : c.fetch_add.new.seat.me.0 ≡ at_stage Booked (drop (length c.args.turn.seat.me.0.opening) (g.T.Storied.entries c.args.turn.value)) c.args.turn.seat.me.0 =
    b.2.1 ∙ ap (λ m. at_stage Booked (drop (length m.0.opening) (carried g.T.Storied.entries m.1)) m.0) e in
    let d = dropped c.args.turn.seat.me.0.opening c.args.turn.seat.me.0.main.since c.requires.value.0 (g.T.Storied.entries c.args.turn.value) c.requires.value.1 in (
      search rules,
      search rules,
      advances _ _ _ _ _ _ c.args.turn.value (ap (λ w. w.stage) after) (b.2.0 ∙ ap (λ m. m.1) e)
          (c.requires.value.1 ∙ (append_assoc _ _ c.requires.value.0 ∙ (λ i. c.requires.turn.opening i ++ sym (ap (λ w. w.main.since) after ∙ d) i))),
    )
