use Rattle.std.proofs.Common.{rules, ap, ◌∙◌, sym, subst, ◌∷◌, ◌++◌, Some, append_assoc}
use Rattle.atomic_table.specs.Table.{rest}
use Rattle.pr_cell.proofs.Basics.{filter_past}
use Rattle.pr_cell.proofs.Takes.{draws, looks, got}
use Rattle.pr_cell.proofs.cell.Cell.take.Goals as goal

pub fetch_add-ticket-requires : goal.fetch_add-ticket-requires
fetch_add-ticket-requires g c = (search rules, search rules, draws _ _ _ _ _ _ (search rules) (search rules) (search rules))

pub load-served-requires : goal.load-served-requires
load-served-requires g c = (search rules, search rules, looks _ _ _ _ _ _ c.fetch_add-ticket.result (ap (λ m. m.0.stage) c.loop.invariant.1) (ap (λ m. m.0.opening) c.loop.invariant.1 ∙ c.requires.pass.opening))

pub exchange-requires : goal.exchange-requires
exchange-requires g c =
    let h = (c.load-served.ensures.2 c.fetch_add-ticket.result (ap (λ m. m.0.stage) c.loop.invariant.1)).0 (search rules) in
    (search rules, (Some h.0, h.2 ∙ ap (λ cs. (0, Some h.0) ∷ cs) (sym (ap rest h.2))))

pub returns-then-served-ticket-clause-shown : goal.returns-then-served-ticket-clause-shown
returns-then-served-ticket-clause-shown g c =
    let m = c.loop.invariant.1 in
    let h = (c.load-served.ensures.2 c.fetch_add-ticket.result (ap (λ m. m.0.stage) m)).0 (search rules) in
    let e = got _ _ _ h.0 c.in-Some-exchange.value _ h.2 c.exchange.ensures.2 c.in-Some-exchange.is in
    let after = ap (λ w. w.0) c.exchange.ensures.3 ∙ h.5 in
    ap g.T.Storied.entries e ∙ (h.3 ∙ sym (ap (λ w. w.opening ++ w.main.since) after))

pub returns-then-served-ticket-clause-grown : goal.returns-then-served-ticket-clause-grown
returns-then-served-ticket-clause-grown g c =
    let m = c.loop.invariant.1 in
    let h = (c.load-served.ensures.2 c.fetch_add-ticket.result (ap (λ m. m.0.stage) m)).0 (search rules) in
    let after = ap (λ w. w.0) c.exchange.ensures.3 ∙ h.5 in
    let same = ap (λ w. w.opening ++ w.main.since) after in (
      h.1,
      same ∙ (sym (append_assoc c.loop.seat.me.0.opening c.loop.seat.me.0.main.since h.1) ∙ ap (λ n. (n.0.opening ++ n.0.main.since) ++ h.1) m),
      subst (λ hs. Rattle.pr_cell.specs.Rule.IsPast g.T.Storied.number hs h.1) (ap (λ n. n.0.main.held) m) h.4,
    )

pub returns-then-served-ticket-clause-mine : goal.returns-then-served-ticket-clause-mine
returns-then-served-ticket-clause-mine g c =
    let m = c.loop.invariant.1 in
    let h = (c.load-served.ensures.2 c.fetch_add-ticket.result (ap (λ m. m.0.stage) m)).0 (search rules) in
    let after = ap (λ w. w.main.since) (ap (λ w. w.0) c.exchange.ensures.3 ∙ h.5) in
    λ k has. filter_past g.T.Storied.number k c.args.pass.seat.me.0.main.held c.args.pass.seat.me.0.main.since h.1 c.exchange.new.seat.me.0.main.since has
    (after ∙ ap (λ n. n.0.main.since ++ h.1) m)
    (subst (λ hs. Rattle.pr_cell.specs.Rule.IsPast g.T.Storied.number hs h.1) (ap (λ n. n.0.main.held) m) h.4)
