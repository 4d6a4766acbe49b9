use Rattle.std.proofs.Common.{ap, ◌∙◌, sym, subst, ◌++◌, ◌<◌}
use mathlib.Core.Option.{some-injective}
use Rattle.pr_cell.proofs.Ends.{closes}
use Rattle.pr_cell.proofs.Takes.{some_of}
use Rattle.pr_cell.proofs.cell.Cell.close.Goals as goal

pub unreachable-requires : goal.unreachable-requires
unreachable-requires g c =
    let h = closes g.T.Storied.entries g.T.Storied.number _ c.args.pass.seat.id c.args.pass.seat.me.0 _ _ c.requires.pass.idle c.requires.all.0 (λ k l. c.requires.all.1 k (subst (λ n. k < n) c.requires.pass.issued l)) c.close_with-closed.ensures.values.2 in
    c.in_default.not-Some h.0 (some-injective _ _ (sym c.take.ensures.value ∙ h.1))

pub returns-clause-seen : goal.returns-clause-seen
returns-clause-seen g c =
    let h = closes g.T.Storied.entries g.T.Storied.number _ c.args.pass.seat.id c.args.pass.seat.me.0 _ _ c.requires.pass.idle c.requires.all.0 (λ k l. c.requires.all.1 k (subst (λ n. k < n) c.requires.pass.issued l)) c.close_with-closed.ensures.values.2 in
    let e = some-injective _ _ (sym c.take.ensures.value ∙ h.1) in
    ap g.T.Storied.entries (ap (some_of h.0) (sym c.in-Some.is ∙ e)) ∙ (h.2 ∙ ap (λ o. o ++ c.args.pass.seat.me.0.main.since) (sym c.requires.pass.opening))

pub returns-clause-numbers : goal.returns-clause-numbers
returns-clause-numbers g c =
    (closes g.T.Storied.entries g.T.Storied.number _ c.args.pass.seat.id c.args.pass.seat.me.0 _ _ c.requires.pass.idle c.requires.all.0 (λ k l. c.requires.all.1 k (subst (λ n. k < n) c.requires.pass.issued l)) c.close_with-closed.ensures.values.2).3
