use Rattle.std.proofs.Common.{rules, ap, ◌∙◌, subst, ◌≡◌}
use Rattle.pr_cell.specs.Steps.{IsUpTo, longer}
use Rattle.pr_cell.proofs.Basics.{filter_past}
use Rattle.pr_cell.proofs.Seats.{joins}
use Rattle.pr_cell.proofs.Ends.{learns}
use Rattle.pr_cell.proofs.cell.Cell.join_pass.Goals as goal

pub join_seat-requires : goal.join_seat-requires
join_seat-requires g c = (search rules, search rules, search rules, search rules, joins _ _ _ _ _ _ _ (search rules) (search rules) (search rules) (search rules))

pub load-requires : goal.load-requires
load-requires g c = let m = ap (λ m. m.0) c.join_seat.ensures.2 in (search rules, search rules, learns _ _ _ _ _ _ (ap (λ w. w.stage) m ∙ c.requires.into.idle) (search rules))

pub returns-clause-mine : goal.returns-clause-mine
returns-clause-mine g c =
    let number = g.T.Storied.number in
    let e = ap (λ m. m.0) c.join_seat.ensures.2 in
    let told = c.load.ensures.2 in
    let one : IsUpTo number c.args.into.seat.me.0.main (longer c.args.into.seat.me.0.main.since c.args.from.seat.me.0.main.since) = subst (λ w. IsUpTo number w.main (longer w.main.since w.other.since)) e told.2 in
    let two : IsUpTo number c.args.from.seat.me.0.main (longer c.args.into.seat.me.0.main.since c.args.from.seat.me.0.main.since) = subst (λ w. IsUpTo number w.other (longer w.main.since w.other.since)) e told.3 in
    let after : c.load.new.seat.me.0.main.since ≡ longer c.args.into.seat.me.0.main.since c.args.from.seat.me.0.main.since = ap (λ w. w.main.since) told.1 ∙ ap (λ w. longer w.main.since w.other.since) e in (
      (λ k has. filter_past number k c.args.into.seat.me.0.main.held c.args.into.seat.me.0.main.since one.0 c.load.new.seat.me.0.main.since has (after ∙ one.1) one.2),
      (λ k has. filter_past number k c.args.from.seat.me.0.main.held c.args.from.seat.me.0.main.since two.0 c.load.new.seat.me.0.main.since has (after ∙ two.1) two.2),
    )
