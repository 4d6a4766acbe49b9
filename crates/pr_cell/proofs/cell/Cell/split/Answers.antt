use Rattle.std.proofs.Common.{rules, ap, ◌∙◌, sym, subst, ◌∷◌, ◌++◌, [], ◌≡◌, ℕ, ◌+◌, ◌-◌, arith, eqb, filter, Contains, Bool}
use Rattle.pr_cell.proofs.Basics.{filter_unmade}
use Rattle.pr_cell.proofs.Seats.{splits}
use Rattle.pr_cell.proofs.Ends.{counts}
use Rattle.pr_cell.proofs.cell.Cell.split.Goals as goal

pub load-requires : goal.load-requires
load-requires g c = (search rules, search rules, counts _ _ _ _ _ _)

pub split_seat-seat-requires : goal.split_seat-seat-requires
split_seat-seat-requires g c =
    let m = ap (λ m. m.0) c.load.ensures.2.0 in (
      search rules,
      search rules,
      splits _ _ _ _ _ (ap (λ w. w.stage) m ∙ c.requires.pass.idle) (ap (λ w. w.other) m ∙ c.requires.pass.alone) (search rules) (search rules) (search rules),
    )

pub returns-clause-number : goal.returns-clause-number
returns-clause-number g c =
    let n : (c.args.pass.now.issued + 1) - 1 ≡ c.args.pass.now.issued = omega arith in
    let is : c.load.new.seat.me.0.issued ≡ (c.args.pass.now.issued + 1) - 1 = ap (λ m. m.0.issued) c.load.ensures.2.0 ∙ (c.requires.pass.issued ∙ sym n) in
    (n, ap (λ m. m.0.main.held) c.split_seat-seat.ensures.4 ∙ ap (λ (z : ℕ). z ∷ []) is)

pub returns-clause-given : goal.returns-clause-given
returns-clause-given g c =
    let number = g.T.Storied.number in
    let before = c.load.ensures.2.0 in
    let after = ap (λ m. m.0) c.split_seat-seat.ensures.4 in
    let next : ℕ = (c.args.pass.now.issued + 1) - 1 in
    let is : next ≡ c.args.pass.now.seat.me.0.issued = let n : next ≡ c.args.pass.now.issued = omega arith in n ∙ sym c.requires.pass.issued in
    let zero_held : Contains c.args.pass.now.seat.me.0.main.held 0 = subst (Contains c.args.pass.now.seat.me.0.main.held) (c.requires.pass.number ∙ c.requires.room.0) c.requires.pass.own in
    let p : _ → Bool = λ e. eqb (number e) next in (
      ap (λ w. w.opening ++ w.main.since) after ∙ ap (λ m. m.0.opening ++ m.0.main.since) before,
      ap (λ w. filter p w.main.since) after ∙ (ap (λ m. filter p m.0.main.since) before
          ∙ filter_unmade number c.args.pass.now.seat.me.0.issued next c.args.pass.now.seat.me.0.main.since is (c.load.ensures.2.1 zero_held)),
    )
