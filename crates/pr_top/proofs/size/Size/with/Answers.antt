use Rattle.std.proofs.Common.{ℕ, List, ◌∙◌, ap, arith, refl}
use Rattle.pr_top.specs.Sizes.{line_ends}
use Rattle.pr_top.proofs.Counting.{too_long, with_piece}
use Rattle.pr_top.proofs.size.Size.with.Goals as goal

pub returns-then-ends-ge-MOST_LINES-clause-exact : goal.returns-then-ends-ge-MOST_LINES-clause-exact
returns-then-ends-ge-MOST_LINES-clause-exact c = λ before is.
    let front = c.line_ends.ensures.exact ∙ ap (λ (xs : List ℕ). line_ends xs) c.split_at.ensures.front in
    too_long c.args.self.now before c.args.piece.now is c.requires.some (omega (arith, front, c.if-ends-ge-MOST_LINES.true))

pub returns-clause-exact : goal.returns-clause-exact
returns-clause-exact c = λ before is.
    let front = c.line_ends.ensures.exact ∙ ap (λ (xs : List ℕ). line_ends xs) c.split_at.ensures.front in
    let back = c.line_ends-2.ensures.exact ∙ ap (λ (xs : List ℕ). line_ends xs) c.split_at.ensures.back in
    with_piece c.args.self.now _ before c.args.piece.now is c.requires.some (omega (arith, c.if-piece-self.false)) c.requires.bytes
    (omega (arith, front, c.if-ends-ge-MOST_LINES.false)) refl (omega (arith, front, back))
