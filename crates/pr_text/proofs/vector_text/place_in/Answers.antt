use Rattle.std.proofs.Common.{rules, refl, ◌≡◌, ◌∙◌, ap, length, arith, ℕ, []}
use Rattle.pr_text.specs.Texts.{part}
use Rattle.pr_text.proofs.Parts.{is_but}
use Rattle.pr_text.proofs.vector_text.place_in.Goals as goal

pub returns-in_ok-checked_add : goal.returns-in_ok-checked_add
returns-in_ok-checked_add c =
    let some : c.args.other.now.text ≡ [] → ⊥ = search rules in
    is_but c.args.pieces.now c.args.node c.index-pieces-node.result c.args.other.now.vector c.args.vector.now c.args.other.now.text _ _ _
    (omega (arith, c.if-node-pieces.false)) c.index-pieces-node.is some c.requires c.in_ok-start.ensures
    (c.in_ok-len.ensures ∙ ap (λ (k : ℕ). length (part c.index-pieces-node.result k)) c.clock_at.ensures) c.in_ok-checked_add.ensures.1 (λ n lt. c.if-is_same_but.ensures refl n)
