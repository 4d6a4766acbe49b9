use Rattle.std.proofs.Common.{rules, sym, ◌∙◌}
use Rattle.std.proofs.lemmas.List.{get_or_default}
use Rattle.pr_marks.proofs.Listed.{forget_on}
use Rattle.pr_marks.proofs.marked.forget.Goals as goal

pub loop-at-preserved-then-forget_of : goal.loop-at-preserved-then-forget_of
loop-at-preserved-then-forget_of c =
    forget_on c.args.floor.now c.index.result.now c.args.rows.now.entries c.loop-at.rows.entries c.forget_of.new.rows.entries c.forget_of.ensures.forgets
    c.loop-at.at c.loop-at.marked.items c.loop-at.invariant (search rules)
    (λ d. get_or_default c.loop-at.marked.items c.loop-at.at d c.index.result.now (search rules) ∙ sym c.index.ensures)
