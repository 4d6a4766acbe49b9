use Rattle.std.proofs.Common.{ℕ, List, ◌∙◌, ap, reverse}
use Rattle.pr_vectors.specs.Vector.{below_of, join_of}
use Rattle.pr_story.proofs.Sendings.{some_withheld}
use Rattle.pr_story.proofs.plain.turns.ahead.Goals as goal

pub returns-in_ok-of-in-Some-4 : goal.returns-in_ok-of-in-Some-4
returns-in_ok-of-in-Some-4 c =
    some_withheld c.args.node (reverse c.args.entries.now) c.args.names.now c.args.position.now _ _ c.join-before.result c.in_ok-target-in-Some.target c.in-Some.write
    c.in_ok-of-in-Some-3.ensures c.in_ok-of-in-Some-4.ensures c.in_ok-target-in-Some.ensures c.in-Some.ensures
    (c.join-before.ensures ∙ ap (λ (v : List ℕ). join_of c.args.position.now v) (c.below.ensures ∙ ap (λ (v : List ℕ). below_of v c.in-Some.write.stamp) c.current_vector-vector.ensures))
    (c.in_ok-nothing-in-Some.ensures.some c.if-nothing.false)
