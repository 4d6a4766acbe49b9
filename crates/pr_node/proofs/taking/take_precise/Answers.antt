use Rattle.std.proofs.Common.{inl, inr}
use Rattle.pr_story.proofs.Known.{known_told}
use Rattle.pr_snap.proofs.Choice.{by_test}
use Rattle.pr_node.proofs.Refining.{precise_tied}
use Rattle.pr_node.proofs.taking.take_precise.Goals as goal

pub returns-clause-taken : goal.returns-clause-taken
returns-clause-taken c =
    λ n j time caller msg at is tied.
    precise_tied n j _ _ time caller msg at _ _ _ _ c.empty-none.ensures is c.requires.grammar tied c.in_ok-refine.ensures.ok c.in_ok-cover.ensures.ok
    (by_test c.knows-known.result (λ known. inr (c.settle.ensures.known known)) (λ new. inl (c.settle.ensures.new new)))
    (by_test c.knows-known.result
    (λ known. inr (c.mark.ensures.known known, known_told j c.args.write.now ((tied.log.knows c.args.write.now (c.knows-known.ensures.uncut known)).0 (c.knows-known.ensures.known known))))
    (λ new. inl (c.in_ok-mark.ensures.new new)))

pub returns-clause-bodies : goal.returns-clause-bodies
returns-clause-bodies c = by_test c.knows-known.result
    (λ known. inr (c.settle.ensures.known known, c.knows-known.ensures.known known))
    (λ new. inl (c.settle.ensures.new new))
