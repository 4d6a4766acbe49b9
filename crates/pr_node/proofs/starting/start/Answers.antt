use Rattle.std.proofs.Common.{◌≡◌, ◌+◌, ℕ, List, true, false, sym, ◌∙◌, subst, arith}
use Rattle.pr_sets.specs.Spans.{has}
use Rattle.pr_gaps.specs.Gaps.{set_at}
use Rattle.pr_node.proofs.Starts.{IsStartBelow, meets_same, start_is, start_more, start_same}
use Rattle.pr_node.proofs.starting.start.Goals as goal
use Rattle.pr_node.proofs.starting.start.Goals.{then-meets, else-meets}

pub loop-index-preserved : goal.loop-index-preserved
loop-index-preserved c = elim c.if-meets.branch [
  | then-meets w ↦
      start_more c.args.gaps.now c.args.names.now c.loop-index.index c.loop-index.start w.last_precise.result c.if-meets.start
      (meets_same (has c.set.result.now) (set_at c.args.gaps.now.sets c.loop-index.index) (has c.args.names.now) c.set.ensures (c.meets.ensures.0 w.if-meets.true))
      w.last_precise.ensures.value (w.start-is ∙ w.meet-start.ensures) c.loop-index.invariant
  | else-meets w ↦ subst (λ (v : List ℕ). IsStartBelow c.args.gaps.now c.args.names.now (c.loop-index.index + 1) v) (sym w.start-is)
      (start_same c.args.gaps.now c.args.names.now c.loop-index.index c.loop-index.start
      (λ m.
      let yes_it : c.meets.result ≡ true = c.meets.ensures.1 (meets_same (set_at c.args.gaps.now.sets c.loop-index.index) (has c.set.result.now) (has c.args.names.now) (λ o name. sym (c.set.ensures o name)) m) in
      let no_it : c.meets.result ≡ false = w.if-meets.false in cc)
      c.loop-index.invariant)
]

pub returns-clause-start : goal.returns-clause-start
returns-clause-start c n j f =
    start_is n j c.args.gaps.now c.args.names.now c.loop-index.index c.loop-index.start (omega (arith, c.sets-index-end.ensures, c.loop-index-test.false, c.loop-index.auto.index-end)) c.loop-index.invariant f
