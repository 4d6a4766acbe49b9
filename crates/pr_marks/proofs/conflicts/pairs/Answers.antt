use Rattle.std.proofs.Common.{◌≡◌, ◌∙◌, ℕ, ap, drop, reverse, arith, refl, ◌-◌}
use Rattle.pr_marks.proofs.FromLast.{all_pairs, pairs_back}
use Rattle.pr_marks.proofs.Looked.{stepped}
use Rattle.pr_marks.proofs.conflicts.pairs.Goals as goal

pub returns : goal.returns
returns c =
    let none_left : c.loop-count.count ≡ 0 = omega (arith, c.loop-count-test.false) in
    c.from_vec.ensures ∙ c.reverse.ensures.items
    ∙ ap reverse (c.loop-count.invariant.found ∙ ap (λ (n : ℕ). pairs_back (drop n c.args.marks.now)) none_left)
    ∙ all_pairs c.args.marks.now c.requires.rise

pub loop-count-preserved : goal.loop-count-preserved
loop-count-preserved c =
    stepped c.args.marks.now c.loop-count.later.items c.keep_conflicts.new.marks.items c.deref.result.now c.push.new.self.items c.loop-count.pairs.items c.add_pairs.new.pairs.items c.loop-count.count (c.loop-count.count - 1) c.left-count.result c.len.result c.index-marks-at.result
    c.loop-count.invariant c.index-marks-at.is refl c.loop-count-test.true c.keep_conflicts.ensures c.deref.ensures.value c.in_ok-add_pairs.ensures c.in_ok-push.ensures.items
    (c.len.ensures ∙ c.push.new.self.ok.0) c.left-count.ensures.most c.left-count.ensures.few c.left-count.ensures.free
