use Rattle.std.proofs.Common.{arith, refl, sym, ◌∙◌}
use Rattle.std.proofs.lemmas.Bool.{false≢true}
use Rattle.pr_names.proofs.Places.{bound_le_places, bound_lt_places, le_places, lt_places}
use Rattle.pr_sets.proofs.Meetings.{right_step, left_step, not_within, within_end}
use Rattle.pr_sets.proofs.containment.within.Goals as goal
use Rattle.pr_sets.proofs.containment.within.Goals.{then-loop-i-test+else-j-b, else-loop-i-test}

pub loop-i-preserved-then-ends_before : goal.loop-i-preserved-then-ends_before
loop-i-preserved-then-ends_before c = record {
  left = omega arith;
  right = omega arith;
  told = right_step c.args.a.now c.args.b.now c.loop-i.i c.loop-i.j c.index-a-i.result c.index-b-j.result (record {
    left_set = c.requires.a;
    right_set = c.requires.b;
    left = omega arith;
    right = omega arith;
    left_is = c.index-a-i.is;
    right_is = c.index-b-j.is;
    told = c.loop-i.invariant.told;
  })
      (bound_lt_places c.index-b-j.result.hi c.index-a-i.result.hi c.ends_before.ensures.interval.hi c.ends_before.ensures.other.hi (sym c.ends_before.ensures.value ∙ c.if-ends_before.true));
}

pub returns-then-begins_before : goal.returns-then-begins_before
returns-then-begins_before c = (
  λ h. absurd (false≢true h),
  λ h. absurd (not_within c.args.a.now c.args.b.now c.loop-i.i c.loop-i.j c.index-a-i.result c.index-b-j.result (record {
    left_set = c.requires.a;
    right_set = c.requires.b;
    left = omega arith;
    right = omega arith;
    left_is = c.index-a-i.is;
    right_is = c.index-b-j.is;
    told = c.loop-i.invariant.told;
  })
      (lt_places c.index-a-i.result.lo c.index-b-j.result.lo c.begins_before.ensures.interval.lo c.begins_before.ensures.other.lo (sym c.begins_before.ensures.value ∙ c.if-begins_before.true))
      h),
)

pub loop-i-preserved : goal.loop-i-preserved
loop-i-preserved c = record {
  left = omega arith;
  right = omega arith;
  told = left_step c.args.a.now c.args.b.now c.loop-i.i c.loop-i.j c.index-a-i.result c.index-b-j.result (record {
    left_set = c.requires.a;
    right_set = c.requires.b;
    left = omega arith;
    right = omega arith;
    left_is = c.index-a-i.is;
    right_is = c.index-b-j.is;
    told = c.loop-i.invariant.told;
  })
      (bound_le_places c.index-b-j.result.hi c.index-a-i.result.hi c.ends_before.ensures.interval.hi c.ends_before.ensures.other.hi (sym c.ends_before.ensures.value ∙ c.if-ends_before.false))
      (le_places c.index-a-i.result.lo c.index-b-j.result.lo c.begins_before.ensures.interval.lo c.begins_before.ensures.other.lo (sym c.begins_before.ensures.value ∙ c.if-begins_before.false));
}

pub returns : goal.returns
returns c =
    within_end c.args.a.now c.args.b.now c.loop-i.i c.loop-i.j _ c.requires.a (omega arith)
    (elim c.loop-i-test.branch [ then-loop-i-test+else-j-b w ↦ λ lt. omega arith | else-loop-i-test w ↦ λ lt. absurd (omega arith) ])
    refl c.loop-i.invariant.told
