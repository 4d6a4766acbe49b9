use Rattle.std.proofs.Common.{arith, None, [], sym, ◌∙◌, refl}
use Rattle.std.proofs.lemmas.Bool.{false≢true}
use Rattle.pr_sets.proofs.Meetings.{nothing_shared, none_shared, overlap_meets, span_at}
use Rattle.pr_names.proofs.Places.{bound_le_places, bound_lt_places}
use Rattle.pr_sets.proofs.Turns.{left_turn, right_turn, left_past, right_past}
use Rattle.pr_sets.proofs.meeting.meets.Goals as goal

pub returns-then-meets : goal.returns-then-meets
returns-then-meets c = (
  λ _. overlap_meets c.args.a.now c.args.b.now c.loop-i.i c.loop-i.j c.index-a-i.result c.index-b-j.result (omega arith) (omega arith) c.index-a-i.is c.index-b-j.is
      (c.meets.ensures.0 c.if-meets.true),
  λ _. refl,
)

pub loop-i-preserved-then-ends_before : goal.loop-i-preserved-then-ends_before
loop-i-preserved-then-ends_before c = record {
  left = omega arith;
  right = omega arith;
  told = right_turn {out = []} {r = None} (record {
    left_set = c.requires.a;
    right_set = c.requires.b;
    left = omega arith;
    right = omega arith;
    left_is = c.index-a-i.is;
    right_is = c.index-b-j.is;
    shares = nothing_shared c.index-a-i.result c.index-b-j.result
        (span_at c.args.a.now c.loop-i.i c.index-a-i.result c.requires.a (omega arith) c.index-a-i.is)
        (span_at c.args.b.now c.loop-i.j c.index-b-j.result c.requires.b (omega arith) c.index-b-j.is)
        (λ o. false≢true (sym c.if-meets.false ∙ c.meets.ensures.1 o));
    adds = refl;
    told = c.loop-i.invariant.told;
  }) (bound_lt_places c.index-b-j.result.hi c.index-a-i.result.hi c.ends_before.ensures.interval.hi c.ends_before.ensures.other.hi (sym c.ends_before.ensures.value ∙ c.if-ends_before.true));
}

pub loop-i-preserved : goal.loop-i-preserved
loop-i-preserved c = record {
  left = omega arith;
  right = omega arith;
  told = left_turn {out = []} {r = None} (record {
    left_set = c.requires.a;
    right_set = c.requires.b;
    left = omega arith;
    right = omega arith;
    left_is = c.index-a-i.is;
    right_is = c.index-b-j.is;
    shares = nothing_shared c.index-a-i.result c.index-b-j.result
        (span_at c.args.a.now c.loop-i.i c.index-a-i.result c.requires.a (omega arith) c.index-a-i.is)
        (span_at c.args.b.now c.loop-i.j c.index-b-j.result c.requires.b (omega arith) c.index-b-j.is)
        (λ o. false≢true (sym c.if-meets.false ∙ c.meets.ensures.1 o));
    adds = refl;
    told = c.loop-i.invariant.told;
  }) (bound_le_places c.index-b-j.result.hi c.index-a-i.result.hi c.ends_before.ensures.interval.hi c.ends_before.ensures.other.hi (sym c.ends_before.ensures.value ∙ c.if-ends_before.false));
}

pub returns-else-j-b : goal.returns-else-j-b
returns-else-j-b c = (
  λ h. absurd (false≢true h),
  λ m. absurd (none_shared c.args.a.now c.args.b.now c.requires.a c.requires.b (right_past c.args.a.now c.args.b.now [] c.loop-i.i c.loop-i.j (omega arith) c.loop-i.invariant.told) m),
)

pub returns-after-loop-i : goal.returns-after-loop-i
returns-after-loop-i c = (
  λ h. absurd (false≢true h),
  λ m. absurd (none_shared c.args.a.now c.args.b.now c.requires.a c.requires.b (left_past c.args.a.now c.args.b.now [] c.loop-i.i c.loop-i.j (omega arith) c.loop-i.invariant.told) m),
)
