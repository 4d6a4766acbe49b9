use Rattle.std.proofs.Common.{◌≡◌, List, arith, subst, sym, ◌∙◌}
use Rattle.pr_names.specs.Span.{Span}
use Rattle.pr_names.proofs.Places.{bound_le_places, bound_lt_places}
use Rattle.pr_sets.specs.Spans.{IsIntersection}
use Rattle.pr_sets.proofs.Intersections.{shared_is}
use Rattle.pr_sets.proofs.Parts.{shared_of}
use Rattle.pr_sets.proofs.SpanEnds.{left_shared, right_shared}
use Rattle.pr_sets.proofs.Turns.{left_turn, right_turn, left_past, right_past}
use Rattle.pr_sets.proofs.intersection.intersection.Goals as goal
use Rattle.pr_sets.proofs.intersection.intersection.Goals.{then-loop-i-test+else-j-b, else-loop-i-test}

pub loop-i-preserved-then-ends_before : goal.loop-i-preserved-then-ends_before
loop-i-preserved-then-ends_before c = record {
  left = omega arith;
  right = omega arith;
  told = right_turn (record {
    left_set = c.requires.a;
    right_set = c.requires.b;
    left = omega arith;
    right = omega arith;
    left_is = c.index-a-i.is;
    right_is = c.index-b-j.is;
    shares = c.later_part.ensures ∙ right_shared c.index-a-i.result c.index-b-j.result (sym c.ends_before.ensures.value ∙ c.if-ends_before.true);
    adds = c.in_ok-push_some.ensures;
    told = c.loop-i.invariant.told;
  }) (bound_lt_places c.index-b-j.result.hi c.index-a-i.result.hi c.ends_before.ensures.interval.hi c.ends_before.ensures.other.hi (sym c.ends_before.ensures.value ∙ c.if-ends_before.true));
}

pub loop-i-preserved : goal.loop-i-preserved
loop-i-preserved c = record {
  left = omega arith;
  right = omega arith;
  told = left_turn (record {
    left_set = c.requires.a;
    right_set = c.requires.b;
    left = omega arith;
    right = omega arith;
    left_is = c.index-a-i.is;
    right_is = c.index-b-j.is;
    shares = c.later_part-else-ends_before.ensures ∙ left_shared c.index-a-i.result c.index-b-j.result c.ends_before.ensures.other c.ends_before.ensures.interval (sym c.ends_before.ensures.value ∙ c.if-ends_before.false);
    adds = c.in_ok-push_some-2.ensures;
    told = c.loop-i.invariant.told;
  }) (bound_le_places c.index-b-j.result.hi c.index-a-i.result.hi c.ends_before.ensures.interval.hi c.ends_before.ensures.other.hi (sym c.ends_before.ensures.value ∙ c.if-ends_before.false));
}

pub returns : goal.returns
returns c =
    let all : c.loop-i.both ≡ shared_of c.args.a.now c.args.b.now = elim c.loop-i-test.branch [
      | then-loop-i-test+else-j-b w ↦ right_past c.args.a.now c.args.b.now c.loop-i.both c.loop-i.i c.loop-i.j (omega arith) c.loop-i.invariant.told
      | else-loop-i-test w ↦ left_past c.args.a.now c.args.b.now c.loop-i.both c.loop-i.i c.loop-i.j (omega arith) c.loop-i.invariant.told
    ] in
    let P : List Span → Type 0 = λ both. IsIntersection c.args.a.now c.args.b.now both in
    subst P (sym all) (shared_is c.args.a.now c.args.b.now c.requires.a c.requires.b)
