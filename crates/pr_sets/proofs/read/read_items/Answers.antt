use Rattle.std.proofs.Common.{inr, arith}
use Rattle.std.proofs.lemmas.List.Elements.{All-push}
use Rattle.pr_names.specs.Span.{IsSpan}
use Rattle.pr_sets.proofs.Reading.{item_fault, item_turn, last_fault, last_turn, rest_shorter}
use Rattle.pr_sets.proofs.read.read_items.Goals as goal

pub returns-in-Err-clause-err : goal.returns-in-Err-clause-err
returns-in-Err-clause-err c =
    inr (item_fault c.loop-at.rest.now c.in-Some.at c.loop-at.index c.loop-at.parts.items c.in-Err.fault _ c.in-Some.ensures.value c.in-Err.ensures.value c.loop-at.invariant.told)

pub loop-at-preserved : goal.loop-at-preserved
loop-at-preserved c = record {
  told = item_turn c.loop-at.rest.now c.in-Some.at c.loop-at.index c.loop-at.parts.items c.push.new.self.items c.in-Ok.part _
      c.in-Some.ensures.value c.in-Ok.ensures.value c.in_ok-push-in-Ok.ensures.items c.loop-at.invariant.told;
  spans = rw c.in_ok-push-in-Ok.ensures.items (All-push IsSpan c.loop-at.parts.items c.in-Ok.part c.loop-at.invariant.spans c.in-Ok.ensures.interval);
  room = omega (arith, rest_shorter c.loop-at.rest.now c.in-Some.at c.in-Some.ensures.within, c.loop-at.invariant.room);
}

pub returns-in-Err-read-clause-err : goal.returns-in-Err-read-clause-err
returns-in-Err-read-clause-err c =
    inr (last_fault c.loop-at.rest.now c.loop-at.index c.loop-at.parts.items c.in-Err-read.fault _ c.in_default.ensures.value c.in-Err-read.ensures.value c.loop-at.invariant.told)

pub returns-clause-ok : goal.returns-clause-ok
returns-clause-ok c =
    last_turn c.loop-at.rest.now c.loop-at.index c.loop-at.parts.items c.push-in-Ok-read.new.self.items c.in-Ok-read.part _
    c.in_default.ensures.value c.in-Ok-read.ensures.value c.in_ok-push-in-Ok-read.ensures.items c.loop-at.invariant.told
