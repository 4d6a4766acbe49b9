use Rattle.std.proofs.Common.{◌∙◌, arith, drop}
use Rattle.std.proofs.lemmas.List.{length-drop}
use Rattle.pr_story.specs.declared.entry.Entry.{Entry}
use Rattle.pr_crew.proofs.Filling.{mapped_all, times_more}
use Rattle.pr_crew.proofs.room.times_behind.Goals as goal

pub loop-at-preserved : goal.loop-at-preserved
loop-at-preserved c = record {
  times = c.push_reserved.ensures.items ∙ times_more c.args.journal.now.items c.args.opened c.loop-at.at c.entry.result.now c.loop-at.times.items (omega (arith, c.loop-at-test.true, c.len.ensures)) (c.entry.ensures c.entry.result.now) c.loop-at.invariant.times;
  room = omega (arith, c.push_reserved.ensures.capacity, c.loop-at.invariant.room);
}

pub returns-clause-times : goal.returns-clause-times
returns-clause-times c = mapped_all (λ (e : Entry). e.time) (drop c.args.opened c.args.journal.now.items) c.loop-at.at c.loop-at.times.items c.loop-at.invariant.times (omega (arith, c.loop-at-test.false, c.len.ensures, length-drop c.args.opened c.args.journal.now.items))
