use Rattle.std.proofs.Common.{◌∙◌, List, arith, reverse, take}
use Rattle.pr_story.specs.declared.entry.Entry.{Entry}
use Rattle.pr_story.proofs.NewestFirst.{with_all, with_more}
use Rattle.pr_node.specs.Ties.{IsTied}
use Rattle.pr_node.proofs.Rebuilt.{may_tell}
use Rattle.pr_node.proofs.rebuilding.rebuilt.Goals as goal

pub tell-requires : goal.tell-requires
tell-requires c = (
  c.args.id,
  reverse (take c.loop-place.place c.args.journal.now.items),
  c.loop-place.invariant.tied,
  may_tell c.args.id c.args.journal.now.items c.loop-place.place c.entry.result.now (omega (arith, c.loop-place-test.true, c.len-place-end.ensures)) (c.entry.ensures c.entry.result.now) c.requires.told,
)

pub loop-place-preserved : goal.loop-place-preserved
loop-place-preserved c = record {
  tied = with_more (λ (j : List Entry). IsTied c.args.id j c.tell.new.stores) c.args.journal.now.items c.loop-place.place c.entry.result.now (omega (arith, c.loop-place-test.true, c.len-place-end.ensures)) (c.entry.ensures c.entry.result.now)
      (c.in_ok-tell.ensures.tied c.args.id (reverse (take c.loop-place.place c.args.journal.now.items)) c.entry.result.now.time c.entry.result.now.caller c.loop-place.invariant.tied
      (may_tell c.args.id c.args.journal.now.items c.loop-place.place c.entry.result.now (omega (arith, c.loop-place-test.true, c.len-place-end.ensures)) (c.entry.ensures c.entry.result.now) c.requires.told));
  sets = c.tell.ensures.sets ∙ c.loop-place.invariant.sets;
}

pub returns-clause-tied : goal.returns-clause-tied
returns-clause-tied c = with_all (λ (j : List Entry). IsTied c.args.id j c.loop-place.stores) c.args.journal.now.items c.loop-place.place (omega (arith, c.loop-place-test.false, c.len-place-end.ensures)) c.loop-place.invariant.tied
