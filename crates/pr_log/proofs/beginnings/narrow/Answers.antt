use Rattle.std.proofs.Common.{arith}
use Rattle.pr_log.specs.Sets.{begins_at}
use Rattle.pr_log.proofs.Turns.{narrow_more, narrow_rest, narrow_all, others_end}
use Rattle.pr_log.proofs.beginnings.narrow.Goals as goal

pub loop-start-preserved : goal.loop-start-preserved
loop-start-preserved c = record {
  from = omega (arith, c.loop-start.invariant.from, c.in-Some.ensures.within.0);
  end = omega (arith, c.in-Some.ensures.within.1);
  done = narrow_more (begins_at c.args.sets.now.entries) (begins_at c.loop-start.sets.entries) (begins_at c.insert.new.self.entries) c.args.target.now c.args.lo c.loop-start.clock c.in-Some.start c.in-Some.set.now c.in_ok-narrowed.narrowed c.loop-start.invariant.from c.in-Some.ensures.within.0 c.in-Some.ensures.entry c.in-Some.ensures.first c.in_ok-narrowed.ensures c.in_ok-insert.ensures.updates.0 c.loop-start.invariant.done c.loop-start.invariant.rest;
  rest = narrow_rest (begins_at c.args.sets.now.entries) (begins_at c.loop-start.sets.entries) (begins_at c.insert.new.self.entries) c.args.lo c.loop-start.clock c.in-Some.start c.in_ok-narrowed.narrowed c.loop-start.invariant.from c.in-Some.ensures.within.0 c.in_ok-insert.ensures.updates.0 c.loop-start.invariant.rest;
}

pub returns-clause-within : goal.returns-clause-within
returns-clause-within c = narrow_all (begins_at c.args.sets.now.entries) (begins_at c.loop-start.sets.entries) c.args.target.now c.args.lo c.loop-start.clock c.args.hi c.in_default.ensures.none c.loop-start.invariant.done c.loop-start.invariant.rest

pub returns-clause-others : goal.returns-clause-others
returns-clause-others c = others_end (begins_at c.args.sets.now.entries) (begins_at c.loop-start.sets.entries) c.args.lo c.loop-start.clock c.args.hi c.loop-start.invariant.end c.loop-start.invariant.rest
