use Rattle.std.proofs.Common.{arith}
use Rattle.pr_log.specs.Sets.{is_gathered}
use Rattle.pr_log.proofs.Turns.{dark_more, dark_end}
use Rattle.pr_log.proofs.beginnings.collect.Goals as goal

pub loop-start-preserved : goal.loop-start-preserved
loop-start-preserved c = record {
  from = omega (arith, c.loop-start.invariant.from, c.in-Some.ensures.within.0);
  within = c.in-Some.ensures.within.1;
  names = λ o name. dark_more c.args.sets.now.entries c.args.lo c.loop-start.clock c.in-Some.start c.in-Some.set.now o (is_gathered c.add_copy.new.self o) (is_gathered c.loop-start.names o) (is_gathered c.args.names.now o) c.loop-start.invariant.from (omega (arith, c.in-Some.ensures.within.0)) c.in-Some.ensures.entry c.in-Some.ensures.first (c.in_ok-add_copy.ensures o name) (c.loop-start.invariant.names o name);
}

pub returns : goal.returns
returns c o name = dark_end c.args.sets.now.entries c.args.lo c.loop-start.clock c.args.hi o (is_gathered c.loop-start.names o) (is_gathered c.args.names.now o) c.loop-start.invariant.from c.loop-start.invariant.within c.in_default.ensures.none (c.loop-start.invariant.names o name)
