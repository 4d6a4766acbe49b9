use Rattle.std.proofs.Common.{inr, sym}
use Rattle.pr_top.proofs.ServedRuns.{has_served_from}
use Rattle.pr_top.proofs.serving.serve.Goals as goal

pub returns-in-Some : goal.returns-in-Some
returns-in-Some g c = inr (record {
  script = c.in-Ok.front.script;
  node = c.in-Some.node;
  behind = _;
  front = c.in-Ok.ensures.so.0;
  node_is = sym c.in-Some.ensures.number;
  serves = has_served_from c.answer_asks.result c.in-Ok.front.script c.in-Some.node _ (g.S.Source.faults c.args.source.now) (g.S.Source.faults c.read_front.new.source) _ _ _ _ c.in-Ok.ensures.rises c.answer_asks.ensures;
})
