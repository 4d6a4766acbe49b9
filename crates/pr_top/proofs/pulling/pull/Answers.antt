use Rattle.std.proofs.Common.{inr, sym}
use Rattle.pr_top.specs.Answers.{ports_of}
use Rattle.pr_top.specs.declared.status.Status.TheVariants as status
use Rattle.pr_top.proofs.PulledRuns.{ends_from}
use Rattle.pr_top.proofs.Refused.{refused_line}
use Rattle.pr_top.proofs.pulling.pull.Goals as goal

pub returns-in-Some : goal.returns-in-Some
returns-in-Some g c = inr (record {
  script = c.in-Ok.front.script;
  node = c.in-Some.node;
  behind = _;
  front = c.in-Ok.ensures.so.0;
  node_is = sym c.in-Some.ensures.number;
  pulls = ends_from c.pull_front.result c.in-Ok.front.script c.in-Some.node _ (g.S.Source.faults c.args.source.now) (g.S.Source.faults c.read_front.new.source) _ _ _ _ _ c.in-Ok.ensures.rises c.pull_front.ensures;
})

pub returns-in-Ok : goal.returns-in-Ok
returns-in-Ok g c =
    refused_line c.args.label.now (ports_of g.S.Source.left g.S.Source.faults g.K.Sink.text g.K.Sink.faults c.args.source.now c.args.out.now) (ports_of g.S.Source.left g.S.Source.faults g.K.Sink.text g.K.Sink.faults c.read_front.new.source c.tell.new.out) c.tell.result status.NoNode
    c.tell.ensures.status
    (c.in-Ok.front.script, _, c.in-Ok.ensures.so.0, sym c.in-None.ensures.number)
    c.tell.ensures.line
