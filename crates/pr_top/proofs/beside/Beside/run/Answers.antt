use Rattle.pr_story.specs.Scripts.{ByTime}
use Rattle.pr_top.proofs.Carried.{run_carries}
use Rattle.pr_top.proofs.Runs.{ends_well}
use Rattle.pr_top.proofs.beside.Beside.run.Goals as goal

pub finish-requires : goal.finish-requires
finish-requires g c = ends_well ByTime (g.W.Wires.sound c.args.wires.now) _ c.args.script.now _ _ c.unended-ended.result c.unended-ended.ensures.told.0

pub returns-clause-run : goal.returns-clause-run
returns-clause-run g c =
    let told = c.unended-ended.ensures.told.0 in
    let run = c.finish.ensures.run ByTime (g.W.Wires.sound c.args.wires.now) told.0 (g.K.Sink.text c.args.out.now) (g.K.Sink.faults c.args.out.now) c.unended-ended.ensures.rises told.1 in
    (run.0, run_carries c.args.script.now told.0 run.0.h _ _ c.unended-ended.result c.finish.result run.1 c.unended-ended.ensures.told.1 c.finish.ensures.stops)
