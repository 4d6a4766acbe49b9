use Rattle.pr_top.specs.Answers.{RunsScript, ports_of}
use Rattle.pr_top.proofs.Unread.{unread_run}
use Rattle.pr_top.proofs.top.sim.Goals as goal

pub returns-in-Err : goal.returns-in-Err
returns-in-Err g c =
    let a = ports_of g.S.Source.left g.S.Source.faults g.K.Sink.text g.K.Sink.faults c.args.script.now c.args.out.now in
    let b = ports_of g.S.Source.left g.S.Source.faults g.K.Sink.text g.K.Sink.faults c.read_script.new.source c.unread.new.out in
    unread_run (RunsScript a b) a b c.in-Err.error c.unread.result c.in-Err.ensures.so c.unread.ensures
