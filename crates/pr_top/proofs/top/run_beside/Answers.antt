use Rattle.pr_top.specs.Answers.{RunsOver, ports_of}
use Rattle.pr_top.proofs.FewLines.{few_commands}
use Rattle.pr_top.proofs.OverAnswers.{over_answers}
use Rattle.pr_top.proofs.Unread.{unread_run}
use Rattle.pr_top.proofs.top.run_beside.Goals as goal

pub run-requires-clause-lines : goal.run-requires-clause-lines
run-requires-clause-lines g c κs ls =
    let read = c.in-Ok.ensures.so.0 in
    few_commands read.bytes c.in-Ok.script read.means read.read.fits

pub returns-in-Ok : goal.returns-in-Ok
returns-in-Ok g c =
    let a = ports_of g.S.Source.left g.S.Source.faults g.K.Sink.text g.K.Sink.faults c.args.script.now c.args.out.now in
    let b = ports_of g.S.Source.left g.S.Source.faults g.K.Sink.text g.K.Sink.faults c.read_script.new.source c.run.new.out in
    over_answers (g.W.Wires.sound c.args.wires.now) (g.W.Wires.carried c.args.wires.now) (g.W.Wires.carried c.run.new.wires) a b c.in-Ok.script c.in-Ok.ensures.so.0 c.run.result c.run.ensures.run

pub returns-in-Err : goal.returns-in-Err
returns-in-Err g c =
    let a = ports_of g.S.Source.left g.S.Source.faults g.K.Sink.text g.K.Sink.faults c.args.script.now c.args.out.now in
    let b = ports_of g.S.Source.left g.S.Source.faults g.K.Sink.text g.K.Sink.faults c.read_script.new.source c.unread.new.out in
    unread_run (RunsOver (g.W.Wires.sound c.args.wires.now) (g.W.Wires.carried c.args.wires.now) (g.W.Wires.carried c.args.wires.now) a b) a b c.in-Err.error c.unread.result c.in-Err.ensures.so c.unread.ensures
