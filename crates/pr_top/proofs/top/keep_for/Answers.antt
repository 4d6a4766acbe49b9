use Rattle.pr_top.specs.Answers.{RunsUntil, ports_of}
use Rattle.pr_top.proofs.KeptAnswers.{until_answers}
use Rattle.pr_top.proofs.Unread.{unread_run}
use Rattle.pr_top.proofs.top.keep_for.Goals as goal

pub returns-in-Ok : goal.returns-in-Ok
returns-in-Ok g c =
    let a = ports_of g.S.Source.left g.S.Source.faults g.K.Sink.text g.K.Sink.faults c.args.script.now c.args.out.now in
    let b = ports_of g.S.Source.left g.S.Source.faults g.K.Sink.text g.K.Sink.faults c.read_script.new.source c.keep_until.new.out in
    until_answers c.args.stop a b c.in-Ok.script c.in-Ok.ensures.so.0 c.keep_until.result c.keep_until.ensures

pub returns-in-Err : goal.returns-in-Err
returns-in-Err g c =
    let a = ports_of g.S.Source.left g.S.Source.faults g.K.Sink.text g.K.Sink.faults c.args.script.now c.args.out.now in
    let b = ports_of g.S.Source.left g.S.Source.faults g.K.Sink.text g.K.Sink.faults c.read_script.new.source c.unread.new.out in
    unread_run (RunsUntil c.args.stop a b) a b c.in-Err.error c.unread.result c.in-Err.ensures.so c.unread.ensures
