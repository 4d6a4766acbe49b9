use Rattle.std.proofs.Common.{inl, inr}
use Rattle.pr_ports.specs.Faults.{HasRisen}
use Rattle.pr_top.proofs.StoppedDisks.{it_ended, it_stopped}
use Rattle.pr_top.proofs.outliving.keep_until.Goals as goal

pub outlive-requires-clause-held : goal.outlive-requires-clause-held
outlive-requires-clause-held g c =
    let a = g.K.Sink.text c.args.out.now in
    let b = g.K.Sink.text c.kept-end.new.out in
    let failed : Type 0 = HasRisen (g.K.Sink.faults c.args.out.now) (g.K.Sink.faults c.kept-end.new.out) in (
      c.args.stop,
      c.requires.most,
      a,
      it_stopped c.args.stop c.requires.least c.requires.most c.args.script.now c.new.result c.kept-end.result.1 c.new.ensures c.kept-end.result.0 failed a b c.kept-end.ensures.run c.in-Stopped.lines c.in-Stopped.unmet c.in-Stopped.is c.requires.good.decls,
    )

pub returns-in-Ended : goal.returns-in-Ended
returns-in-Ended g c =
    let a = g.K.Sink.text c.args.out.now in
    let b = g.K.Sink.text c.kept-end.new.out in
    let failed : Type 0 = HasRisen (g.K.Sink.faults c.args.out.now) (g.K.Sink.faults c.kept-end.new.out) in
    inl (it_ended c.args.stop c.requires.least c.requires.most c.args.script.now c.new.result c.kept-end.result.1 c.new.ensures c.kept-end.result.0 failed a b c.kept-end.ensures.run c.in-Ended.status c.in-Ended.is c.good.ensures.within)

pub returns-in-Stopped : goal.returns-in-Stopped
returns-in-Stopped g c =
    let a = g.K.Sink.text c.args.out.now in
    let b = g.K.Sink.text c.kept-end.new.out in
    let failed : Type 0 = HasRisen (g.K.Sink.faults c.args.out.now) (g.K.Sink.faults c.kept-end.new.out) in
    let k = it_stopped c.args.stop c.requires.least c.requires.most c.args.script.now c.new.result c.kept-end.result.1 c.new.ensures c.kept-end.result.0 failed a b c.kept-end.ensures.run c.in-Stopped.lines c.in-Stopped.unmet c.in-Stopped.is c.requires.good.decls in
    inr (c.outlive.ensures c.args.stop (g.K.Sink.faults c.args.out.now) a c.requires.most k c.kept-end.ensures.rises)
