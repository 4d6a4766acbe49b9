use Rattle.std.proofs.Common.{◌≤◌, arith}
use Rattle.pr_ports.specs.Faults.{HasRisen}
use Rattle.pr_top.proofs.OutlivedTexts.{outlived_ended, outlived_halted}
use Rattle.pr_top.proofs.StoppedDisks.{can_resume}
use Rattle.pr_top.proofs.Written.{risen_before, risen_then}
use Rattle.pr_top.proofs.outliving.outlive.Goals as goal

pub tell_held-requires-clause-held : goal.tell_held-requires-clause-held
tell_held-requires-clause-held g c =
    let k = c.requires.held.3 in
    (k.kept, k.told, can_resume c.requires.held.0 c.args.script.now c.args.disk c.args.lines c.args.unmet c.requires.held.2 (g.K.Sink.text c.args.out.now) c.requires.held.1 k, k.stands, k.within, k.lines_is)

pub returns-in-Ok : goal.returns-in-Ok
returns-in-Ok g c = λ stop risen before most k le.
    let s = c.args.script.now in
    let b = g.K.Sink.text c.args.out.now in
    let d = g.K.Sink.text c.tell_held.new.out in
    let e = g.K.Sink.text c.tell_end.new.out in
    let failed : Type 0 = HasRisen (g.K.Sink.faults c.args.out.now) (g.K.Sink.faults c.tell_held.new.out) in
    let later : Type 0 = HasRisen (g.K.Sink.faults c.tell_held.new.out) (g.K.Sink.faults c.tell_end.new.out) in
    let now : Type 0 = HasRisen risen (g.K.Sink.faults c.tell_end.new.out) in
    let can = can_resume stop s c.args.disk c.args.lines c.args.unmet before b most k in
    let rises : risen ≤ g.K.Sink.faults c.tell_held.new.out = omega (arith, le, c.tell_held.ensures.rises) in
    outlived_ended stop s k.kept c.args.unmet k.held k.told k.within before b k.written failed later now c.in-Ok.expected c.tell_end.result d e
    (risen_then risen (g.K.Sink.faults c.tell_held.new.out) (g.K.Sink.faults c.tell_end.new.out) rises)
    (c.in-Ok.ensures.told k.kept k.told can k.stands k.within k.lines_is) c.tell_end.ensures.told

pub returns-in-Err : goal.returns-in-Err
returns-in-Err g c = λ stop risen before most k le.
    let s = c.args.script.now in
    let b = g.K.Sink.text c.args.out.now in
    let d = g.K.Sink.text c.tell_held.new.out in
    let e = g.K.Sink.text c.tell_halt.new.out in
    let failed : Type 0 = HasRisen (g.K.Sink.faults c.args.out.now) (g.K.Sink.faults c.tell_held.new.out) in
    let later : Type 0 = HasRisen (g.K.Sink.faults c.tell_held.new.out) (g.K.Sink.faults c.tell_halt.new.out) in
    let now : Type 0 = HasRisen risen (g.K.Sink.faults c.tell_halt.new.out) in
    let can = can_resume stop s c.args.disk c.args.lines c.args.unmet before b most k in
    let rises : risen ≤ g.K.Sink.faults c.tell_held.new.out = omega (arith, le, c.tell_held.ensures.rises) in
    outlived_halted stop s k.kept c.args.unmet k.held k.told k.within before b k.written failed later now c.in-Err.halt c.tell_halt.result d e
    (λ rose. risen_before risen (g.K.Sink.faults c.tell_held.new.out) (g.K.Sink.faults c.tell_halt.new.out) rises c.tell_halt.ensures.rises (risen_then risen (g.K.Sink.faults c.args.out.now) (g.K.Sink.faults c.tell_held.new.out) le rose))
    (risen_then risen (g.K.Sink.faults c.tell_held.new.out) (g.K.Sink.faults c.tell_halt.new.out) rises)
    (c.in-Err.ensures.told k.kept k.told can k.stands k.within k.lines_is) c.tell_halt.ensures.told
