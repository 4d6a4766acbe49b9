use Rattle.std.proofs.Common.{◌≤◌, arith}
use Rattle.pr_ports.specs.Faults.{HasRisen}
use Rattle.pr_top.proofs.Runs.{run_ended, run_halted}
use Rattle.pr_top.proofs.Written.{risen_before, risen_then}
use Rattle.pr_top.proofs.running.finish.Goals as goal

pub returns-in-Ok-clause-run : goal.returns-in-Ok-clause-run
returns-in-Ok-clause-run g c = λ o sound h before risen le k.
    let s = c.args.script.now in
    let mid = g.K.Sink.faults c.transcript.new.out in
    let last = g.K.Sink.faults c.tell_end.new.out in
    let up : risen ≤ mid = (let r = c.transcript.ensures.rises in omega (arith, le, r)) in
    run_ended o sound (HasRisen risen mid) (HasRisen mid last) (HasRisen risen last) s h c.in-Ok.expected c.tell_end.result before (g.K.Sink.text c.transcript.new.out) (g.K.Sink.text c.tell_end.new.out)
    (risen_then risen mid last up) (c.in-Ok.ensures.told o sound h before risen le k) c.tell_end.ensures.told

pub returns-in-Err-clause-run : goal.returns-in-Err-clause-run
returns-in-Err-clause-run g c = λ o sound h before risen le k.
    let s = c.args.script.now in
    let mid = g.K.Sink.faults c.transcript.new.out in
    let last = g.K.Sink.faults c.tell_halt.new.out in
    let up : risen ≤ mid = (let r = c.transcript.ensures.rises in omega (arith, le, r)) in
    run_halted o sound (HasRisen risen mid) (HasRisen mid last) (HasRisen risen last) s h c.in-Err.halt c.tell_halt.result before (g.K.Sink.text c.transcript.new.out) (g.K.Sink.text c.tell_halt.new.out)
    (risen_before risen mid last up c.tell_halt.ensures.rises) (risen_then risen mid last up) (c.in-Err.ensures.told o sound h before risen le k) c.tell_halt.ensures.told
