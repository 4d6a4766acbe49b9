use Rattle.std.proofs.Common.{inl, inr}
use Rattle.pr_ports.specs.Faults.{HasRisen}
use Rattle.pr_top.proofs.PulledTexts.{short_so}
use Rattle.pr_top.proofs.Written.{risen_before, risen_then}
use Rattle.pr_top.proofs.pulling.pull_front.Goals as goal

pub returns-in-Ok : goal.returns-in-Ok
returns-in-Ok g c =
    let k = c.in-Ok.ensures.told in
    inl (c.pull_behind.ensures k.0 (g.K.Sink.text c.args.out.now) (g.K.Sink.faults c.args.out.now) k.1.0 k.1.2 c.in-Ok.ensures.rises)

pub returns-in-Err : goal.returns-in-Err
returns-in-Err g c =
    let s = c.args.front.now.script in
    let old = g.K.Sink.faults c.args.out.now in
    let mid = g.K.Sink.faults c.unended.new.out in
    let last = g.K.Sink.faults c.tell_halt.new.out in
    inr (short_so (HasRisen old mid) (HasRisen mid last) (HasRisen old last) s c.in-Err.halt c.tell_halt.result (g.K.Sink.text c.args.out.now) (g.K.Sink.text c.unended.new.out) (g.K.Sink.text c.tell_halt.new.out)
    (risen_before old mid last c.in-Err.ensures.rises c.tell_halt.ensures.rises) (risen_then old mid last c.in-Err.ensures.rises) c.in-Err.ensures.told c.tell_halt.ensures.told)
