use Rattle.std.proofs.Common.{Err, List, Ok, subst, ℕ}
use Rattle.pr_ports.specs.Faults.{HasRisen}
use Rattle.pr_top.specs.Asked.{HasAsks}
use Rattle.pr_top.specs.Progress.{Writes}
use Rattle.pr_top.specs.declared.stepping.Halt.{Halt}
use Rattle.pr_top.proofs.AskedRuns.{asks_cut, asks_short, asks_worn, asks_written}
use Rattle.pr_top.proofs.asking.write_asks.Goals as goal

pub returns-in-Ok-write : goal.returns-in-Ok-write
returns-in-Ok-write g c =
    let a = g.K.Sink.text c.args.out.now in
    let b = g.K.Sink.text c.write.new.out in
    let failed : Type 0 = HasRisen (g.K.Sink.faults c.args.out.now) (g.K.Sink.faults c.write.new.out) in
    asks_written c.args.script.now c.args.node failed a b c.in-Ok.text c.in-Ok.ensures
    (subst (λ (t : List ℕ). Writes {X = Unit {0}} t failed a b (Ok tt)) c.as_slice.ensures c.in-Ok-write.ensures.told)

pub returns-in-Ok : goal.returns-in-Ok
returns-in-Ok g c =
    let a = g.K.Sink.text c.args.out.now in
    let b = g.K.Sink.text c.write.new.out in
    let failed : Type 0 = HasRisen (g.K.Sink.faults c.args.out.now) (g.K.Sink.faults c.write.new.out) in
    asks_cut c.args.script.now c.args.node failed a b c.in-Ok.text c.in-Ok.ensures
    (subst (λ (x : Halt). Writes {X = Unit {0}} c.in-Ok.text failed a b (Err x)) c.in-Err-write.ensures.fault
    (subst (λ (t : List ℕ). Writes {X = Unit {0}} t failed a b (Err c.in-Err-write.field-0)) c.as_slice.ensures c.in-Err-write.ensures.told))

pub returns-in-Err-Worn : goal.returns-in-Err-Worn
returns-in-Err-Worn g c =
    asks_worn c.args.script.now c.args.node _ (g.K.Sink.text c.args.out.now) c.in-Err-Worn.at
    (subst (λ (x : Halt). HasAsks c.args.script.now c.args.node (Err x)) c.in-Err-Worn.field-0-is c.in-Err-Worn.ensures)

pub returns : goal.returns
returns g c = asks_short c.args.script.now c.args.node _ (g.K.Sink.text c.args.out.now) c.in-Err.field-0 c.in-Err.ensures
