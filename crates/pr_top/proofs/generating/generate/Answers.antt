use Rattle.std.proofs.Common.{Err, List, Ok, subst, sym, ℕ}
use Rattle.pr_gen.specs.Workload.{workload}
use Rattle.pr_ports.specs.Faults.{HasRisen}
use Rattle.pr_top.specs.Generated.{HasGenerated, HasSummed}
use Rattle.pr_top.specs.Progress.{Writes}
use Rattle.pr_top.specs.declared.status.Status.{Status}
use Rattle.pr_top.specs.declared.stepping.Halt.{Halt}
use Rattle.pr_top.proofs.Generated.{stopped_short, stopped_worn, summary_cut, summary_written}
use Rattle.pr_top.proofs.generating.generate.Goals as goal

pub returns-in-Ok-write-clause-run : goal.returns-in-Ok-write-clause-run
returns-in-Ok-write-clause-run g c =
    let a = g.K.Sink.text c.args.out.now in
    let b = g.K.Sink.text c.write.new.out in
    let failed : Type 0 = HasRisen (g.K.Sink.faults c.args.out.now) (g.K.Sink.faults c.write.new.out) in
    summary_written c.args.seed c.args.size failed a b c.in-Ok.text c.in-Ok.ensures
    (subst (λ (t : List ℕ). Writes {X = Unit {0}} t failed a b (Ok tt)) c.as_slice.ensures c.in-Ok-write.ensures.told)

pub returns-in-Ok-clause-run : goal.returns-in-Ok-clause-run
returns-in-Ok-clause-run g c =
    let a = g.K.Sink.text c.args.out.now in
    let b = g.K.Sink.text c.write.new.out in
    let failed : Type 0 = HasRisen (g.K.Sink.faults c.args.out.now) (g.K.Sink.faults c.write.new.out) in
    summary_cut c.args.seed c.args.size failed a b c.in-Ok.text c.in-Ok.ensures
    (subst (λ (x : Halt). Writes {X = Unit {0}} c.in-Ok.text failed a b (Err x)) c.in-Err-write.ensures.fault
    (subst (λ (t : List ℕ). Writes {X = Unit {0}} t failed a b (Err c.in-Err-write.field-0)) c.as_slice.ensures c.in-Err-write.ensures.told))

pub returns-in-Err-Worn-clause-run : goal.returns-in-Err-Worn-clause-run
returns-in-Err-Worn-clause-run g c =
    let a = g.K.Sink.text c.args.out.now in
    let b = g.K.Sink.text c.tell.new.out in
    let s = workload c.args.seed c.args.size in
    let failed : Type 0 = HasRisen (g.K.Sink.faults c.args.out.now) (g.K.Sink.faults c.tell.new.out) in
    subst (λ (r : Status). HasGenerated r s failed a b) (sym c.tell.ensures.status)
    (stopped_worn s failed a b c.in-Err-Worn.at (subst (λ (x : Halt). HasSummed s (Err x)) c.in-Err-Worn.field-0-is c.in-Err-Worn.ensures) c.tell.ensures.line)

pub returns : goal.returns
returns g c =
    let a = g.K.Sink.text c.args.out.now in
    let b = g.K.Sink.text c.tell-in-Err.new.out in
    let s = workload c.args.seed c.args.size in
    let failed : Type 0 = HasRisen (g.K.Sink.faults c.args.out.now) (g.K.Sink.faults c.tell-in-Err.new.out) in
    record {
      run = subst (λ (r : Status). HasGenerated r s failed a b) (sym c.tell-in-Err.ensures.status)
          (stopped_short s failed a b c.in-Err.field-0 c.in-Err.ensures c.tell-in-Err.ensures.line);
      rises = c.tell-in-Err.ensures.rises;
    }
