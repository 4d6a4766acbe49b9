use Rattle.std.proofs.Common.{◌+◌, ◌∙◌, Err, List, ap, length, min, subst}
use Rattle.pr_ports.specs.Faults.{HasRisen}
use Rattle.pr_script.specs.declared.decl.Decl.{Decl}
use Rattle.pr_top.specs.KeptProgress.{HasKeptTold}
use Rattle.pr_top.specs.declared.keeping.Break.{Break}
use Rattle.pr_top.proofs.KeptTold.{ends_halted, ends_told}
use Rattle.pr_top.proofs.Written.{risen_before, risen_then}
use Rattle.pr_top.proofs.keeping.run_kept.Goals as goal

pub returns-in-Ok-clause-run : goal.returns-in-Ok-clause-run
returns-in-Ok-clause-run g c =
    let s = c.args.script.now in
    let old = g.K.Sink.faults c.args.out.now in
    let mid = g.K.Sink.faults c.transcript.new.out in
    let last = g.K.Sink.faults c.tell_end-status.new.out in
    ends_told g.D.Disk.state g.D.Disk.images g.D.Disk.moment g.D.Disk.images_since (HasRisen old mid) (HasRisen mid last) (HasRisen old last) s c.in-Ok.expected c.tell_end-status.result (g.K.Sink.text c.args.out.now) (g.K.Sink.text c.transcript.new.out) (g.K.Sink.text c.tell_end-status.new.out)
    c.args.keep.now c.transcript.new.keep (risen_then old mid last c.in-Ok.ensures.rises) c.in-Ok.ensures.told c.tell_end-status.ensures.told

pub returns-in-Err-Halted-clause-run : goal.returns-in-Err-Halted-clause-run
returns-in-Err-Halted-clause-run g c =
    let s = c.args.script.now in
    let a = g.K.Sink.text c.args.out.now in
    let b = g.K.Sink.text c.transcript.new.out in
    let d = g.K.Sink.text c.halted.new.out in
    let failed : Type 0 = HasRisen (g.K.Sink.faults c.args.out.now) (g.K.Sink.faults c.transcript.new.out) in
    let later : Type 0 = HasRisen (g.K.Sink.faults c.transcript.new.out) (g.K.Sink.faults c.halted.new.out) in
    let now : Type 0 = HasRisen (g.K.Sink.faults c.args.out.now) (g.K.Sink.faults c.halted.new.out) in
    ends_halted g.D.Disk.state g.D.Disk.images g.D.Disk.moment g.D.Disk.images_since failed later now s _ a b d c.args.keep.now c.transcript.new.keep c.halted.result
    (risen_before (g.K.Sink.faults c.args.out.now) (g.K.Sink.faults c.transcript.new.out) (g.K.Sink.faults c.halted.new.out) c.transcript.ensures.rises c.halted.ensures.rises)
    (risen_then (g.K.Sink.faults c.args.out.now) (g.K.Sink.faults c.transcript.new.out) (g.K.Sink.faults c.halted.new.out) c.transcript.ensures.rises)
    (subst (λ (x : Break). HasKeptTold g.D.Disk.state g.D.Disk.images g.D.Disk.moment g.D.Disk.images_since c.args.keep.now c.transcript.new.keep s failed a b (Err x)) c.in-Err-Halted.field-0-is c.in-Err-Halted.ensures.told)
    c.halted.ensures.halt

pub returns-in-Err-Stopped-clause-run : goal.returns-in-Err-Stopped-clause-run
returns-in-Err-Stopped-clause-run g c =
    let s = c.args.script.now in
    let a = g.K.Sink.text c.args.out.now in
    let b = g.K.Sink.text c.transcript.new.out in
    let failed : Type 0 = HasRisen (g.K.Sink.faults c.args.out.now) (g.K.Sink.faults c.transcript.new.out) in
    let told = subst (λ (x : Break). HasKeptTold g.D.Disk.state g.D.Disk.images g.D.Disk.moment g.D.Disk.images_since c.args.keep.now c.transcript.new.keep s failed a b (Err x)) c.in-Err-Stopped.field-0-is c.in-Err-Stopped.ensures.told in
    (told.0, c.in-Err-Stopped.told, c.saturating_add-lines.ensures ∙ ap (λ (ds : List Decl). min (length ds + c.in-Err-Stopped.told) 18446744073709551615) c.as_slice.ensures, told.1, told.2)
