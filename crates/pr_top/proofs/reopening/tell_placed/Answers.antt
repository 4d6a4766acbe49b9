use Rattle.std.proofs.Common.{◌≡◌, ◌<◌, Err, Result, ap, arith, get_or, length, subst, sym}
use Rattle.std.proofs.lemmas.Result.{err_from_is_err_and}
use Rattle.pr_ports.specs.Faults.{HasRisen}
use Rattle.pr_sim.proofs.Telling.{some_entry}
use Rattle.pr_story.specs.History.{NodeEntry}
use Rattle.pr_text.specs.Lines.{line_text}
use Rattle.pr_top.specs.Progress.{Writes, entry_lines}
use Rattle.pr_top.specs.Resuming.{unplaced}
use Rattle.pr_top.specs.declared.stepping.Halt.{Halt}
use Rattle.pr_top.proofs.KeptEntries.{unplaced_at, unplaced_long}
use Rattle.pr_top.proofs.Lines.{all_sofar, cut_sofar, more_sofar, none_sofar}
use Rattle.pr_top.proofs.Written.{risen_then, went_as}
use Rattle.pr_top.proofs.reopening.tell_placed.Goals as goal

pub loop-node-init : goal.loop-node-init
loop-node-init g c = record { rises = omega arith; told = none_sofar c.args.decls.now.list 0 (unplaced c.args.entries.now) (g.K.Sink.text c.args.out.now) }

pub returns-in_err-tell_line-clause-told : goal.returns-in_err-tell_line-clause-told
returns-in_err-tell_line-clause-told g c =
    let ds = c.args.decls.now.list in
    let xs = unplaced c.args.entries.now in
    let i = c.loop-node.node-index in
    let many = unplaced_long c.args.entries.now in
    let lt : i < length xs = omega (arith, many, c.loop-node-test.true) in
    let there = unplaced_at c.args.entries.now i c.loop-node-item.result some_entry c.loop-node-test.true c.loop-node-item.is in
    let p = err_from_is_err_and c.from_residual.result c.from_residual.ensures.1 in
    let was = c.in_err-tell_line.was in
    let same = p.2 in
    let done : c.tell_line.result ≡ Err p.0 = cc in
    let failed : Type 0 = HasRisen (g.K.Sink.faults c.loop-node.out) (g.K.Sink.faults c.tell_line.new.out) in
    let now : Type 0 = HasRisen (g.K.Sink.faults c.args.out.now) (g.K.Sink.faults c.tell_line.new.out) in
    let line = subst (λ (y : NodeEntry). Writes {X = Unit {0}} (line_text ds y.node y.entry.event) failed (g.K.Sink.text c.loop-node.out) (g.K.Sink.text c.tell_line.new.out) (Err p.0)) (sym there)
    (subst (λ (r : Result (Unit {0}) Halt). Writes (line_text ds c.loop-node-item.result.0 c.loop-node-item.result.1.event) failed (g.K.Sink.text c.loop-node.out) (g.K.Sink.text c.tell_line.new.out) r) done c.tell_line.ensures.told) in
    subst (λ (r : Result (Unit {0}) Halt). Writes (entry_lines ds xs) now (g.K.Sink.text c.args.out.now) (g.K.Sink.text c.tell_line.new.out) r) (sym p.1)
    (cut_sofar (Unit {0}) (Unit {0}) failed now ds 0 i xs some_entry (g.K.Sink.text c.args.out.now) (g.K.Sink.text c.loop-node.out) (g.K.Sink.text c.tell_line.new.out) p.0
    (risen_then (g.K.Sink.faults c.args.out.now) (g.K.Sink.faults c.loop-node.out) (g.K.Sink.faults c.tell_line.new.out) c.loop-node.invariant.rises) lt c.loop-node.invariant.told line)

pub loop-node-preserved : goal.loop-node-preserved
loop-node-preserved g c =
    let ds = c.args.decls.now.list in
    let xs = unplaced c.args.entries.now in
    let i = c.loop-node.node-index in
    let many = unplaced_long c.args.entries.now in
    let lt : i < length xs = omega (arith, many, c.loop-node-test.true) in
    let x = get_or xs i some_entry in
    let there = unplaced_at c.args.entries.now i c.loop-node-item.result some_entry c.loop-node-test.true c.loop-node-item.is in
    record {
      rises = omega (arith, c.loop-node.invariant.rises, c.tell_line.ensures.rises);
      told = more_sofar ds 0 i xs some_entry (g.K.Sink.text c.args.out.now) (g.K.Sink.text c.loop-node.out) (g.K.Sink.text c.tell_line.new.out) lt c.loop-node.invariant.told
          (went_as (Unit {0}) (HasRisen (g.K.Sink.faults c.loop-node.out) (g.K.Sink.faults c.tell_line.new.out)) (g.K.Sink.text c.loop-node.out) (g.K.Sink.text c.tell_line.new.out)
          (line_text ds c.loop-node-item.result.0 c.loop-node-item.result.1.event) (line_text ds x.node x.entry.event) c.tell_line.result tt (ap (λ (y : NodeEntry). line_text ds y.node y.entry.event) (sym there)) c.in_ok-tell_line.was c.tell_line.ensures.told);
    }

pub returns-clause-told : goal.returns-clause-told
returns-clause-told g c =
    let many = unplaced_long c.args.entries.now in
    all_sofar c.args.decls.now.list 0 c.loop-node.node-index (unplaced c.args.entries.now) (g.K.Sink.text c.args.out.now) (g.K.Sink.text c.loop-node.out) (omega (arith, many, c.loop-node-test.false)) c.loop-node.invariant.told
