use Rattle.std.proofs.Common.{◌≡◌, ◌<◌, ◌∙◌, Err, Result, ap, arith, drop, get_or, length, subst, sym}
use Rattle.std.proofs.lemmas.List.{get_or-drop, length-drop, length-map}
use Rattle.std.proofs.lemmas.Result.{err_from_is_err_and}
use Rattle.pr_ports.specs.Faults.{HasRisen}
use Rattle.pr_sim.proofs.Telling.{some_entry}
use Rattle.pr_story.specs.declared.entry.Entry.{Entry}
use Rattle.pr_story.specs.History.{NodeEntry}
use Rattle.pr_text.specs.Lines.{line_text}
use Rattle.pr_top.specs.Progress.{Writes, entry_lines}
use Rattle.pr_top.specs.Pulled.{entries_at}
use Rattle.pr_top.specs.declared.stepping.Halt.{Halt}
use Rattle.pr_top.proofs.Lines.{all_sofar, cut_sofar, more_sofar, none_sofar}
use Rattle.pr_top.proofs.PulledTexts.{entry_there}
use Rattle.pr_top.proofs.Written.{risen_then, went_as}
use Rattle.pr_top.proofs.pulling.tell_entries.Goals as goal

pub loop-at-init : goal.loop-at-init
loop-at-init g c = record { rises = omega arith; told = none_sofar c.args.decls.now.list 0 (entries_at c.args.node (drop c.args.from c.args.journal.now.items)) (g.K.Sink.text c.args.out.now) }

pub returns-in_err-tell_line-clause-told : goal.returns-in_err-tell_line-clause-told
returns-in_err-tell_line-clause-told g c =
    let ds = c.args.decls.now.list in
    let xs = entries_at c.args.node (drop c.args.from c.args.journal.now.items) in
    let i = c.loop-at.at in
    let some : c.loop-at.at < length (drop c.args.from c.args.journal.now.items) = omega (arith, c.loop-at-test.true, c.len.ensures, length-drop c.args.from c.args.journal.now.items) in
    let here : c.entry-entry.result.now ≡ get_or (drop c.args.from c.args.journal.now.items) c.loop-at.at c.entry-entry.result.now = c.entry-entry.ensures c.entry-entry.result.now ∙ sym (get_or-drop c.args.from c.args.journal.now.items c.loop-at.at c.entry-entry.result.now) in
    let many : length xs ≡ length (drop c.args.from c.args.journal.now.items) = length-map (drop c.args.from c.args.journal.now.items) (λ (e : Entry). record { node = c.args.node; entry = e }) in
    let lt : i < length xs = omega (arith, many, some) in
    let x = get_or xs i some_entry in
    let there = entry_there c.args.node (drop c.args.from c.args.journal.now.items) i c.entry-entry.result.now some here in
    let p = err_from_is_err_and c.from_residual.result c.from_residual.ensures.1 in
    let was = c.in_err-tell_line.was in
    let same = p.2 in
    let done : c.tell_line.result ≡ Err p.0 = cc in
    let failed : Type 0 = HasRisen (g.K.Sink.faults c.loop-at.out) (g.K.Sink.faults c.tell_line.new.out) in
    let now : Type 0 = HasRisen (g.K.Sink.faults c.args.out.now) (g.K.Sink.faults c.tell_line.new.out) in
    let line = subst (λ (y : NodeEntry). Writes {X = Unit {0}} (line_text ds y.node y.entry.event) failed (g.K.Sink.text c.loop-at.out) (g.K.Sink.text c.tell_line.new.out) (Err p.0)) (sym there)
    (subst (λ (r : Result (Unit {0}) Halt). Writes (line_text ds c.args.node c.entry-entry.result.now.event) failed (g.K.Sink.text c.loop-at.out) (g.K.Sink.text c.tell_line.new.out) r) done c.tell_line.ensures.told) in
    subst (λ (r : Result (Unit {0}) Halt). Writes (entry_lines ds xs) now (g.K.Sink.text c.args.out.now) (g.K.Sink.text c.tell_line.new.out) r) (sym p.1)
    (cut_sofar (Unit {0}) (Unit {0}) failed now ds 0 i xs some_entry (g.K.Sink.text c.args.out.now) (g.K.Sink.text c.loop-at.out) (g.K.Sink.text c.tell_line.new.out) p.0
    (risen_then (g.K.Sink.faults c.args.out.now) (g.K.Sink.faults c.loop-at.out) (g.K.Sink.faults c.tell_line.new.out) c.loop-at.invariant.rises) lt c.loop-at.invariant.told line)

pub loop-at-preserved : goal.loop-at-preserved
loop-at-preserved g c =
    let ds = c.args.decls.now.list in
    let xs = entries_at c.args.node (drop c.args.from c.args.journal.now.items) in
    let i = c.loop-at.at in
    let some : c.loop-at.at < length (drop c.args.from c.args.journal.now.items) = omega (arith, c.loop-at-test.true, c.len.ensures, length-drop c.args.from c.args.journal.now.items) in
    let here : c.entry-entry.result.now ≡ get_or (drop c.args.from c.args.journal.now.items) c.loop-at.at c.entry-entry.result.now = c.entry-entry.ensures c.entry-entry.result.now ∙ sym (get_or-drop c.args.from c.args.journal.now.items c.loop-at.at c.entry-entry.result.now) in
    let many : length xs ≡ length (drop c.args.from c.args.journal.now.items) = length-map (drop c.args.from c.args.journal.now.items) (λ (e : Entry). record { node = c.args.node; entry = e }) in
    let lt : i < length xs = omega (arith, many, some) in
    let x = get_or xs i some_entry in
    let there = entry_there c.args.node (drop c.args.from c.args.journal.now.items) i c.entry-entry.result.now some here in
    record {
      rises = omega (arith, c.loop-at.invariant.rises, c.tell_line.ensures.rises);
      told = more_sofar ds 0 i xs some_entry (g.K.Sink.text c.args.out.now) (g.K.Sink.text c.loop-at.out) (g.K.Sink.text c.tell_line.new.out) lt c.loop-at.invariant.told
          (went_as (Unit {0}) (HasRisen (g.K.Sink.faults c.loop-at.out) (g.K.Sink.faults c.tell_line.new.out)) (g.K.Sink.text c.loop-at.out) (g.K.Sink.text c.tell_line.new.out)
          (line_text ds c.args.node c.entry-entry.result.now.event) (line_text ds x.node x.entry.event) c.tell_line.result tt (ap (λ (y : NodeEntry). line_text ds y.node y.entry.event) (sym there)) c.in_ok-tell_line.was c.tell_line.ensures.told);
    }

pub returns-clause-told : goal.returns-clause-told
returns-clause-told g c =
    let many : length (entries_at c.args.node (drop c.args.from c.args.journal.now.items)) ≡ length (drop c.args.from c.args.journal.now.items) = length-map (drop c.args.from c.args.journal.now.items) (λ (e : Entry). record { node = c.args.node; entry = e }) in
    all_sofar c.args.decls.now.list 0 c.loop-at.at (entries_at c.args.node (drop c.args.from c.args.journal.now.items)) (g.K.Sink.text c.args.out.now) (g.K.Sink.text c.loop-at.out) (omega (arith, many, c.loop-at-test.false, c.len.ensures, length-drop c.args.from c.args.journal.now.items)) c.loop-at.invariant.told
