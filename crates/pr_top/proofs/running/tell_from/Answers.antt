use Rattle.std.proofs.Common.{◌≡◌, ◌<◌, ◌∙◌, Err, List, Result, ap, arith, drop, get_or, length, refl, reverse, subst, sym, ℕ}
use Rattle.std.proofs.lemmas.List.{length-reverse}
use Rattle.std.proofs.lemmas.Result.{err_from_is_err_and}
use Rattle.pr_ports.specs.Faults.{HasRisen}
use Rattle.pr_sim.specs.Making.{declared_of}
use Rattle.pr_sim.proofs.Telling.{many_places, some_entry}
use Rattle.pr_text.specs.Lines.{line_text}
use Rattle.pr_top.specs.Progress.{Writes, entry_lines}
use Rattle.pr_top.specs.declared.stepping.Halt.{Halt}
use Rattle.pr_top.proofs.Lines.{all_sofar, cut_sofar, more_sofar}
use Rattle.pr_top.proofs.Written.{risen_then, went_as}
use Rattle.pr_top.proofs.running.tell_from.Goals as goal

pub tell_entry-requires-clause-held : goal.tell_entry-requires-clause-held
tell_entry-requires-clause-held g c =
    let r = c.requires.held in
    let many = ap (λ (ps : List (ℕ × ℕ)). length ps) (c.history-len.ensures (declared_of c.args.decls.now.list) r.0 r.1) ∙ many_places r.0 in
    (r.0, r.1, omega (arith, many, c.loop-at-test.true))

pub returns-in_err-tell_entry-clause-told : goal.returns-in_err-tell_entry-clause-told
returns-in_err-tell_entry-clause-told g c = λ h tells.
    let ds = c.args.decls.now.list in
    let many = ap (λ (ps : List (ℕ × ℕ)). length ps) (c.history-len.ensures (declared_of ds) h tells) ∙ many_places h in
    let lt : c.loop-at.at < length h = omega (arith, many, c.loop-at-test.true) in
    let in_turn : c.loop-at.at < length (reverse h) = omega (arith, lt, length-reverse h) in
    let x = get_or (reverse h) c.loop-at.at some_entry in
    let p = err_from_is_err_and c.from_residual.result c.from_residual.ensures.1 in
    let was = c.in_err-tell_entry.was in
    let same = p.2 in
    let done : c.tell_entry.result ≡ Err p.0 = cc in
    let failed : Type 0 = HasRisen (g.K.Sink.faults c.loop-at.out) (g.K.Sink.faults c.tell_entry.new.out) in
    let now : Type 0 = HasRisen (g.K.Sink.faults c.args.out.now) (g.K.Sink.faults c.tell_entry.new.out) in
    let line = subst (λ (r : Result (Unit {0}) Halt). Writes (line_text ds x.node x.entry.event) failed (g.K.Sink.text c.loop-at.out) (g.K.Sink.text c.tell_entry.new.out) r) done (c.tell_entry.ensures.told h some_entry tells lt) in
    subst (λ (r : Result ℕ Halt). Writes (entry_lines ds (drop c.args.told (reverse h))) now (g.K.Sink.text c.args.out.now) (g.K.Sink.text c.tell_entry.new.out) r) (sym p.1)
    (cut_sofar (Unit {0}) ℕ failed now ds c.args.told c.loop-at.at (reverse h) some_entry (g.K.Sink.text c.args.out.now) (g.K.Sink.text c.loop-at.out) (g.K.Sink.text c.tell_entry.new.out) p.0
    (risen_then (g.K.Sink.faults c.args.out.now) (g.K.Sink.faults c.loop-at.out) (g.K.Sink.faults c.tell_entry.new.out) c.loop-at.invariant.rises) in_turn (c.loop-at.invariant.told h tells) line)

pub loop-at-preserved : goal.loop-at-preserved
loop-at-preserved g c = record {
  rises = omega (arith, c.loop-at.invariant.rises, c.tell_entry.ensures.rises);
  nodes = c.tell_entry.ensures.nodes;
  told = λ h tells.
      let ds = c.args.decls.now.list in
      let many = ap (λ (ps : List (ℕ × ℕ)). length ps) (c.history-len.ensures (declared_of ds) h tells) ∙ many_places h in
      let lt : c.loop-at.at < length h = omega (arith, many, c.loop-at-test.true) in
      let in_turn : c.loop-at.at < length (reverse h) = omega (arith, lt, length-reverse h) in
      let x = get_or (reverse h) c.loop-at.at some_entry in
      more_sofar ds c.args.told c.loop-at.at (reverse h) some_entry (g.K.Sink.text c.args.out.now) (g.K.Sink.text c.loop-at.out) (g.K.Sink.text c.tell_entry.new.out) in_turn (c.loop-at.invariant.told h tells)
      (went_as (Unit {0}) (HasRisen (g.K.Sink.faults c.loop-at.out) (g.K.Sink.faults c.tell_entry.new.out)) (g.K.Sink.text c.loop-at.out) (g.K.Sink.text c.tell_entry.new.out)
      (line_text ds x.node x.entry.event) (line_text ds x.node x.entry.event) c.tell_entry.result tt refl c.in_ok-tell_entry.was (c.tell_entry.ensures.told h some_entry tells lt));
}

pub returns-clause-told : goal.returns-clause-told
returns-clause-told g c = λ h tells.
    let many = ap (λ (ps : List (ℕ × ℕ)). length ps) (c.history-len.ensures (declared_of c.args.decls.now.list) h tells) ∙ many_places h in
    all_sofar c.args.decls.now.list c.args.told c.loop-at.at (reverse h) (g.K.Sink.text c.args.out.now) (g.K.Sink.text c.loop-at.out) (omega (arith, many, length-reverse h, c.loop-at-test.false)) (c.loop-at.invariant.told h tells)

pub returns-clause-count : goal.returns-clause-count
returns-clause-count g c = λ h tells. ap (λ (ps : List (ℕ × ℕ)). length ps) (c.history-len.ensures (declared_of c.args.decls.now.list) h tells) ∙ many_places h
