use Rattle.std.proofs.Common.{◌≡◌, ◌+◌, ◌-◌, ◌∙◌, ◌<◌, ◌≤◌, Err, List, Option, Result, ap, arith, drop, length, reverse, subst, sym, ℕ}
use Rattle.std.specs.List.{AllByRecursion}
use Rattle.std.proofs.lemmas.Result.{err_from_is_err_and}
use Rattle.pr_ports.specs.Faults.{HasRisen}
use Rattle.pr_script.specs.declared.decl.Decl.{Decl}
use Rattle.pr_story.specs.declared.entry.Entry.{Entry}
use Rattle.pr_story.specs.History.{NodeEntry}
use Rattle.pr_text.specs.Endings.{ok_line}
use Rattle.pr_text.specs.Numbers.{counts_of}
use Rattle.pr_top.specs.Kept.{placed}
use Rattle.pr_top.specs.Progress.{Writes, entry_lines}
use Rattle.pr_top.specs.Resuming.{AreJournals, TellsHeld, TellsStates}
use Rattle.pr_top.specs.declared.running.Expected.{Expected}
use Rattle.pr_top.specs.declared.stepping.Halt.{Halt}
use Rattle.pr_top.specs.declared.stepping.Halt.TheVariants as halts
use Rattle.pr_top.proofs.KeptEntries.{placed_declared, placed_long, unplaced_rest}
use Rattle.pr_top.proofs.OutlivedTexts.{ended_so, entries_cut, entries_only, lines_counted, nothing_behind, states_as, states_cut}
use Rattle.pr_top.proofs.Resumed.{no_states}
use Rattle.pr_top.proofs.Written.{risen_then, went_as, writes_map}
use Rattle.pr_top.proofs.outliving.tell_held.Goals as goal

pub returns-in_err-keep-clause-told : goal.returns-in_err-keep-clause-told
returns-in_err-keep-clause-told g c = λ h told can stands within is.
    let ds = c.args.script.now.decls.list in
    let a = g.K.Sink.text c.args.out.now in
    let now : Type 0 = HasRisen (g.K.Sink.faults c.args.out.now) (g.K.Sink.faults c.args.out.now) in
    let p = err_from_is_err_and c.from_residual.result c.from_residual.ensures.1 in
    let was = p.1 in
    let same = p.2 in
    let done : c.from_residual.result ≡ Err halts.NoMemory = cc in
    subst (λ (r : Result (Option Expected) Halt). TellsHeld ds h told c.args.unmet now a a r) (sym done) (nothing_behind ds h told within c.args.unmet now a (no_states ds h can))

pub returns-in_err-tell_placed-clause-told : goal.returns-in_err-tell_placed-clause-told
returns-in_err-tell_placed-clause-told g c = λ h told can stands within is.
    let ds = c.args.script.now.decls.list in
    let a = g.K.Sink.text c.args.out.now in
    let b = g.K.Sink.text c.tell_placed.new.out in
    let now : Type 0 = HasRisen (g.K.Sink.faults c.args.out.now) (g.K.Sink.faults c.tell_placed.new.out) in
    let heads : length c.as_slice-decls.result.now ≡ length ds = ap (λ (xs : List Decl). length xs) c.as_slice-decls.ensures in
    let es = c.as_slice.ensures ∙ (c.in_ok-keep.ensures (placed (reverse h)) stands).0 in
    let rest = unplaced_rest c.as_slice.result.now (reverse h) (c.args.lines - length c.as_slice-decls.result.now) told es (omega (arith, heads, is)) in
    let p = err_from_is_err_and c.from_residual-in_err-tell_placed.result c.from_residual-in_err-tell_placed.ensures.1 in
    let was = c.in_err-tell_placed.was in
    let same = p.2 in
    let done : c.tell_placed.result ≡ Err p.0 = cc in
    let cut = subst (λ (r : Result (Unit {0}) Halt). Writes (entry_lines ds (drop told (reverse h))) now a b r) done
    (subst (λ (xs : List NodeEntry). Writes (entry_lines ds xs) now a b c.tell_placed.result) rest c.tell_placed.ensures.told) in
    subst (λ (r : Result (Option Expected) Halt). TellsHeld ds h told c.args.unmet now a b r) (sym p.1) (entries_cut ds h told within c.args.unmet now (Unit {0}) a b p.0 (no_states ds h can) cut)

pub journals_of-requires : goal.journals_of-requires
journals_of-requires g c =
    let ds = c.args.script.now.decls.list in
    let held = c.requires.held in
    let es = (c.in_ok-keep.ensures (placed (reverse held.0)) held.3).0 in
    let nodes = c.node_count-nodes.ensures in
    subst (λ (ps : List (ℕ × Entry)). AllByRecursion (λ (e : ℕ × Entry). e.0 < c.node_count-nodes.result) ps) (sym es)
    (subst (λ (n : ℕ). AllByRecursion (λ (e : ℕ × Entry). e.0 < n) (placed (reverse held.0))) (sym nodes) (placed_declared (counts_of ds) held.0 held.2.is.declared))

pub returns-in_err-journals-clause-told : goal.returns-in_err-journals-clause-told
returns-in_err-journals-clause-told g c = λ h told can stands within is.
    let ds = c.args.script.now.decls.list in
    let a = g.K.Sink.text c.args.out.now in
    let b = g.K.Sink.text c.tell_placed.new.out in
    let now : Type 0 = HasRisen (g.K.Sink.faults c.args.out.now) (g.K.Sink.faults c.tell_placed.new.out) in
    let heads : length c.as_slice-decls.result.now ≡ length ds = ap (λ (xs : List Decl). length xs) c.as_slice-decls.ensures in
    let es = c.as_slice.ensures ∙ (c.in_ok-keep.ensures (placed (reverse h)) stands).0 in
    let rest = unplaced_rest c.as_slice.result.now (reverse h) (c.args.lines - length c.as_slice-decls.result.now) told es (omega (arith, heads, is)) in
    let first = went_as (Unit {0}) now a b _ (entry_lines ds (drop told (reverse h))) c.tell_placed.result tt (ap (λ (xs : List NodeEntry). entry_lines ds xs) rest) c.in_ok-tell_placed.was c.tell_placed.ensures.told in
    let p = err_from_is_err_and c.from_residual-in_err-journals.result c.from_residual-in_err-journals.ensures.1 in
    let was = p.1 in
    let same = p.2 in
    let done : c.from_residual-in_err-journals.result ≡ Err halts.NoMemory = cc in
    subst (λ (r : Result (Option Expected) Halt). TellsHeld ds h told c.args.unmet now a b r) (sym done) (entries_only ds h told within c.args.unmet now a b (no_states ds h can) first)

pub returns-in_err-tell_states-clause-told : goal.returns-in_err-tell_states-clause-told
returns-in_err-tell_states-clause-told g c = λ h told can stands within is.
    let ds = c.args.script.now.decls.list in
    let a = g.K.Sink.text c.args.out.now in
    let b = g.K.Sink.text c.tell_placed.new.out in
    let d = g.K.Sink.text c.tell_states.new.out in
    let early : Type 0 = HasRisen (g.K.Sink.faults c.args.out.now) (g.K.Sink.faults c.tell_placed.new.out) in
    let failed : Type 0 = HasRisen (g.K.Sink.faults c.tell_placed.new.out) (g.K.Sink.faults c.tell_states.new.out) in
    let now : Type 0 = HasRisen (g.K.Sink.faults c.args.out.now) (g.K.Sink.faults c.tell_states.new.out) in
    let heads : length c.as_slice-decls.result.now ≡ length ds = ap (λ (xs : List Decl). length xs) c.as_slice-decls.ensures in
    let opened = c.in_ok-keep.ensures (placed (reverse h)) stands in
    let es = c.as_slice.ensures ∙ opened.0 in
    let rest = unplaced_rest c.as_slice.result.now (reverse h) (c.args.lines - length c.as_slice-decls.result.now) told es (omega (arith, heads, is)) in
    let first = went_as (Unit {0}) early a b _ (entry_lines ds (drop told (reverse h))) c.tell_placed.result tt (ap (λ (xs : List NodeEntry). entry_lines ds xs) rest) c.in_ok-tell_placed.was c.tell_placed.ensures.told in
    let nodes = c.node_count-nodes.ensures in
    let are : AreJournals ds h c.in_ok-journals.journals.items = record { many = c.in_ok-journals.ensures.many ∙ nodes; each = c.in_ok-journals.ensures.each h opened.0 } in
    let p = err_from_is_err_and c.from_residual-in_err-tell_states.result c.from_residual-in_err-tell_states.ensures.1 in
    let was = c.in_err-tell_states.was in
    let same = p.2 in
    let done : c.tell_states.result ≡ Err p.0 = cc in
    let cut = states_as ds h c.tell_states.new.keep failed now b d p.0 (risen_then (g.K.Sink.faults c.args.out.now) (g.K.Sink.faults c.tell_placed.new.out) (g.K.Sink.faults c.tell_states.new.out) c.tell_placed.ensures.rises)
    (subst (λ (r : Result (Unit {0}) Halt). TellsStates ds h c.tell_states.new.keep failed b d r) done (c.tell_states.ensures.told h can are opened.1)) in
    subst (λ (r : Result (Option Expected) Halt). TellsHeld ds h told c.args.unmet now a d r) (sym p.1) (states_cut ds h told within c.args.unmet now c.tell_states.new.keep a b d p.0 first cut)

pub returns-clause-told : goal.returns-clause-told
returns-clause-told g c = λ h told can stands within is.
    let ds = c.args.script.now.decls.list in
    let a = g.K.Sink.text c.args.out.now in
    let b = g.K.Sink.text c.tell_placed.new.out in
    let d = g.K.Sink.text c.tell_states.new.out in
    let e = g.K.Sink.text c.close.new.out in
    let early : Type 0 = HasRisen (g.K.Sink.faults c.args.out.now) (g.K.Sink.faults c.tell_placed.new.out) in
    let failed : Type 0 = HasRisen (g.K.Sink.faults c.tell_placed.new.out) (g.K.Sink.faults c.tell_states.new.out) in
    let later : Type 0 = HasRisen (g.K.Sink.faults c.tell_states.new.out) (g.K.Sink.faults c.close.new.out) in
    let now : Type 0 = HasRisen (g.K.Sink.faults c.args.out.now) (g.K.Sink.faults c.close.new.out) in
    let heads : length c.as_slice-decls.result.now ≡ length ds = ap (λ (xs : List Decl). length xs) c.as_slice-decls.ensures in
    let opened = c.in_ok-keep.ensures (placed (reverse h)) stands in
    let es = c.as_slice.ensures ∙ opened.0 in
    let rest = unplaced_rest c.as_slice.result.now (reverse h) (c.args.lines - length c.as_slice-decls.result.now) told es (omega (arith, heads, is)) in
    let first = went_as (Unit {0}) early a b _ (entry_lines ds (drop told (reverse h))) c.tell_placed.result tt (ap (λ (xs : List NodeEntry). entry_lines ds xs) rest) c.in_ok-tell_placed.was c.tell_placed.ensures.told in
    let nodes = c.node_count-nodes.ensures in
    let are : AreJournals ds h c.in_ok-journals.journals.items = record { many = c.in_ok-journals.ensures.many ∙ nodes; each = c.in_ok-journals.ensures.each h opened.0 } in
    let told_states = subst (λ (r : Result (Unit {0}) Halt). TellsStates ds h c.tell_states.new.keep failed b d r) c.in_ok-tell_states.was (c.tell_states.ensures.told h can are opened.1) in
    let held = c.len-held.ensures ∙ ap (λ (ps : List (ℕ × Entry)). length ps) opened.0 ∙ placed_long h in
    let rises : g.K.Sink.faults c.args.out.now ≤ g.K.Sink.faults c.tell_states.new.out = omega (arith, c.tell_placed.ensures.rises, c.tell_states.ensures.rises) in
    let lines = length c.as_slice-decls.result.now + c.len-held.result + c.node_count-nodes.result in
    ended_so ds h told within c.args.unmet now told_states.0 told_states.1 told_states.2 lines (lines_counted ds h told_states.0 _ _ _ heads held nodes told_states.2) a b d first told_states.3 e c.close.result
    (writes_map (Option Expected) later now d e (ok_line lines) c.close.result (risen_then (g.K.Sink.faults c.args.out.now) (g.K.Sink.faults c.tell_states.new.out) (g.K.Sink.faults c.close.new.out) rises) c.close.ensures.told)
    c.close.ensures.unmet c.close.ensures.kept
