use Rattle.std.proofs.Common.{◌≡◌, drop, ◌+◌, ◌∙◌, ◌≤◌, Err, List, ap, arith, length, rules, subst, sym, ℕ}
use Rattle.std.specs.Io.KnownBytes.{Appends, prepend_known}
use Rattle.pr_node.specs.Stored.{NodeMeaning, means}
use Rattle.pr_ports.specs.Faults.{HasRisen}
use Rattle.pr_script.specs.declared.decl.Decl.{Decl}
use Rattle.pr_sim.specs.Making.{declared_of}
use Rattle.pr_sim.proofs.Telling.{many_places}
use Rattle.pr_story.specs.declared.entry.Entry.{Entry}
use Rattle.pr_story.specs.History.{journal}
use Rattle.pr_top.specs.Progress.{Writes, entry_lines}
use Rattle.pr_top.specs.Pulled.{HasPulled, IsClosed, entries_at}
use Rattle.pr_top.specs.declared.status.Status.{Status}
use Rattle.pr_top.specs.declared.status.Status.TheVariants as status
use Rattle.pr_top.specs.declared.stepping.Halt.{Halt}
use Rattle.pr_top.proofs.AskedRuns.{tells_run}
use Rattle.pr_top.proofs.PulledRuns.{entries_new, entries_of, entries_within, has_pulled, items_long, lines_fit, never_written}
use Rattle.pr_top.proofs.PulledTexts.{closed_text, lines_cut, lines_short}
use Rattle.pr_top.proofs.StreamLists.{few_decls}
use Rattle.pr_top.proofs.Written.{risen_then}
use Rattle.pr_top.proofs.pulling.pull_behind.Goals as goal

pub node_of-node-requires : goal.node_of-node-requires
node_of-node-requires g c = (c.args.front.now.script, c.requires.come.0, c.requires.come.1, c.requires.known)

pub tell_entries-requires : goal.tell_entries-requires
tell_entries-requires g c =
    let s = c.args.front.now.script in
    let n = c.args.number in
    let left = prepend_known c.args.front.now.ahead (g.S.Source.left c.args.source.now) in
    let from = g.S.Source.faults c.args.source.now in
    let left_now = g.S.Source.left c.take_in-end.new.source in
    let now = g.S.Source.faults c.take_in-end.new.source in
    let then = means c.take_in-end.new.node in
    let end = c.take_in-end.result in
    let h = c.requires.come.0 in
    let same = c.node_of-node.ensures s h c.requires.come.1 c.requires.known in
    let p = c.take_in-end.ensures.so h same in
    let was = c.journal.ensures ∙ ap (λ (x : NodeMeaning). x.journal) same in
    let place : c.len-from.result ≡ length (journal h n) = c.len-from.ensures ∙ items_long c.journal.result.now.items (journal h n) was in
    let within = entries_within (journal h n) then.journal p.0 p.1.journal_is in
    let all = items_long c.journal-2.result.now.items then.journal c.journal-2.ensures in
    omega (arith, place, within, all)

pub close-requires-clause-fits : goal.close-requires-clause-fits
close-requires-clause-fits g c =
    let s = c.args.front.now.script in
    let n = c.args.number in
    let left = prepend_known c.args.front.now.ahead (g.S.Source.left c.args.source.now) in
    let from = g.S.Source.faults c.args.source.now in
    let left_now = g.S.Source.left c.take_in-end.new.source in
    let now = g.S.Source.faults c.take_in-end.new.source in
    let then = means c.take_in-end.new.node in
    let end = c.take_in-end.result in
    let h = c.requires.come.0 in
    let same = c.node_of-node.ensures s h c.requires.come.1 c.requires.known in
    let p = c.take_in-end.ensures.so h same in
    let few = few_decls s.decls.list c.requires.good.decls in
    let heads : length c.as_slice.result.now ≡ length s.decls.list = ap (λ (xs : List Decl). length xs) c.as_slice.ensures in
    let most : length c.history.result.now ≤ 9223372036854775807 = search rules in
    lines_fit s h n left from left_now now then p.0 end (length c.as_slice.result.now + length c.history.result.now) p.1 (omega (arith, few, heads, most))

pub close-requires-clause-wrote : goal.close-requires-clause-wrote
close-requires-clause-wrote g c =
    let s = c.args.front.now.script in
    let n = c.args.number in
    let left = prepend_known c.args.front.now.ahead (g.S.Source.left c.args.source.now) in
    let from = g.S.Source.faults c.args.source.now in
    let left_now = g.S.Source.left c.take_in-end.new.source in
    let now = g.S.Source.faults c.take_in-end.new.source in
    let then = means c.take_in-end.new.node in
    let end = c.take_in-end.result in
    let h = c.requires.come.0 in
    let same = c.node_of-node.ensures s h c.requires.come.1 c.requires.known in
    let p = c.take_in-end.ensures.so h same in
    never_written s h n left from left_now now then p.0 end p.1

pub returns-in-Ok : goal.returns-in-Ok
returns-in-Ok g c = λ h before risen come written le.
    let s = c.args.front.now.script in
    let n = c.args.number in
    let left = prepend_known c.args.front.now.ahead (g.S.Source.left c.args.source.now) in
    let from = g.S.Source.faults c.args.source.now in
    let left_now = g.S.Source.left c.take_in-end.new.source in
    let now = g.S.Source.faults c.take_in-end.new.source in
    let then = means c.take_in-end.new.node in
    let end = c.take_in-end.result in
    let e = c.args.run.engine in
    let unmet = c.args.run.unmet in
    let same = c.node_of-node.ensures s h come c.requires.known in
    let p = c.take_in-end.ensures.so h same in
    let es = p.0 in
    let a = g.K.Sink.text c.args.out.now in
    let b = g.K.Sink.text c.tell_entries.new.out in
    let old = g.K.Sink.faults c.args.out.now in
    let mid = g.K.Sink.faults c.tell_entries.new.out in
    let was = c.journal.ensures ∙ ap (λ (x : NodeMeaning). x.journal) same in
    let place : c.len-from.result ≡ length (journal h n) = c.len-from.ensures ∙ items_long c.journal.result.now.items (journal h n) was in
    let fresh : drop c.len-from.result c.journal-2.result.now.items ≡ es = entries_of c.journal-2.result.now.items then.journal c.len-from.result c.journal-2.ensures ∙ entries_new (journal h n) then.journal es c.len-from.result p.1.journal_is place in
    let z = g.K.Sink.text c.close.new.out in
    let last = g.K.Sink.faults c.close.new.out in
    let told : Appends a b (entry_lines s.decls.list (entries_at n es)) = subst (λ (xs : List Entry). Appends a b (entry_lines s.decls.list (entries_at n xs))) fresh c.in-Ok.ensures.told in
    let places = c.history.ensures (declared_of s.decls.list) h (tells_run s h e unmet come) in
    let many = ap (λ (ps : List (ℕ × ℕ)). length ps) places ∙ many_places h in
    let count = ap (λ (k : ℕ). length c.as_slice.result.now + k) many ∙ ap (λ (xs : List Decl). length xs + length h) c.as_slice.ensures in
    let failed : Type 0 = HasRisen mid last in
    let closed = subst (λ (k : ℕ). IsClosed c.close.result end failed k b z) count c.close.ensures.closed in
    let f = risen_then risen mid last (omega (arith, le, c.in-Ok.ensures.rises)) in
    has_pulled c.close.result s h e unmet n left from left_now now (HasRisen risen last) before z then es end come p.1
    (closed_text s h n es before a written b told failed (HasRisen risen last) end f z c.close.result p.1.count_is closed)

pub returns-in-Err-WriteFault : goal.returns-in-Err-WriteFault
returns-in-Err-WriteFault g c = λ h before risen come written le.
    let s = c.args.front.now.script in
    let n = c.args.number in
    let left = prepend_known c.args.front.now.ahead (g.S.Source.left c.args.source.now) in
    let from = g.S.Source.faults c.args.source.now in
    let left_now = g.S.Source.left c.take_in-end.new.source in
    let now = g.S.Source.faults c.take_in-end.new.source in
    let then = means c.take_in-end.new.node in
    let end = c.take_in-end.result in
    let e = c.args.run.engine in
    let unmet = c.args.run.unmet in
    let same = c.node_of-node.ensures s h come c.requires.known in
    let p = c.take_in-end.ensures.so h same in
    let es = p.0 in
    let a = g.K.Sink.text c.args.out.now in
    let b = g.K.Sink.text c.tell_entries.new.out in
    let old = g.K.Sink.faults c.args.out.now in
    let mid = g.K.Sink.faults c.tell_entries.new.out in
    let was = c.journal.ensures ∙ ap (λ (x : NodeMeaning). x.journal) same in
    let place : c.len-from.result ≡ length (journal h n) = c.len-from.ensures ∙ items_long c.journal.result.now.items (journal h n) was in
    let fresh : drop c.len-from.result c.journal-2.result.now.items ≡ es = entries_of c.journal-2.result.now.items then.journal c.len-from.result c.journal-2.ensures ∙ entries_new (journal h n) then.journal es c.len-from.result p.1.journal_is place in
    let failed : Type 0 = HasRisen old mid in
    let cut = subst (λ (x : Halt). Writes {X = Unit {0}} (entry_lines s.decls.list (entries_at n es)) failed a b (Err x)) c.in-Err-WriteFault.field-0-is
    (subst (λ (xs : List Entry). Writes {X = Unit {0}} (entry_lines s.decls.list (entries_at n xs)) failed a b (Err c.in-Err-WriteFault.field-0)) fresh c.in-Err-WriteFault.ensures.told) in
    has_pulled status.WriteFault s h e unmet n left from left_now now (HasRisen risen mid) before b then es end come p.1
    (lines_cut s h n es before a written failed (HasRisen risen mid) end b (risen_then risen old mid le) cut)

pub returns : goal.returns
returns g c = λ h before risen come written le.
    let s = c.args.front.now.script in
    let n = c.args.number in
    let left = prepend_known c.args.front.now.ahead (g.S.Source.left c.args.source.now) in
    let from = g.S.Source.faults c.args.source.now in
    let left_now = g.S.Source.left c.take_in-end.new.source in
    let now = g.S.Source.faults c.take_in-end.new.source in
    let then = means c.take_in-end.new.node in
    let end = c.take_in-end.result in
    let e = c.args.run.engine in
    let unmet = c.args.run.unmet in
    let same = c.node_of-node.ensures s h come c.requires.known in
    let p = c.take_in-end.ensures.so h same in
    let es = p.0 in
    let a = g.K.Sink.text c.args.out.now in
    let b = g.K.Sink.text c.tell_entries.new.out in
    let old = g.K.Sink.faults c.args.out.now in
    let mid = g.K.Sink.faults c.tell_entries.new.out in
    let was = c.journal.ensures ∙ ap (λ (x : NodeMeaning). x.journal) same in
    let place : c.len-from.result ≡ length (journal h n) = c.len-from.ensures ∙ items_long c.journal.result.now.items (journal h n) was in
    let fresh : drop c.len-from.result c.journal-2.result.now.items ≡ es = entries_of c.journal-2.result.now.items then.journal c.len-from.result c.journal-2.ensures ∙ entries_new (journal h n) then.journal es c.len-from.result p.1.journal_is place in
    let z = g.K.Sink.text c.no_memory.new.out in
    let last = g.K.Sink.faults c.no_memory.new.out in
    let failed : Type 0 = HasRisen old mid in
    let later : Type 0 = HasRisen mid last in
    let cut = subst (λ (xs : List Entry). Writes {X = Unit {0}} (entry_lines s.decls.list (entries_at n xs)) failed a b (Err c.in-Err.field-0)) fresh c.in-Err.ensures.told in
    subst (λ (r : Status). HasPulled r s n left from left_now now (HasRisen risen last) before z) (sym c.no_memory.ensures.status)
    (has_pulled status.NoMemory s h e unmet n left from left_now now (HasRisen risen last) before z then es end come p.1
    (lines_short s h n es before a written failed later (HasRisen risen last) end c.in-Err.field-0 b z (risen_then risen mid last (omega (arith, le, c.in-Err.ensures.rises))) cut c.no_memory.ensures.line))
