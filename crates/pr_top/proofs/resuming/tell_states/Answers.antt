use Rattle.std.proofs.Common.{◌≡◌, ◌+◌, ◌++◌, ◌∷◌, [], Err, Result, arith, length, length-append, refl, reverse, rules, subst, sym}
use Rattle.std.proofs.lemmas.Iterator.Adapters.{YieldsList-from_vec}
use Rattle.std.proofs.lemmas.Iterator.Consumers.{YieldsList-turn}
use Rattle.std.proofs.lemmas.Result.{err_from_is_err_and}
use Rattle.pr_keep.specs.Entries.{HasMessage}
use Rattle.pr_node.specs.Stored.{means}
use Rattle.pr_ports.specs.Faults.{HasRisen}
use Rattle.pr_story.specs.declared.entry.Entry.{Entry}
use Rattle.pr_text.specs.Lines.{line_text}
use Rattle.pr_top.specs.Kept.{placed}
use Rattle.pr_top.specs.Progress.{Writes}
use Rattle.pr_top.specs.Resuming.{TellsStates}
use Rattle.pr_top.specs.declared.stepping.Halt.{Halt}
use Rattle.pr_top.specs.declared.stepping.Halt.TheVariants as halts
use Rattle.pr_top.proofs.StatesTold.{next_made, resuming_cut, resuming_more, resuming_short, state_message}
use Rattle.pr_top.proofs.Written.{risen_then, went_as, writes_as}
use Rattle.pr_top.proofs.resuming.tell_states.Goals as goal

pub returns-in_err-node-clause-told : goal.returns-in_err-node-clause-told
returns-in_err-node-clause-told g c = λ h can are keeps.
    let ds = c.args.decls.now.list in
    let a = g.K.Sink.text c.args.out.now in
    let b = g.K.Sink.text c.loop-journal.out in
    let now : Type 0 = HasRisen (g.K.Sink.faults c.args.out.now) (g.K.Sink.faults c.loop-journal.out) in
    let k = c.loop-journal.invariant.told h can are keeps in
    let p = err_from_is_err_and c.from_residual.result c.from_residual.ensures.1 in
    let is = p.1 in
    let same = p.2 in
    let done : c.from_residual.result ≡ Err halts.NoMemory = cc in
    subst (λ (r : Result (Unit {0}) Halt). TellsStates ds h c.loop-journal.keep now a b r) (sym done)
    (resuming_short ds h c.loop-journal.number c.loop-journal.keep a b k c.loop-journal.keep now)

pub last-state-requires : goal.last-state-requires
last-state-requires g c =
    let ds = c.args.decls.now.list in
    let all = c.args.journals.items in
    let held = c.requires.held in
    let turn = YieldsList-turn (YieldsList-from_vec {s = c.into_iter-journal-iterator.result} all (search rules) (search rules))
    c.loop-journal.yielded c.loop-journal.journal-iterator c.loop-journal.yielded_by c.next.result c.next.new.self c.in-Some.journal c.in-Some.is c.next.ensures.steps in
    let made = next_made ds held.0 all (length c.loop-journal.yielded) c.loop-journal.number c.in-Some.journal (means c.in_ok-node.node) c.requires.good held.1 held.2 c.loop-journal.invariant.at turn.0 turn.1 c.in_ok-node.ensures in
    (made.entry, made.before, made.here)

pub keep_state-requires-clause-message : goal.keep_state-requires-clause-message
keep_state-requires-clause-message g c =
    let ds = c.args.decls.now.list in
    let all = c.args.journals.items in
    let held = c.requires.held in
    let turn = YieldsList-turn (YieldsList-from_vec {s = c.into_iter-journal-iterator.result} all (search rules) (search rules))
    c.loop-journal.yielded c.loop-journal.journal-iterator c.loop-journal.yielded_by c.next.result c.next.new.self c.in-Some.journal c.in-Some.is c.next.ensures.steps in
    let made = next_made ds held.0 all (length c.loop-journal.yielded) c.loop-journal.number c.in-Some.journal (means c.in_ok-node.node) c.requires.good held.1 held.2 c.loop-journal.invariant.at turn.0 turn.1 c.in_ok-node.ensures in
    subst (λ (e : Entry). HasMessage e.event) (sym (c.last-state.ensures made.entry made.before made.here)) (state_message made.entry.event made.state)

pub returns-in_err-keep_state-clause-told : goal.returns-in_err-keep_state-clause-told
returns-in_err-keep_state-clause-told g c = λ h can are keeps.
    let ds = c.args.decls.now.list in
    let a = g.K.Sink.text c.args.out.now in
    let b = g.K.Sink.text c.loop-journal.out in
    let now : Type 0 = HasRisen (g.K.Sink.faults c.args.out.now) (g.K.Sink.faults c.loop-journal.out) in
    let k = c.loop-journal.invariant.told h can are keeps in
    let p = err_from_is_err_and c.from_residual-in_err-keep_state.result c.from_residual-in_err-keep_state.ensures.1 in
    let is = p.1 in
    let same = p.2 in
    let done : c.from_residual-in_err-keep_state.result ≡ Err halts.NoMemory = cc in
    subst (λ (r : Result (Unit {0}) Halt). TellsStates ds h c.keep_state.new.keep now a b r) (sym done)
    (resuming_short ds h c.loop-journal.number c.loop-journal.keep a b k c.keep_state.new.keep now)

pub returns-in_err-tell_line-clause-told : goal.returns-in_err-tell_line-clause-told
returns-in_err-tell_line-clause-told g c = λ h can are keeps.
    let ds = c.args.decls.now.list in
    let all = c.args.journals.items in
    let a = g.K.Sink.text c.args.out.now in
    let b = g.K.Sink.text c.loop-journal.out in
    let d = g.K.Sink.text c.tell_line.new.out in
    let number = c.loop-journal.number in
    let e = c.last-state.result.now in
    let failed : Type 0 = HasRisen (g.K.Sink.faults c.loop-journal.out) (g.K.Sink.faults c.tell_line.new.out) in
    let now : Type 0 = HasRisen (g.K.Sink.faults c.args.out.now) (g.K.Sink.faults c.tell_line.new.out) in
    let turn = YieldsList-turn (YieldsList-from_vec {s = c.into_iter-journal-iterator.result} all (search rules) (search rules))
    c.loop-journal.yielded c.loop-journal.journal-iterator c.loop-journal.yielded_by c.next.result c.next.new.self c.in-Some.journal c.in-Some.is c.next.ensures.steps in
    let made = next_made ds h all (length c.loop-journal.yielded) number c.in-Some.journal (means c.in_ok-node.node) c.requires.good can are c.loop-journal.invariant.at turn.0 turn.1 c.in_ok-node.ensures in
    let k = c.loop-journal.invariant.told h can are keeps in
    let p = err_from_is_err_and c.from_residual-in_err-tell_line.result c.from_residual-in_err-tell_line.ensures.1 in
    let was = c.in_err-tell_line.was in
    let same = p.2 in
    let done : c.tell_line.result ≡ Err p.0 = cc in
    let line = writes_as (Unit {0}) failed now b d (line_text ds number e.event) p.0
    (risen_then (g.K.Sink.faults c.args.out.now) (g.K.Sink.faults c.loop-journal.out) (g.K.Sink.faults c.tell_line.new.out) c.loop-journal.invariant.rises)
    (subst (λ (r : Result (Unit {0}) Halt). Writes (line_text ds number e.event) failed b d r) done c.tell_line.ensures.told) in
    subst (λ (r : Result (Unit {0}) Halt). TellsStates ds h c.keep_state.new.keep now a d r) (sym p.1)
    (resuming_cut ds h number c.loop-journal.keep a b k (means c.in_ok-node.node) made e (c.last-state.ensures made.entry made.before made.here) c.keep_state.new.keep now d p.0 line)

pub loop-journal-preserved : goal.loop-journal-preserved
loop-journal-preserved g c = record {
  can_next = tt;
  is_finite = tt;
  rises = omega (arith, c.loop-journal.invariant.rises, c.tell_line.ensures.rises);
  at = let l : length (c.loop-journal.yielded ++ c.in-Some.journal ∷ []) ≡ length c.loop-journal.yielded + 1 = length-append c.loop-journal.yielded (c.in-Some.journal ∷ []) in omega (arith, l, c.loop-journal.invariant.at);
  told = λ h can are keeps.
      let ds = c.args.decls.now.list in
      let all = c.args.journals.items in
      let a = g.K.Sink.text c.args.out.now in
      let b = g.K.Sink.text c.loop-journal.out in
      let d = g.K.Sink.text c.tell_line.new.out in
      let number = c.loop-journal.number in
      let e = c.last-state.result.now in
      let failed : Type 0 = HasRisen (g.K.Sink.faults c.loop-journal.out) (g.K.Sink.faults c.tell_line.new.out) in
      let turn = YieldsList-turn (YieldsList-from_vec {s = c.into_iter-journal-iterator.result} all (search rules) (search rules))
      c.loop-journal.yielded c.loop-journal.journal-iterator c.loop-journal.yielded_by c.next.result c.next.new.self c.in-Some.journal c.in-Some.is c.next.ensures.steps in
      let made = next_made ds h all (length c.loop-journal.yielded) number c.in-Some.journal (means c.in_ok-node.node) c.requires.good can are c.loop-journal.invariant.at turn.0 turn.1 c.in_ok-node.ensures in
      let k = c.loop-journal.invariant.told h can are keeps in
      resuming_more ds h number c.loop-journal.keep a b k (means c.in_ok-node.node) made e (c.last-state.ensures made.entry made.before made.here) c.keep_state.new.keep d
      (c.in_ok-keep_state.ensures (placed (reverse (reverse k.states ++ h))) k.keeps)
      (went_as (Unit {0}) failed b d (line_text ds number e.event) (line_text ds number e.event) c.tell_line.result tt refl c.in_ok-tell_line.was c.tell_line.ensures.told);
}
