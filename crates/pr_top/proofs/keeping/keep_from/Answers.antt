use Rattle.std.proofs.Common.{◌≡◌, ◌<◌, ◌∙◌, ap, arith, length, reverse, subst, sym, take, ℕ, List}
use Rattle.std.proofs.lemmas.List.{length-reverse}
use Rattle.pr_keep.specs.Entries.{HasMessage}
use Rattle.pr_sim.proofs.Telling.{many_places, some_entry}
use Rattle.pr_story.specs.declared.entry.Entry.{Entry}
use Rattle.pr_top.specs.Kept.{KeepsOn, placed}
use Rattle.pr_top.proofs.KeptDisks.{keeps_cut, keeps_more, keeps_none}
use Rattle.pr_top.proofs.KeptEntries.{can_keep, placed_at, placed_long}
use Rattle.pr_top.proofs.keeping.keep_from.Goals as goal

pub loop-at-init : goal.loop-at-init
loop-at-init g c = λ d h tells le kept. keeps_none g.D.Disk.state g.D.Disk.images g.D.Disk.moment g.D.Disk.images_since c.args.keep.now (placed (reverse h)) c.args.told (λ image was. g.met.D.Disk.only_now c.args.keep.now.disk image was) kept

pub node_of-requires : goal.node_of-requires
node_of-requires g c =
    let many = ap (λ (ps : List (ℕ × ℕ)). length ps) (c.history-len.ensures c.requires.0 c.requires.1 c.requires.2) ∙ many_places c.requires.1 in
    let lt : c.loop-at.at < length c.requires.1 = omega (arith, many, c.loop-at-test.true) in
    (c.requires.0, c.requires.1, c.requires.2, lt)

pub entry-requires : goal.entry-requires
entry-requires g c =
    let many = ap (λ (ps : List (ℕ × ℕ)). length ps) (c.history-len.ensures c.requires.0 c.requires.1 c.requires.2) ∙ many_places c.requires.1 in
    let lt : c.loop-at.at < length c.requires.1 = omega (arith, many, c.loop-at-test.true) in
    (c.requires.0, c.requires.1, c.requires.2, lt)

pub append-requires-clause-node : goal.append-requires-clause-node
append-requires-clause-node g c =
    let many = ap (λ (ps : List (ℕ × ℕ)). length ps) (c.history-len.ensures c.requires.0 c.requires.1 c.requires.2) ∙ many_places c.requires.1 in
    let lt : c.loop-at.at < length c.requires.1 = omega (arith, many, c.loop-at-test.true) in
    subst (λ (n : ℕ). n < 32) (sym (c.node_of.ensures c.requires.0 c.requires.1 some_entry c.requires.2 lt)) (can_keep c.requires.0 c.requires.1 c.args.engine.now c.requires.2 c.loop-at.at some_entry lt).0

pub append-requires-clause-message : goal.append-requires-clause-message
append-requires-clause-message g c =
    let many = ap (λ (ps : List (ℕ × ℕ)). length ps) (c.history-len.ensures c.requires.0 c.requires.1 c.requires.2) ∙ many_places c.requires.1 in
    let lt : c.loop-at.at < length c.requires.1 = omega (arith, many, c.loop-at-test.true) in
    subst (λ (e : Entry). HasMessage e.event) (sym (c.entry.ensures c.requires.0 c.requires.1 some_entry c.requires.2 lt)) (can_keep c.requires.0 c.requires.1 c.args.engine.now c.requires.2 c.loop-at.at some_entry lt).1

pub append-requires-clause-kept : goal.append-requires-clause-kept
append-requires-clause-kept g c =
    let a = c.loop-at.invariant c.requires.0 c.requires.1 c.requires.2 c.requires.3 c.requires.4 in
    (take c.loop-at.at (placed (reverse c.requires.1)), a.keeps)

pub returns-in-Err : goal.returns-in-Err
returns-in-Err g c = λ d h tells le kept.
    let many = ap (λ (ps : List (ℕ × ℕ)). length ps) (c.history-len.ensures d h tells) ∙ many_places h in
    let lt : c.loop-at.at < length h = omega (arith, many, c.loop-at-test.true) in
    let in_turn : c.loop-at.at < length (reverse h) = omega (arith, lt, length-reverse h) in
    let in_all : c.loop-at.at < length (placed (reverse h)) = omega (arith, lt, placed_long h) in
    let a = c.loop-at.invariant d h tells le kept in
    let is = placed_at (reverse h) c.loop-at.at some_entry c.node_of.result c.entry.result.now in_turn (c.node_of.ensures d h some_entry tells lt) (c.entry.ensures d h some_entry tells lt) in (
      c.in-Err.fault,
      c.broken.ensures,
      c.in-Err.ensures.fault,
      (
        c.loop-at.at,
        keeps_cut g.D.Disk.state g.D.Disk.images g.D.Disk.moment g.D.Disk.images_since c.args.keep.now c.loop-at.keep c.append.new.self (placed (reverse h)) c.args.told c.loop-at.at (c.node_of.result, c.entry.result.now) c.append.result c.in-Err.fault in_all is a
            c.in-Err.is (c.append.ensures.err (take c.loop-at.at (placed (reverse h))) a.keeps) (c.append.ensures.moments (take c.loop-at.at (placed (reverse h))) a.keeps) c.append.ensures.cause,
      ),
    )

pub loop-at-preserved : goal.loop-at-preserved
loop-at-preserved g c = λ d h tells le kept.
    let many = ap (λ (ps : List (ℕ × ℕ)). length ps) (c.history-len.ensures d h tells) ∙ many_places h in
    let lt : c.loop-at.at < length h = omega (arith, many, c.loop-at-test.true) in
    let in_turn : c.loop-at.at < length (reverse h) = omega (arith, lt, length-reverse h) in
    let in_all : c.loop-at.at < length (placed (reverse h)) = omega (arith, lt, placed_long h) in
    let a = c.loop-at.invariant d h tells le kept in
    let is = placed_at (reverse h) c.loop-at.at some_entry c.node_of.result c.entry.result.now in_turn (c.node_of.ensures d h some_entry tells lt) (c.entry.ensures d h some_entry tells lt) in
    keeps_more g.D.Disk.state g.D.Disk.images g.D.Disk.moment g.D.Disk.images_since c.args.keep.now c.loop-at.keep c.append.new.self (placed (reverse h)) c.args.told c.loop-at.at (c.node_of.result, c.entry.result.now) c.append.result in_all is a
    c.in-Ok.is (c.append.ensures.ok (take c.loop-at.at (placed (reverse h))) a.keeps) c.append.ensures.good (c.append.ensures.moments (take c.loop-at.at (placed (reverse h))) a.keeps) c.append.ensures.cause

pub returns : goal.returns
returns g c = λ d h tells le kept.
    let many = ap (λ (ps : List (ℕ × ℕ)). length ps) (c.history-len.ensures d h tells) ∙ many_places h in
    let a = c.loop-at.invariant d h tells le kept in
    subst (λ (n : ℕ). KeepsOn g.D.Disk.state g.D.Disk.images g.D.Disk.moment g.D.Disk.images_since c.args.keep.now c.loop-at.keep (placed (reverse h)) c.args.told n) (let l : length (placed (reverse h)) ≡ length h = placed_long h in omega (arith, many, l, c.loop-at-test.false, c.loop-at.auto.at-end)) a
