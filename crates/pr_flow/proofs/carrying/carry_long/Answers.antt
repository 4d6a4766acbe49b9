use Rattle.std.proofs.Common.{◌≡◌, ◌∙◌, [], ◌++◌, ap, sym, subst, List, ℕ, length, take, drop, min, refl, arith}
use Rattle.std.proofs.lemmas.List.{length-append, length-drop, length-take}
use Rattle.std.specs.Result.{IfOk}
use Rattle.pr_wire.specs.Feeding.{Fed}
use Rattle.pr_wire.specs.Pieces.{rest_of}
use Rattle.pr_wire.specs.Spelling.{spelling}
use Rattle.pr_wire.specs.declared.format.Format.TheVariants.{Two}
use Rattle.pr_flow.specs.Moving.{IsLie, Moves}
use Rattle.pr_flow.proofs.Growing.{moves_more, moves_nothing}
use Rattle.pr_flow.proofs.OnTheWay.{count_more, cut_from, cut_here, front_bytes, next_of, no_memory, other_bytes, other_here, piece_more, pushed_limit, pushed_rest, refused_here}
use Rattle.pr_flow.proofs.carrying.carry_long.Goals as goal

pub loop-len-init : goal.loop-len-init
loop-len-init g c =
    let w = g.W.Wire in
    let a = w.state c.args.wire.now in
    let f = c.first_piece-len in
    let front = c.args.front.now in
    let rest = rest_of c.args.pieces.now in
    let empty : c.new-feed.result.rest ≡ [] = ap (λ (x : Fed). x.rest) c.new-feed.ensures in
    record {
      all = ap (λ (t : List ℕ). t ++ (take f.result f.new.piece ++ rest_of f.new.pieces)) empty
          ∙ next_of f.result f.new.piece (front ++ rest) (rest_of f.new.pieces) f.ensures.bytes f.ensures.rest
          ∙ c.requires.frame.1;
      limit = ap (λ (x : Fed). x.limit) c.new-feed.ensures;
      moved = subst (λ (t : List ℕ). Moves a a t t) (sym empty) (moves_nothing a);
      done = omega (arith, ap (λ (t : List ℕ). length t) empty);
      within = omega (arith, f.ensures.count);
      room = f.auto.piece;
      buffer = refl;
      end = λ none. omega (arith, none, f.ensures.count, c.requires.some, length-append front rest);
    }

pub returns-in_err-only_message-clause-moved : goal.returns-in_err-only_message-clause-moved
returns-in_err-only_message-clause-moved g c =
    let w = g.W.Wire in
    let a = w.state c.args.wire.now in
    let b = w.state c.loop-len.wire in
    let i = c.loop-len.invariant in
    let left = take c.loop-len.len c.loop-len.piece ++ rest_of c.loop-len.pieces in
    let r = c.from_residual-in_err-only_message in
    no_memory a b c.args.msg.now c.loop-len.feed.rest left r.result r.ensures.0 i.all i.moved

pub returns-in_err-push-in-Whole-clause-moved : goal.returns-in_err-push-in-Whole-clause-moved
returns-in_err-push-in-Whole-clause-moved g c =
    let w = g.W.Wire in
    let a = w.state c.args.wire.now in
    let b = w.state c.loop-len.wire in
    let d = w.state c.pass.new.wire in
    let i = c.loop-len.invariant in
    let piece = take c.loop-len.len c.loop-len.piece in
    let r = c.from_residual in
    refused_here a b d c.args.msg.now c.loop-len.feed.rest piece (rest_of c.loop-len.pieces) i.all i.moved r.result r.ensures.0 c.in-Whole.ensures.moved.0

pub returns-in-Cut-clause-moved : goal.returns-in-Cut-clause-moved
returns-in-Cut-clause-moved g c =
    let w = g.W.Wire in
    let a = w.state c.args.wire.now in
    let b = w.state c.loop-len.wire in
    let d = w.state c.pass.new.wire in
    let i = c.loop-len.invariant in
    let piece = take c.loop-len.len c.loop-len.piece in
    let k = c.in-Cut.ensures.moved in (
      cut_from c.in-Cut.cause a b d i.moved.faults i.moved.ends k.0,
      cut_here a b d c.args.msg.now c.loop-len.feed.rest piece (rest_of c.loop-len.pieces) i.all i.moved k.1,
    )

pub returns-in-Lied-clause-moved : goal.returns-in-Lied-clause-moved
returns-in-Lied-clause-moved g c =
    let w = g.W.Wire in
    let a = w.state c.args.wire.now in
    let b = w.state c.loop-len.wire in
    let d = w.state c.pass.new.wire in
    let i = c.loop-len.invariant in
    let k = c.in-Lied.ensures.moved in
    let n = c.in-Lied.len in
    let piece = take c.loop-len.len c.loop-len.piece in
    let back = drop c.loop-len.len c.loop-len.bytes in
    let same = other_bytes n c.pass.new.bytes back k.0 in
    other_here a b d c.args.msg.now c.loop-len.feed.rest piece (rest_of c.loop-len.pieces) i.all i.moved
    c.loop-len.done (take n c.pass.new.bytes) c.lied.result i.done k.1 k.2 k.3
    (subst (λ (t : List ℕ). IfOk c.lied.result (IsLie c.args.msg.now (take c.loop-len.done (spelling Two c.args.msg.now) ++ t))) same c.lied.ensures)

pub loop-len-preserved : goal.loop-len-preserved
loop-len-preserved g c =
    let w = g.W.Wire in
    let a = w.state c.args.wire.now in
    let b = w.state c.loop-len.wire in
    let d = w.state c.pass.new.wire in
    let i = c.loop-len.invariant in
    let k = c.in-Whole.ensures.moved in
    let n = c.next-len in
    let len = c.loop-len.len in
    let front = c.loop-len.feed.rest in
    let rest = rest_of c.loop-len.pieces in
    let piece = take len c.loop-len.piece in
    let size : len ≡ length piece = omega (arith, i.within, i.room, length-take len c.loop-len.piece) in
    let bytes = take len (c.pass.new.bytes ++ drop len c.loop-len.bytes) in
    let taken : bytes ≡ piece = front_bytes len c.pass.new.bytes (drop len c.loop-len.bytes) piece k.1 size in
    let is = c.in_ok-push-in-Whole.ensures.ok in
    let now : c.push.new.self.rest ≡ front ++ piece = pushed_rest c.loop-len.feed c.push.new.self bytes piece is taken in
    record {
      all = ap (λ (t : List ℕ). t ++ (take n.result n.new.buf ++ rest_of n.new.self)) now
          ∙ ap (λ (t : List ℕ). (front ++ piece) ++ t) (next_of n.result n.new.buf rest (rest_of n.new.self) n.ensures.bytes n.ensures.rest)
          ∙ piece_more a b d c.args.msg.now front piece rest i.all i.moved;
      limit = pushed_limit c.loop-len.feed c.push.new.self bytes is ∙ i.limit;
      moved = subst (λ (t : List ℕ). Moves a d t t) (sym now) (moves_more a b d front front piece piece i.moved k.0);
      done = count_more c.loop-len.done c.saturating_add-done.result len front piece i.done (omega (arith, c.saturating_add-done.ensures)) size ∙ ap (λ (t : List ℕ). min (length t) 18446744073709551615) (sym now);
      within = omega (arith, n.ensures.count, i.room);
      room = n.auto.buf ∙ i.room;
      buffer = omega (arith, ap (λ (t : List ℕ). length t) k.1, size, i.within, i.buffer, length-append c.pass.new.bytes (drop len c.loop-len.bytes), length-drop len c.loop-len.bytes);
      end = λ none. omega (arith, none, n.ensures.count, i.room, ap (λ (t : List ℕ). length t) n.ensures.rest, length-drop n.result rest);
    }
