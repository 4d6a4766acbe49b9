use Rattle.std.proofs.Common.{[], ◌∷◌, ◌++◌, List, ℕ, None, Some, inl, inr, sym, ap, subst, arith}
use Rattle.pr_wire.specs.Feeding.{Fed}
use Rattle.pr_wire.specs.Frames.{IsPartial}
use Rattle.pr_wire.proofs.FrameLemmas.{nothing_in}
use Rattle.pr_serve.specs.Inputs.{input}
use Rattle.pr_serve.proofs.FrameParts.{bad_in, byte_is, frame_stops, is_stop, message_in, more_in, partial_stands}
use Rattle.pr_serve.proofs.Taking.{takes_no_more, takes_none, takes_then}
use Rattle.pr_serve.proofs.framing.frame.Goals as goal

pub loop-feed-init : goal.loop-feed-init
loop-feed-init g c =
    let empty = ap (λ (x : Fed). x.rest) c.new-feed.ensures in
    record {
      limit = ap (λ (x : Fed). x.limit) c.new-feed.ensures;
      got = ([], takes_none (input (g.S.Source.left c.args.source.now) (g.S.Source.faults c.args.source.now) c.args.window.now), sym (ap (λ (t : List ℕ). t ++ c.args.first ∷ []) empty));
      part = subst (λ (t : List ℕ). IsPartial 18446744073709551615 t) (sym empty) (nothing_in 18446744073709551615);
      most = c.requires;
    }

pub returns-in-Message-clause-so : goal.returns-in-Message-clause-so
returns-in-Message-clause-so g c =
    let l = c.loop-feed in
    let got = l.invariant.got in
    let is = message_in l.feed c.push.new.self c.next.new.self c.args.first l.byte got.0 l.invariant.limit l.invariant.part got.2 c.in_ok-push.ensures.ok c.in_ok-msg.field-0 c.in-Message.msg c.in_ok-msg.ensures.answer c.in-Message.is in
    (is.0, got.0, is.1, is.2, got.1)

pub returns-in-Bad-clause-so : goal.returns-in-Bad-clause-so
returns-in-Bad-clause-so g c =
    let l = c.loop-feed in
    let got = l.invariant.got in
    (got.0, got.1, (omega arith, inl (bad_in l.feed c.push.new.self c.next.new.self c.args.first l.byte got.0 l.invariant.limit l.invariant.part got.2 c.in_ok-push.ensures.ok c.in_ok-msg.field-0 c.in-Bad.at c.in_ok-msg.ensures.answer c.in-Bad.is)))

pub returns-in_err-next-clause-so : goal.returns-in_err-next-clause-so
returns-in_err-next-clause-so g c =
    let left = g.S.Source.left in
    let faults = g.S.Source.faults in
    let l = c.loop-feed in
    let n = c.next-in-loop-feed.new in
    let got = l.invariant.got in
    let more = more_in l.feed c.push.new.self c.next.new.self c.args.first l.byte got.0 l.invariant.limit l.invariant.part got.2 c.in_ok-push.ensures.ok c.in_ok-msg.field-0 c.in_ok-msg.ensures.answer c.in-More.is in
    let stop = c.in_err-next.field-0.0 in
    frame_stops c.args.first (input (left c.args.source.now) (faults c.args.source.now) c.args.window.now) (input (left l.source) (faults l.source) l.window) (input (left n.source) (faults n.source) n.self)
    got.0 stop c.from_residual-in_err-next.result (is_stop c.from_residual-in_err-next.result _ stop c.from_residual-in_err-next.ensures (λ e p. p)) got.1 more.2 c.in_err-next.ensures.so

pub returns-in-None-clause-so : goal.returns-in-None-clause-so
returns-in-None-clause-so g c =
    let left = g.S.Source.left in
    let faults = g.S.Source.faults in
    let l = c.loop-feed in
    let n = c.next-in-loop-feed.new in
    let got = l.invariant.got in
    let x = input (left c.args.source.now) (faults c.args.source.now) c.args.window.now in
    let y = input (left l.source) (faults l.source) l.window in
    let z = input (left n.source) (faults n.source) n.self in
    let more = more_in l.feed c.push.new.self c.next.new.self c.args.first l.byte got.0 l.invariant.limit l.invariant.part got.2 c.in_ok-push.ensures.ok c.in_ok-msg.field-0 c.in_ok-msg.ensures.answer c.in-More.is in
    let over = byte_is y z c.in_ok-next.field-0 None c.in-None.is c.in_ok-next.ensures.so in
    (got.0, takes_no_more x y z got.0 got.1 over.0, (omega arith, inr (partial_stands (c.args.first ∷ got.0) more.2, over.1)))

pub loop-feed-preserved : goal.loop-feed-preserved
loop-feed-preserved g c =
    let left = g.S.Source.left in
    let faults = g.S.Source.faults in
    let l = c.loop-feed in
    let n = c.next-in-loop-feed.new in
    let got = l.invariant.got in
    let next = c.in-Some.next in
    let x = input (left c.args.source.now) (faults c.args.source.now) c.args.window.now in
    let y = input (left l.source) (faults l.source) l.window in
    let z = input (left n.source) (faults n.source) n.self in
    let more = more_in l.feed c.push.new.self c.next.new.self c.args.first l.byte got.0 l.invariant.limit l.invariant.part got.2 c.in_ok-push.ensures.ok c.in_ok-msg.field-0 c.in_ok-msg.ensures.answer c.in-More.is in
    let byte = byte_is y z c.in_ok-next.field-0 (Some next) c.in-Some.is c.in_ok-next.ensures.so in
    record {
      limit = more.0;
      got = (got.0 ++ next ∷ [], takes_then x y z got.0 (next ∷ []) got.1 byte, sym (ap (λ (t : List ℕ). t ++ next ∷ []) more.1));
      part = subst (λ (t : List ℕ). IsPartial 18446744073709551615 t) (sym more.1) more.2;
      most = c.in_ok-next.ensures.most;
    }
