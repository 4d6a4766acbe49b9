use Rattle.std.proofs.Common.{[], ◌∷◌, List, ℕ, Some, inl, subst, sym, false, true, ◌≡◌, ◌∙◌, arith}
use Rattle.pr_serve.specs.Frames.{IsPart, IsWanted}
use Rattle.pr_serve.specs.Inputs.{NoneBegins, input}
use Rattle.pr_serve.proofs.FrameParts.{byte_is, first_stops, is_stop, rest_stops, unwanted_begins}
use Rattle.pr_serve.proofs.Taking.{takes_then}
use Rattle.pr_serve.proofs.framing.next_part.Goals as goal

pub returns-in_err-first-clause-so : goal.returns-in_err-first-clause-so
returns-in_err-first-clause-so g c =
    let left = g.S.Source.left in
    let faults = g.S.Source.faults in
    let n = c.next.new in
    let stop = c.in_err-first.field-0.0 in
    first_stops c.args.nodes c.args.streams.now (input (left c.args.source.now) (faults c.args.source.now) c.args.window.now) (input (left n.source) (faults n.source) n.self)
    stop c.from_residual.result (is_stop c.from_residual.result _ stop c.from_residual.ensures (λ e p. p)) c.in_err-first.ensures.so

pub returns-in_err-msg-clause-so : goal.returns-in_err-msg-clause-so
returns-in_err-msg-clause-so g c =
    let left = g.S.Source.left in
    let faults = g.S.Source.faults in
    let n = c.next.new in
    let m = c.frame.new in
    let first = c.in-Some.first in
    let stop = c.in_err-msg.field-0.0 in
    let x = input (left c.args.source.now) (faults c.args.source.now) c.args.window.now in
    let y = input (left n.source) (faults n.source) n.self in
    rest_stops c.args.nodes c.args.streams.now first x y (input (left m.source) (faults m.source) m.window) stop c.from_residual-in_err-msg.result
    (is_stop c.from_residual-in_err-msg.result _ stop c.from_residual-in_err-msg.ensures (λ e p. p)) c.if-first-eq0.false
    (byte_is x y c.in_ok-first.field-0 (Some first) c.in-Some.is c.in_ok-first.ensures.so) c.in_err-msg.ensures.so

pub returns-else-is_wanted-clause-so : goal.returns-else-is_wanted-clause-so
returns-else-is_wanted-clause-so g c =
    let left = g.S.Source.left in
    let faults = g.S.Source.faults in
    let n = c.next.new in
    let m = c.frame.new in
    let first = c.in-Some.first in
    let x = input (left c.args.source.now) (faults c.args.source.now) c.args.window.now in
    let y = input (left n.source) (faults n.source) n.self in
    let z = input (left m.source) (faults m.source) m.window in
    let one = byte_is x y c.in_ok-first.field-0 (Some first) c.in-Some.is c.in_ok-first.ensures.so in
    let framed = c.in_ok-msg.ensures.so in
    let not_wanted : ¬ IsWanted c.args.nodes c.args.streams.now c.in_ok-msg.msg = λ w. let yes : c.is_wanted.result ≡ true = c.is_wanted.ensures.1 w in let other : false ≡ true = sym c.if-is_wanted.false ∙ yes in absurd cc in (
      first ∷ framed.1,
      takes_then x y z (first ∷ []) framed.1 one framed.4,
      (omega arith, inl (subst (λ (t : List ℕ). NoneBegins (IsPart c.args.nodes c.args.streams.now) t) (sym framed.3) (unwanted_begins c.args.nodes c.args.streams.now framed.0 c.in_ok-msg.msg framed.2 not_wanted))),
    )
