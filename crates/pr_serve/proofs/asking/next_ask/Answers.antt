use Rattle.std.proofs.Common.{[], ◌∷◌, List, ℕ, Some, inl, arith, subst}
use Rattle.pr_serve.specs.Asking.{IsReadAsk}
use Rattle.pr_serve.specs.Inputs.{input}
use Rattle.pr_serve.proofs.AskExtent.{no_mark_begins}
use Rattle.pr_serve.proofs.AskParts.{first_stops, read_so, rest_stops}
use Rattle.pr_serve.proofs.FrameParts.{byte_is, is_stop}
use Rattle.pr_serve.proofs.asking.next_ask.Goals as goal

pub returns-in_err-first-clause-so : goal.returns-in_err-first-clause-so
returns-in_err-first-clause-so g c =
    let left = g.S.Source.left in
    let faults = g.S.Source.faults in
    let n = c.next.new in
    let stop = c.in_err-first.field-0.0 in
    first_stops (input (left c.args.source.now) (faults c.args.source.now) c.args.window.now) (input (left n.source) (faults n.source) n.self)
    stop c.from_residual.result (is_stop c.from_residual.result _ stop c.from_residual.ensures (λ e p. p)) c.in_err-first.ensures.so

pub returns-then-first-ne-MARK-clause-so : goal.returns-then-first-ne-MARK-clause-so
returns-then-first-ne-MARK-clause-so g c =
    let left = g.S.Source.left in
    let faults = g.S.Source.faults in
    let n = c.next.new in
    let first = c.in-Some.first in
    let x = input (left c.args.source.now) (faults c.args.source.now) c.args.window.now in
    let y = input (left n.source) (faults n.source) n.self in
    (first ∷ [], byte_is x y c.in_ok-first.field-0 (Some first) c.in-Some.is c.in_ok-first.ensures.so, (omega arith, inl (no_mark_begins first c.if-first-ne-MARK.true)))

pub returns-in_err-bytes-clause-so : goal.returns-in_err-bytes-clause-so
returns-in_err-bytes-clause-so g c =
    let left = g.S.Source.left in
    let faults = g.S.Source.faults in
    let n = c.next.new in
    let m = c.ask_bytes.new in
    let first = c.in-Some.first in
    let stop = c.in_err-bytes.field-0.0 in
    let x = input (left c.args.source.now) (faults c.args.source.now) c.args.window.now in
    let y = input (left n.source) (faults n.source) n.self in
    rest_stops first x y (input (left m.source) (faults m.source) m.window) stop c.from_residual-in_err-bytes.result
    (is_stop c.from_residual-in_err-bytes.result _ stop c.from_residual-in_err-bytes.ensures (λ e p. p)) c.if-first-ne-MARK.false
    (byte_is x y c.in_ok-first.field-0 (Some first) c.in-Some.is c.in_ok-first.ensures.so) c.in_err-bytes.ensures.so

pub returns-clause-so : goal.returns-clause-so
returns-clause-so g c =
    let left = g.S.Source.left in
    let faults = g.S.Source.faults in
    let n = c.next.new in
    let m = c.ask_bytes.new in
    let first = c.in-Some.first in
    let x = input (left c.args.source.now) (faults c.args.source.now) c.args.window.now in
    let y = input (left n.source) (faults n.source) n.self in
    read_so x y (input (left m.source) (faults m.source) m.window) first c.in_ok-bytes.bytes c.if-first-ne-MARK.false
    (byte_is x y c.in_ok-first.field-0 (Some first) c.in-Some.is c.in_ok-first.ensures.so) c.in_ok-bytes.ensures.so c.read_ask.result
    (subst (λ (t : List ℕ). IsReadAsk t c.read_ask.result) c.as_slice.ensures c.read_ask.ensures)
