use Rattle.std.proofs.Common.{◌≡◌, [], ◌∷◌, ◌++◌, List, ℕ, None, Some, inr, sym, ap, arith, ◌∙◌}
use Rattle.pr_serve.specs.Inputs.{input}
use Rattle.pr_serve.proofs.AskExtent.{extends_all, less_than_ask}
use Rattle.pr_serve.proofs.AskParts.{bytes_stop, more_comes, so_far, stands_as, under_way}
use Rattle.pr_serve.proofs.FrameParts.{byte_is, is_stop}
use Rattle.pr_serve.proofs.Taking.{takes_no_more, takes_then}
use Rattle.pr_serve.proofs.asking.ask_bytes.Goals as goal

pub returns-then-is_nothing-clause-so : goal.returns-then-is_nothing-clause-so
returns-then-is_nothing-clause-so g c =
    let l = c.loop-bytes in
    let got = l.invariant.got in
    let extends = so_far l.bytes c.push.new.self l.coming c.after-coming.result l.byte l.invariant.extends l.invariant.more c.in_ok-push.ensures.ok c.after-coming.ensures in
    (got.0, c.in_ok-push.ensures.ok ∙ sym got.2, got.1, extends_all c.push.new.self c.after-coming.result extends (c.is_nothing.ensures.0 c.if-is_nothing.true))

pub returns-in_err-next-clause-so : goal.returns-in_err-next-clause-so
returns-in_err-next-clause-so g c =
    let left = g.S.Source.left in
    let faults = g.S.Source.faults in
    let l = c.loop-bytes in
    let n = c.next.new in
    let got = l.invariant.got in
    let all : 81 ∷ got.0 ≡ c.push.new.self = got.2 ∙ sym c.in_ok-push.ensures.ok in
    let extends = so_far l.bytes c.push.new.self l.coming c.after-coming.result l.byte l.invariant.extends l.invariant.more c.in_ok-push.ensures.ok c.after-coming.ensures in
    let stop = c.in_err-next.field-0.0 in
    bytes_stop (input (left c.args.source.now) (faults c.args.source.now) c.args.window.now) (input (left l.source) (faults l.source) l.window) (input (left n.source) (faults n.source) n.self)
    got.0 stop c.from_residual-in_err-next.result (is_stop c.from_residual-in_err-next.result _ stop c.from_residual-in_err-next.ensures (λ e p. p)) got.1
    (under_way c.push.new.self got.0 c.after-coming.result (sym all) extends (more_comes c.is_nothing.result c.after-coming.result c.is_nothing.ensures.1 c.if-is_nothing.false))
    (stands_as c.push.new.self (81 ∷ got.0) (sym all) (less_than_ask c.push.new.self c.after-coming.result extends (more_comes c.is_nothing.result c.after-coming.result c.is_nothing.ensures.1 c.if-is_nothing.false))) c.in_err-next.ensures.so

pub returns-in-None-clause-so : goal.returns-in-None-clause-so
returns-in-None-clause-so g c =
    let left = g.S.Source.left in
    let faults = g.S.Source.faults in
    let l = c.loop-bytes in
    let n = c.next.new in
    let got = l.invariant.got in
    let x = input (left c.args.source.now) (faults c.args.source.now) c.args.window.now in
    let y = input (left l.source) (faults l.source) l.window in
    let z = input (left n.source) (faults n.source) n.self in
    let all : 81 ∷ got.0 ≡ c.push.new.self = got.2 ∙ sym c.in_ok-push.ensures.ok in
    let extends = so_far l.bytes c.push.new.self l.coming c.after-coming.result l.byte l.invariant.extends l.invariant.more c.in_ok-push.ensures.ok c.after-coming.ensures in
    let over = byte_is y z c.in_ok-next.field-0 None c.in-None.is c.in_ok-next.ensures.so in
    (got.0, takes_no_more x y z got.0 got.1 over.0, (omega arith, inr (stands_as c.push.new.self (81 ∷ got.0) (sym all) (less_than_ask c.push.new.self c.after-coming.result extends (more_comes c.is_nothing.result c.after-coming.result c.is_nothing.ensures.1 c.if-is_nothing.false)), over.1)))

pub loop-bytes-preserved : goal.loop-bytes-preserved
loop-bytes-preserved g c =
    let left = g.S.Source.left in
    let faults = g.S.Source.faults in
    let l = c.loop-bytes in
    let n = c.next.new in
    let got = l.invariant.got in
    let next = c.in-Some.next in
    let x = input (left c.args.source.now) (faults c.args.source.now) c.args.window.now in
    let y = input (left l.source) (faults l.source) l.window in
    let z = input (left n.source) (faults n.source) n.self in
    let all : 81 ∷ got.0 ≡ c.push.new.self = got.2 ∙ sym c.in_ok-push.ensures.ok in
    let byte = byte_is y z c.in_ok-next.field-0 (Some next) c.in-Some.is c.in_ok-next.ensures.so in
    record {
      got = (got.0 ++ next ∷ [], takes_then x y z got.0 (next ∷ []) got.1 byte, ap (λ (t : List ℕ). t ++ next ∷ []) all);
      extends = so_far l.bytes c.push.new.self l.coming c.after-coming.result l.byte l.invariant.extends l.invariant.more c.in_ok-push.ensures.ok c.after-coming.ensures;
      more = more_comes c.is_nothing.result c.after-coming.result c.is_nothing.ensures.1 c.if-is_nothing.false;
      most = c.in_ok-next.ensures.most;
    }
