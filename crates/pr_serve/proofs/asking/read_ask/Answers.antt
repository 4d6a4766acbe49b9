use Rattle.std.proofs.Common.{arith}
use Rattle.pr_serve.proofs.AskField.{ask_is_read}
use Rattle.pr_serve.proofs.asking.read_ask.Goals as goal

pub returns-in-Ok : goal.returns-in-Ok
returns-in-Ok c =
    let rest = c.read.new.cursor.rest.now in
    let read = ask_is_read c.args.bytes.now rest c.in-Ok.ask (λ i. omega (arith, c.type_inv.bytes i)) c.in-Ok.ensures.read in
    (rest, read.0, read.1)
