use Rattle.std.proofs.Common.{ap, List, ℕ, length, arith}
use Rattle.pr_flow.proofs.OnTheWay.{some_bytes}
use Rattle.pr_flow.proofs.carrying.carry_short.Goals as goal

pub pass-requires-clause-some : goal.pass-requires-clause-some
pass-requires-clause-some g c = omega (arith, ap (λ (t : List ℕ). length t) c.requires.frame.1, some_bytes c.args.msg.now)
