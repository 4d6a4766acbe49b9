use Rattle.std.proofs.Common.{◌∙◌, arith}
use Rattle.pr_gen.proofs.Digits.{one_digit, two_digit}
use Rattle.pr_gen.proofs.naming.name.Goals as goal

pub returns-then-number-lt10 : goal.returns-then-number-lt10
returns-then-number-lt10 c = c.named.ensures ∙ one_digit c.args.letter c.args.number c.if-number-lt10.true

pub returns : goal.returns
returns c = c.named-2.ensures ∙ two_digit c.args.letter c.args.number c.if-number-lt10.false (omega arith)
