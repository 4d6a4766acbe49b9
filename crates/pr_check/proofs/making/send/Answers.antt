use Rattle.std.proofs.Common.{refl}
use Rattle.pr_check.proofs.Remade.{by_asked, made_by, no_turn}
use Rattle.pr_check.specs.declared.said.Said.TheVariants as saids
use Rattle.pr_text.specs.declared.plain.line.Asked.TheVariants as asks
use Rattle.pr_story.specs.Commands.{ToSend}
use Rattle.pr_check.proofs.making.send.Goals as goal

pub returns-then-not-is_attached : goal.returns-then-not-is_attached
returns-then-not-is_attached c d attached h k = no_turn c.args.stream d attached h c.is_attached.result (c.is_attached.ensures.is d attached h k) c.if-not-is_attached.true

pub returns : goal.returns
returns c d attached h k =
    made_by (saids.Asked (asks.Send c.args.stream)) (ToSend c.args.stream) d attached h c.send.new.self c.send.result c.made.result (by_asked (asks.Send c.args.stream) (asks.Send c.args.stream) refl)
    (c.send.ensures d attached h k) c.made.ensures
