use Rattle.std.proofs.Common.{refl}
use Rattle.pr_check.proofs.Remade.{by_asked, made_by, no_checkpoint}
use Rattle.pr_check.specs.declared.said.Said.TheVariants as saids
use Rattle.pr_text.specs.declared.plain.line.Asked.TheVariants as asks
use Rattle.pr_story.specs.Commands.{ToCheckpoint}
use Rattle.pr_check.proofs.making.checkpoint.Goals as goal

pub returns-then-not-is_attached : goal.returns-then-not-is_attached
returns-then-not-is_attached c d attached h k = no_checkpoint c.args.stream d attached h c.is_attached.result (c.is_attached.ensures.is d attached h k) c.if-not-is_attached.true

pub returns : goal.returns
returns c d attached h k =
    made_by (saids.Asked (asks.Checkpoint c.args.stream)) (ToCheckpoint c.args.stream) d attached h c.checkpoint.new.self c.checkpoint.result c.made.result (by_asked (asks.Checkpoint c.args.stream) (asks.Checkpoint c.args.stream) refl)
    (c.checkpoint.ensures d attached h k) c.made.ensures
