use Rattle.pr_check.proofs.Remade.{by_end, down_made, made_by, no_down}
use Rattle.pr_check.specs.declared.said.Said.TheVariants as saids
use Rattle.pr_story.specs.Commands.{ToEnd}
use Rattle.pr_check.proofs.making.end.Goals as goal

pub returns-then-not-can_go_down : goal.returns-then-not-can_go_down
returns-then-not-can_go_down c d attached h k = no_down c.args.stream c.args.cause d attached h c.can_go_down.result (c.can_go_down.ensures.is d attached h k) c.if-not-can_go_down.true

pub returns : goal.returns
returns c d attached h k =
    made_by (saids.End c.args.stream c.args.cause) (ToEnd c.args.stream c.args.cause) d attached h c.go_down.new.self c.go_down.result c.made.result (by_end c.args.stream c.args.cause)
    (down_made c.args.stream c.args.cause d attached h c.go_down.new.self c.go_down.result
    (c.go_down.ensures d attached h k (c.can_go_down.ensures.can c.if-not-can_go_down.false d attached h k))) c.made.ensures
