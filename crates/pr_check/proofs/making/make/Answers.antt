use Rattle.pr_check.proofs.Remade.{by_behind, made_as, made_by}
use Rattle.pr_check.specs.declared.said.Said.TheVariants as saids
use Rattle.pr_story.specs.Commands.{ToRead}
use Rattle.pr_check.proofs.making.make.Goals as goal

pub returns-in-Asked : goal.returns-in-Asked
returns-in-Asked c d attached h k = made_as c.args.said (saids.Asked c.in-Asked.asked) d attached h c.ask.new.engine c.ask.result c.in-Asked.is (c.ask.ensures d attached h k)

pub returns-in-End : goal.returns-in-End
returns-in-End c d attached h k = made_as c.args.said (saids.End c.in-End.stream c.in-End.cause) d attached h c.end.new.engine c.end.result c.in-End.is (c.end.ensures d attached h k)

pub returns-in-Behind : goal.returns-in-Behind
returns-in-Behind c d attached h k =
    made_as c.args.said (saids.Behind c.in-Behind.client) d attached h c.read.new.self c.made.result c.in-Behind.is
    (made_by (saids.Behind c.in-Behind.client) (ToRead c.in-Behind.client _) d attached h c.read.new.self c.read.result c.made.result (by_behind c.in-Behind.client _) (c.read.ensures d attached h k) c.made.ensures)
