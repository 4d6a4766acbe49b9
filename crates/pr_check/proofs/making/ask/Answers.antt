use Rattle.std.proofs.Common.{List, ℕ, sym, ◌∙◌, ap}
use Rattle.pr_check.proofs.Remade.{by_asked, made_as, made_by}
use Rattle.pr_check.specs.declared.said.Said.TheVariants as saids
use Rattle.pr_text.specs.declared.plain.line.Asked.{Asked}
use Rattle.pr_text.specs.declared.plain.line.Asked.TheVariants as asks
use Rattle.pr_story.specs.Commands.{ToRead, ToMove, ToAttach, ToDeliver, ToCut, ToDrop, ToFindConflicts, ToTellState}
use Rattle.pr_check.proofs.making.ask.Goals as goal

pub returns-in-Write : goal.returns-in-Write
returns-in-Write c d attached h k =
    made_as (saids.Asked c.args.asked) _ d attached h c.write.new.engine c.write.result (ap (λ (a : Asked). saids.Asked a) (c.in-Write.is ∙ ap (λ (b : List ℕ). asks.Write c.in-Write.client c.in-Write.name b c.in-Write.gone) (sym c.as_slice.ensures))) (c.write.ensures d attached h k)

pub returns-in-Read : goal.returns-in-Read
returns-in-Read c d attached h k =
    made_by (saids.Asked c.args.asked) (ToRead c.in-Read.client c.in-Read.name) d attached h c.read.new.self c.read.result c.made.result (by_asked c.args.asked (asks.Read c.in-Read.client c.in-Read.name) c.in-Read.is) (c.read.ensures d attached h k) c.made.ensures

pub returns-in-Move : goal.returns-in-Move
returns-in-Move c d attached h k =
    made_by (saids.Asked c.args.asked) (ToMove c.in-Move.client c.in-Move.node) d attached h c.move_client.new.self c.move_client.result c.made-in-Move.result (by_asked c.args.asked (asks.Move c.in-Move.client c.in-Move.node) c.in-Move.is) (c.move_client.ensures d attached h k) c.made-in-Move.ensures

pub returns-in-Attach : goal.returns-in-Attach
returns-in-Attach c d attached h k =
    made_by (saids.Asked c.args.asked) (ToAttach c.in-Attach.stream) d attached h c.attach.new.self c.attach.result c.made-in-Attach.result (by_asked c.args.asked (asks.Attach c.in-Attach.stream) c.in-Attach.is) (c.attach.ensures d attached h k) c.made-in-Attach.ensures

pub returns-in-Deliver : goal.returns-in-Deliver
returns-in-Deliver c d attached h k =
    made_by (saids.Asked c.args.asked) (ToDeliver c.in-Deliver.stream c.in-Deliver.number) d attached h c.deliver.new.self c.deliver.result c.made-in-Deliver.result (by_asked c.args.asked (asks.Deliver c.in-Deliver.stream c.in-Deliver.number) c.in-Deliver.is) (c.deliver.ensures d attached h k) c.made-in-Deliver.ensures

pub returns-in-Cut : goal.returns-in-Cut
returns-in-Cut c d attached h k =
    made_by (saids.Asked c.args.asked) (ToCut c.in-Cut.node) d attached h c.cut.new.self c.cut.result c.made-in-Cut.result (by_asked c.args.asked (asks.Cut c.in-Cut.node) c.in-Cut.is) (c.cut.ensures d attached h k) c.made-in-Cut.ensures

pub returns-in-Drop : goal.returns-in-Drop
returns-in-Drop c d attached h k =
    made_by (saids.Asked c.args.asked) (ToDrop c.in-Drop.node c.in-Drop.name) d attached h c.drop_body.new.self c.drop_body.result c.made-in-Drop.result (by_asked c.args.asked (asks.Drop c.in-Drop.node c.in-Drop.name) c.in-Drop.is) (c.drop_body.ensures d attached h k) c.made-in-Drop.ensures

pub returns-in-Conflicts : goal.returns-in-Conflicts
returns-in-Conflicts c d attached h k =
    made_by (saids.Asked c.args.asked) (ToFindConflicts c.in-Conflicts.node c.in-Conflicts.name) d attached h c.conflicts.new.self c.conflicts.result c.made-in-Conflicts.result (by_asked c.args.asked (asks.Conflicts c.in-Conflicts.node c.in-Conflicts.name) c.in-Conflicts.is) (c.conflicts.ensures d attached h k) c.made-in-Conflicts.ensures

pub returns-in-State : goal.returns-in-State
returns-in-State c d attached h k =
    made_by (saids.Asked c.args.asked) (ToTellState c.in-State.node) d attached h c.state.new.self c.state.result c.made-in-State.result (by_asked c.args.asked (asks.State c.in-State.node) c.in-State.is) (c.state.ensures d attached h k) c.made-in-State.ensures

pub returns-in-Send : goal.returns-in-Send
returns-in-Send c d attached h k =
    made_as (saids.Asked c.args.asked) (saids.Asked (asks.Send c.in-Send.stream)) d attached h c.send.new.engine c.send.result (ap (λ (a : Asked). saids.Asked a) c.in-Send.is) (c.send.ensures d attached h k)

pub returns-in-Checkpoint : goal.returns-in-Checkpoint
returns-in-Checkpoint c d attached h k =
    made_as (saids.Asked c.args.asked) (saids.Asked (asks.Checkpoint c.in-Checkpoint.stream)) d attached h c.checkpoint.new.engine c.checkpoint.result (ap (λ (a : Asked). saids.Asked a) c.in-Checkpoint.is) (c.checkpoint.ensures d attached h k)
