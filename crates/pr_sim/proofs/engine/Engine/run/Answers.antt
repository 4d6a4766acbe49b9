use Rattle.std.proofs.Common.{ℕ, List, [], refl, ap, subst}
use Rattle.std.specs.Prelude.{false, true}
use Rattle.pr_script.specs.declared.command.Command.{Command}
use Rattle.pr_story.specs.Commands as story
use Rattle.pr_story.specs.Scripts.{Detach}
use Rattle.pr_sim.specs.Commands.{GivesOne}
use Rattle.pr_sim.proofs.Stops.{said_ends, silent_ends, word_ends}
use Rattle.pr_text.specs.Steps.{line_of}
use Rattle.pr_sim.proofs.engine.Engine.run.Goals as goal

pub returns-in-Attach : goal.returns-in-Attach
returns-in-Attach c d attached h k =
    said_ends d attached h c.attach.new.self c.args.command.now (story.ToAttach c.in-Attach.stream) c.attach.result (ap (λ (x : Command). line_of x) c.in-Attach.is) (c.attach.ensures d attached h k)

pub returns-in-Send : goal.returns-in-Send
returns-in-Send c d attached h k =
    said_ends d attached h c.send.new.self c.args.command.now (story.ToSend c.in-Send.stream) c.send.result (ap (λ (x : Command). line_of x) c.in-Send.is) (c.send.ensures d attached h k)

pub returns-in-Checkpoint : goal.returns-in-Checkpoint
returns-in-Checkpoint c d attached h k =
    said_ends d attached h c.checkpoint.new.self c.args.command.now (story.ToCheckpoint c.in-Checkpoint.stream) c.checkpoint.result (ap (λ (x : Command). line_of x) c.in-Checkpoint.is) (c.checkpoint.ensures d attached h k)

pub returns-in-Deliver : goal.returns-in-Deliver
returns-in-Deliver c d attached h k =
    said_ends d attached h c.deliver.new.self c.args.command.now (story.ToDeliver c.in-Deliver.stream c.in-Deliver.number) c.deliver.result (ap (λ (x : Command). line_of x) c.in-Deliver.is) (c.deliver.ensures d attached h k)

pub returns-in-Delete : goal.returns-in-Delete
returns-in-Delete c d attached h k =
    said_ends d attached h c.delete.new.self c.args.command.now (story.ToWrite c.in-Delete.client c.in-Delete.name [] true) c.delete.result (ap (λ (x : Command). line_of x) c.in-Delete.is) (c.delete.ensures d attached h k)

pub returns-in-Read : goal.returns-in-Read
returns-in-Read c d attached h k =
    said_ends d attached h c.read.new.self c.args.command.now (story.ToRead c.in-Read.client c.in-Read.name) c.read.result (ap (λ (x : Command). line_of x) c.in-Read.is) (c.read.ensures d attached h k)

pub returns-in-Move : goal.returns-in-Move
returns-in-Move c d attached h k =
    said_ends d attached h c.move_client.new.self c.args.command.now (story.ToMove c.in-Move.client c.in-Move.node) c.move_client.result (ap (λ (x : Command). line_of x) c.in-Move.is) (c.move_client.ensures d attached h k)

pub returns-in-Cut : goal.returns-in-Cut
returns-in-Cut c d attached h k =
    said_ends d attached h c.cut.new.self c.args.command.now (story.ToCut c.in-Cut.node) c.cut.result (ap (λ (x : Command). line_of x) c.in-Cut.is) (c.cut.ensures d attached h k)

pub returns-in-State : goal.returns-in-State
returns-in-State c d attached h k =
    said_ends d attached h c.state.new.self c.args.command.now (story.ToTellState c.in-State.node) c.state.result (ap (λ (x : Command). line_of x) c.in-State.is) (c.state.ensures d attached h k)

pub returns-in-Drop : goal.returns-in-Drop
returns-in-Drop c d attached h k =
    said_ends d attached h c.drop_body.new.self c.args.command.now (story.ToDrop c.in-Drop.node c.in-Drop.name) c.drop_body.result (ap (λ (x : Command). line_of x) c.in-Drop.is) (c.drop_body.ensures d attached h k)

pub returns-in-Conflicts : goal.returns-in-Conflicts
returns-in-Conflicts c d attached h k =
    said_ends d attached h c.conflicts.new.self c.args.command.now (story.ToFindConflicts c.in-Conflicts.node c.in-Conflicts.name) c.conflicts.result (ap (λ (x : Command). line_of x) c.in-Conflicts.is) (c.conflicts.ensures d attached h k)

pub returns-in-Write : goal.returns-in-Write
returns-in-Write c d attached h k =
    said_ends d attached h c.write.new.self c.args.command.now (story.ToWrite c.in-Write.client c.in-Write.name c.in-Write.body false) c.write.result (ap (λ (x : Command). line_of x) c.in-Write.is)
    (subst (λ (body : List ℕ). GivesOne (story.ToWrite c.in-Write.client c.in-Write.name body false) d attached h c.write.new.self c.write.result) c.as_slice.ensures (c.write.ensures d attached h k))

pub returns-in-Detach : goal.returns-in-Detach
returns-in-Detach c d attached h k =
    silent_ends d attached h c.detach.new.self c.args.command.now (Detach c.in-Detach.stream) (ap (λ (x : Command). line_of x) c.in-Detach.is) refl (c.detach.ensures d attached h k)

pub returns-in-Expect-2 : goal.returns-in-Expect-2
returns-in-Expect-2 c d attached h k = word_ends d attached h c.args.self.now c.args.command.now c.in-Expect.is k

pub returns-in-Expect-3 : goal.returns-in-Expect-3
returns-in-Expect-3 c d attached h k = word_ends d attached h c.args.self.now c.args.command.now c.in-Expect.is k
