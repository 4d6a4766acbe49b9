use Rattle.pr_crew.proofs.Ran.{client_has_run, flow_has_run}
use Rattle.pr_crew.proofs.running.run.Goals as goal

pub returns-in-Client : goal.returns-in-Client
returns-in-Client g c =
    client_has_run g.W.Wire.state c.args.cells.now c.args.inside.now c.args.task.now c.in-Client.task c.run_client.new.task c.in-Client.is c.run_client.ensures.done c.run_client.ensures.stays

pub returns-in-Flow : goal.returns-in-Flow
returns-in-Flow g c =
    let e = c.run_flow.ensures in
    flow_has_run g.W.Wire.state c.args.cells.now c.args.inside.now c.args.task.now c.in-Flow.task c.run_flow.new.task c.in-Flow.is e.done e.work e.passes e.session e.wire e.sound
