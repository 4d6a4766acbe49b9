use Rattle.std.proofs.Common.{sym, ◌∙◌}
use Rattle.pr_crew.proofs.Ran.{client_ran}
use Rattle.pr_crew.proofs.running.run_client.Goals as goal

pub returns-clause-done : goal.returns-clause-done
returns-clause-done g c plan h k r =
    let t = c.args.task.now in
    client_ran plan h c.args.cells.now c.args.inside.now k t c.index-cells-work.result c.in-Some.pass c.client_job-pass.result.0 c.client_job-pass.result.1 r (sym c.take.ensures.value ∙ c.in-Some.is) c.index-cells-work.is c.client_job-pass.ensures.pass
    (λ of s. c.client_job-pass.ensures.done plan h t.work.node k of s)
