use Rattle.std.proofs.Common.{[], ◌∙◌}
use Rattle.pr_crew.proofs.NewJobs.{IsNewPass, both_ready, job_ready}
use Rattle.pr_crew.proofs.Starts.{same_since}
use Rattle.pr_crew.proofs.tests.meeting.clients_of_one_node_meet_between_their_lines.Goals as goal

pub run_all-requires-clause-ready : goal.run_all-requires-clause-ready
run_all-requires-clause-ready g c κs =
    let (plan, home, of_node, callers) = c.in_ok-cell.ensures.cell in
    let (root, turns, issued, holds, sees) = c.in_ok-cell.ensures.pass in
    let cell = c.in_ok-cell.cell in
    let cells_are = c.as_slice.ensures.value ∙ c.in_ok-cells.ensures.items in
    let a = c.split-first.ensures in
    let b = c.split-second.ensures in
    let one : IsNewPass cell c.split-first.result = record {
      of_cell = a.new.0;
      unused = a.new.1;
      alone = a.number.1;
      issues = a.new.2;
      sees = same_since cell c.in_ok-cell.root c.split-first.result root.of_cell a.new.0 a.given.0 ∙ sees;
    } in
    let two : IsNewPass cell c.split-second.result = record {
      of_cell = b.new.0;
      unused = b.new.1;
      alone = b.number.1;
      issues = b.new.2;
      sees = same_since cell c.split-first.new.pass c.split-second.result a.pass.0 b.new.0 b.given.0
          ∙ same_since cell c.in_ok-cell.root c.split-first.new.pass root.of_cell a.pass.0 a.same ∙ sees;
    } in (
      plan,
      [],
      both_ready _ plan cell home of_node c.as_slice.result.now cells_are c.job_of.result c.job_of-2.result c.as_mut_slice.result.now (c.as_mut_slice.ensures.value ∙ c.in_ok-tasks.ensures.items)
          (job_ready _ plan cell home of_node c.as_slice.result.now cells_are 0 c.split-first.result c.job_of.result one c.job_of.ensures)
          (job_ready _ plan cell home of_node c.as_slice.result.now cells_are 1 c.split-second.result c.job_of-2.result two c.job_of-2.ensures),
    )
