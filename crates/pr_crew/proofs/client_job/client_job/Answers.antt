use Rattle.std.proofs.Common.{Result, ◌∙◌, subst, arith}
use Rattle.pr_inval.specs.declared.node_fault.NodeFault.{NodeFault}
use Rattle.pr_crew.specs.Clients.{EndsLine}
use Rattle.pr_crew.proofs.Sofar.{lines_done, lines_more, lines_refused}
use Rattle.pr_crew.proofs.client_job.client_job.Goals as goal

pub returns-in-Err-clause-done : goal.returns-in-Err-clause-done
returns-in-Err-clause-done g c plan h n k of s =
    let so = c.loop-line.invariant.3 plan h n k of s in (
      so.0,
      lines_refused plan h n c.args.client k c.args.inside.now c.loop-line.line-index c.line-item.result c.run_line-next.result.0 c.run_line-next.new.seen so.0 c.in-Err.fault so.2
          (subst (λ (r : Result (Unit {0}) NodeFault). EndsLine plan h n c.args.client k c.line-item.result so.0 c.run_line-next.result.0 c.run_line-next.new.seen r) c.in-Err.is (c.run_line-next.ensures.ends plan h n k so.0 of so.1)),
    )

pub loop-line-preserved : goal.loop-line-preserved
loop-line-preserved g c = (
  c.run_line-next.ensures.pass.0,
  record {
    number = c.run_line-next.ensures.pass.1.number ∙ c.loop-line.invariant.1.number;
    held = c.run_line-next.ensures.pass.1.held ∙ c.loop-line.invariant.1.held;
    issued = c.run_line-next.ensures.pass.1.issued ∙ c.loop-line.invariant.1.issued;
  },
  (let a = c.loop-line.invariant.2 in let b = c.run_line-next.ensures.pass.2 in omega (arith, a, b)),
  λ plan h n k of s.
      let so = c.loop-line.invariant.3 plan h n k of s in
      lines_more plan h n c.args.client k c.args.inside.now c.loop-line.line-index c.line-item.result c.run_line-next.result.0 c.run_line-next.new.seen so.0 c.loop-line-test.true c.line-item.is so.2
      (subst (λ (r : Result (Unit {0}) NodeFault). EndsLine plan h n c.args.client k c.line-item.result so.0 c.run_line-next.result.0 c.run_line-next.new.seen r) c.in-Ok.is (c.run_line-next.ensures.ends plan h n k so.0 of so.1)),
)

pub returns-clause-done : goal.returns-clause-done
returns-clause-done g c plan h n k of s =
    lines_done plan h n c.args.client k c.args.inside.now c.loop-line.line-index c.loop-line.pass c.loop-line.seen c.loop-line-test.false (c.loop-line.invariant.3 plan h n k of s)
