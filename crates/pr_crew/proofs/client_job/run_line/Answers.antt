use Rattle.std.proofs.Common.{ℕ, List, Result, sym, subst, ◌∙◌}
use Rattle.pr_inval.specs.declared.node_fault.NodeFault.{NodeFault}
use Rattle.pr_crew.specs.Clients.{CallsLine}
use Rattle.pr_crew.specs.Acting.{nowhere}
use Rattle.pr_crew.proofs.Sofar.{called_line, refused_line}
use Rattle.pr_crew.proofs.client_job.run_line.Goals as goal

pub returns-in-Ok-clause-ends : goal.returns-in-Ok-clause-ends
returns-in-Ok-clause-ends g c plan h n k xs of s =
    called_line plan h n c.args.client k c.args.line.now c.args.pass c.call-pass.result.0 c.args.seen.now c.in-Ok.after xs of.node (sym c.is_owned_by.ensures ∙ c.if-not-is_owned_by.false) s
    (subst (λ (r : Result (List ℕ) NodeFault). CallsLine plan h n nowhere c.args.client c.args.line.now.1 c.args.seen.now c.args.pass c.call-pass.result.0 r) c.in-Ok.is (c.call-pass.ensures.makes plan h n nowhere of))

pub returns-in-Err-clause-ends : goal.returns-in-Err-clause-ends
returns-in-Err-clause-ends g c plan h n k xs of s =
    refused_line plan h n c.args.client k c.args.line.now c.args.pass c.call-pass.result.0 c.args.seen.now xs c.in-Err.fault s
    (subst (λ (r : Result (List ℕ) NodeFault). CallsLine plan h n nowhere c.args.client c.args.line.now.1 c.args.seen.now c.args.pass c.call-pass.result.0 r) c.in-Err.is (c.call-pass.ensures.makes plan h n nowhere of))
