use Rattle.std.proofs.Common.{ℕ, List, inl, sym, subst}
use Rattle.pr_node.specs.Calls.{IsTimeWorn, IsWriteWorn}
use Rattle.pr_script.specs.declared.command.Command.{Command}
use Rattle.pr_script.specs.declared.command.Command.TheVariants as commands
use Rattle.pr_crew.specs.Asking.{IsRead}
use Rattle.pr_crew.specs.Clients.{CallsLine}
use Rattle.pr_crew.proofs.Sofar.{cause_weaker}
use Rattle.pr_crew.proofs.client_job.call.Goals as goal

pub returns-in-Write-clause-makes : goal.returns-in-Write-clause-makes
returns-in-Write-clause-makes g c plan h n sessions of =
    subst (λ (s : Command). CallsLine plan h n sessions c.args.client s c.args.seen.now c.args.pass c.write.result.0 c.write.result.1) (sym c.in-Write.is)
    (subst (λ (b : List ℕ). CallsLine plan h n sessions c.args.client (commands.Write c.in-Write.client c.in-Write.name b) c.args.seen.now c.args.pass c.write.result.0 c.write.result.1) c.as_slice.ensures
    (c.write.ensures.makes plan h n sessions of))

pub returns-in-Delete-clause-makes : goal.returns-in-Delete-clause-makes
returns-in-Delete-clause-makes g c plan h n sessions of =
    subst (λ (s : Command). CallsLine plan h n sessions c.args.client s c.args.seen.now c.args.pass c.delete.result.0 c.delete.result.1) (sym c.in-Delete.is) (c.delete.ensures.makes plan h n sessions of)

pub returns-in-Read-clause-makes : goal.returns-in-Read-clause-makes
returns-in-Read-clause-makes g c plan h n sessions of =
    subst (λ (s : Command). CallsLine plan h n sessions c.args.client s c.args.seen.now c.args.pass c.read.result.0 c.read.result.1) (sym c.in-Read.is)
    (cause_weaker plan h n sessions (λ s. c.args.seen.now) (IsRead c.args.client c.in-Read.name c.args.seen.now) (λ a. IsTimeWorn a 0) (λ a. IsWriteWorn a c.args.seen.now) c.args.pass c.read.result.0 c.read.result.1
    (λ a worn. inl worn) (c.read.ensures.makes plan h n sessions of))
