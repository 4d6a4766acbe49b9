use Rattle.pr_inval.specs.Messages.{IsKind}
use Rattle.pr_inval.specs.declared.kind.Kind.TheVariants.{Checkpoint}
use Rattle.pr_node.proofs.Applied.{checkpoint_tied}
use Rattle.pr_node.proofs.taking.take_checkpoint.Goals as goal

pub returns-clause-taken : goal.returns-clause-taken
returns-clause-taken c =
    let grammar : IsKind (Checkpoint c.args.to.now c.args.target.now c.get-floor.result c.args.rows.now) = rw c.get-floor.ensures.value c.requires.grammar in
    rw (← c.get-floor.ensures.value) (λ n j time caller msg at is tied.
    checkpoint_tied n j _ _ time caller msg at _ _ _ _ is grammar tied c.in_ok-darken.ensures.ok c.in_ok-apply.ensures.ok c.settle_rows.ensures)
