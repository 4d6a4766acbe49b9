use Rattle.std.proofs.Common.{List, Option, subst, ℕ}
use Rattle.pr_node.specs.Stored.{means}
use Rattle.pr_serve.specs.Pulling.{PullsSo}
use Rattle.pr_serve.proofs.Taking.{none_ahead}
use Rattle.pr_serve.proofs.pulling.pull.Goals as goal

pub returns-clause-so : goal.returns-clause-so
returns-clause-so g c =
    let left = g.S.Source.left in
    let faults = g.S.Source.faults in
    let n = c.pull_rest.new in
    subst (λ (l : Option (List ℕ)). PullsSo c.args.nodes c.args.streams.now (record { left = l; faults = faults c.args.source.now; node = means c.args.node.now })
    (record { left = left n.source; faults = faults n.source; node = means n.node }) c.pull_rest.result)
    (none_ahead (left c.args.source.now)) c.pull_rest.ensures.so
