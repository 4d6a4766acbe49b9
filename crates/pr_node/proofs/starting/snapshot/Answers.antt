use Rattle.pr_node.proofs.Snapshots.{snapshot_is}
use Rattle.pr_node.proofs.starting.snapshot.Goals as goal

pub returns-clause-snapshot : goal.returns-clause-snapshot
returns-clause-snapshot c n j f = snapshot_is n j c.args.stores.now.gaps c.args.stores.now.marks c.args.names.now c.in_ok-kind.kind f.gaps f.marks c.in_ok-kind.ensures
