use Rattle.pr_node.proofs.Logs.{refined_again}
use Rattle.pr_node.proofs.taking.refine.Goals as goal

pub returns-then-known : goal.returns-then-known
returns-then-known c = record { ok = refined_again _ _ _ _ _ c.args.write.now c.in_ok-refine.ensures.ok (c.requires.known c.if-known.true) }
