use Rattle.pr_merge.proofs.Orders.{time_keeps_orders}
use Rattle.pr_merge.proofs.law.order_by_time_keeps_nodes_and_jobs.Goals as goal

pub returns : goal.returns
returns c = time_keeps_orders
