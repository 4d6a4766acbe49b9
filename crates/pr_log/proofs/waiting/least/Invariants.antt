use Rattle.std.specs.Prelude.{option_copied}
use Rattle.pr_log.specs.Waiting.{IsLeastHead, head_of, node_at}
use Rattle.pr_log.proofs.waiting.least.Given as goal

abbrev pub invariant-loop-place : goal.invariant-loop-place
invariant-loop-place l = IsLeastHead (λ k. head_of l.heads (node_at l.nodes.at k)) l.place (option_copied l.least)
