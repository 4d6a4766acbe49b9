use Rattle.std.proofs.Common.{◌≡◌, ℕ, ◌≤◌, ◌<◌, ◌+◌, None}
use Rattle.pr_vectors.specs.Vector.{clock_of}
use Rattle.pr_log.specs.Known.{IsFirstAbove}
use Rattle.pr_log.specs.Waiting.{AreListed, head_of}
use Rattle.pr_log.proofs.waiting.find_heads.Given as goal

abbrev pub invariant-loop-n : goal.invariant-loop-n
invariant-loop-n g l = record {
  listed : AreListed l.heads l.nodes.at l.nodes.count l.n;
  each : (k : ℕ) → k < l.n → IsFirstAbove l.index k (clock_of l.pos k) (head_of l.heads k);
  behind : (k : ℕ) → l.n ≤ k → head_of l.heads k ≡ None;
  steps : l.steps ≡ l.fn.steps + l.n;
}
