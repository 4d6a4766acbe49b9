use Rattle.std.proofs.Common.{◌≡◌, ◌<◌, ℕ, List, get_or}
use Rattle.std.specs.Prelude.{None, Some, false}
use Rattle.pr_node.specs.Stored.{Stored}
use Rattle.pr_story.specs.Counts.{Declared}
use Rattle.pr_story.specs.History.{NodeEntry}
use Rattle.pr_crew.proofs.phasing.all_work.Given as goal

abbrev pub invariant-loop-node : goal.invariant-loop-node
invariant-loop-node g l = record {
  state : g.H.Held.state l.held ≡ g.H.Held.state l.initial.held;
  records : (d : Declared) (h : List NodeEntry) → g.H.Held.records l.initial.held d h → g.H.Held.records l.held d h;
  works : (n : ℕ) (m : Stored) → n < l.node → get_or (g.H.Held.state l.held).nodes n None ≡ Some m → m.spent ≡ false;
}
