use Rattle.std.proofs.Common.{◌≡◌, ◌<◌, ◌≤◌, ℕ, List, get_or, length}
use Rattle.pr_story.specs.History.{NodeEntry, Plan, journal}
use Rattle.pr_crew.specs.Sites.{IsHere}
use Rattle.pr_crew.proofs.Filling.{IsTaking}
use Rattle.pr_crew.proofs.room.take.Given as goal

abbrev pub invariant-loop-node : goal.invariant-loop-node
invariant-loop-node g l = record {
  taking : IsTaking l.works l.count l.node l.most l.room;
  knows : (plan : Plan) (h : List NodeEntry) → ((n : ℕ) → n < l.count → IsHere plan h (g.H.Held.state l.held) n) → (n any : ℕ) → n < l.node → get_or l.room.opened.items n any ≡ length (journal h n);
  few : l.node ≤ l.count;
}
