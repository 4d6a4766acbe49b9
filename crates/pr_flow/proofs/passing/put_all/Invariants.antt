use Rattle.std.proofs.Common.{length, ◌-◌, ◌≡◌, ◌≤◌, ◌⊎◌, [], IsSome, IsTrue, take}
use Rattle.pr_flow.specs.Moving.{Moves}
use Rattle.pr_wires.specs.Calls.{HasJust}
use Rattle.pr_flow.proofs.passing.put_all.Given as goal

abbrev pub invariant-loop-put : goal.invariant-loop-put
invariant-loop-put g l =
    let w = g.W.Wire in
    record {
      within : l.put ≤ length l.piece;
      moved : Moves (w.state l.initial.wire) (w.state l.wire) (take l.put l.piece) [];
      start : ((l.put ≡ 0) × (l.wire ≡ l.initial.wire)) ⊎ (HasJust (w.state l.initial.wire).held (w.state l.initial.wire).under × (IsTrue (w.state l.initial.wire).sound → IsSome (w.state l.initial.wire).held));
    }

abbrev pub decreases-loop-put : goal.decreases-loop-put
decreases-loop-put g l = length l.piece - l.put
