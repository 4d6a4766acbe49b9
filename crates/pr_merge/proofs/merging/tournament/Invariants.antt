use Rattle.std.proofs.Common.{ℕ, ◌≡◌, ◌<◌, ◌+◌, ◌-◌, length}
use Rattle.std.specs.Prelude.{slice_index}
use Rattle.pr_merge.specs.Heads.{IsPlayedAbove}
use Rattle.pr_merge.proofs.merging.tournament.Given as goal

abbrev pub invariant-loop-part : goal.invariant-loop-part
invariant-loop-part l = record {
  leaves : (p : ℕ) → p < l.part → slice_index l.winners (32 + p) ≡ p;
  len : length l.winners ≡ 64;
}

abbrev pub invariant-loop-node : goal.invariant-loop-node
invariant-loop-node l = record {
  played : IsPlayedAbove l.parts l.next l.winners (l.node - 1);
  len : length l.winners ≡ 64;
}
