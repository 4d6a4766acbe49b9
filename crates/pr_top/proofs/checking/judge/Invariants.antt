use Rattle.std.proofs.Common.{◌≡◌, ◌≤◌, ◌+◌, ℕ, List, length}
use Rattle.std.specs.Io.KnownBytes.{Consumes}
use Rattle.pr_check.specs.Standing.{IsUsable}
use Rattle.pr_check.specs.Texts.{HasRead}
use Rattle.pr_top.proofs.checking.judge.Given as goal

abbrev pub invariant-loop-len : goal.invariant-loop-len
invariant-loop-len g l = record {
  rises : g.S.Source.faults l.initial.text ≤ g.S.Source.faults l.text;
  usable : IsUsable l.judge.judge;
  held : (before : List ℕ) × HasRead l.judge before × (l.room + length before ≡ 67108864) × Consumes (g.S.Source.left l.initial.text) (g.S.Source.left l.text) before;
}

abbrev pub decreases-loop-len : goal.decreases-loop-len
decreases-loop-len g l = l.room
