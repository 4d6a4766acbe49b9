use Rattle.std.proofs.Common.{◌≤◌, ◌-◌, ℕ, List}
use Rattle.std.specs.Io.KnownBytes.{Consumes}
use Rattle.pr_script.specs.Answers.{Holds}
use Rattle.pr_top.specs.Fronts.{HasNoZero}
use Rattle.pr_top.specs.Sizes.{IsSizeOf}
use Rattle.pr_top.proofs.fronts.read_front.Given as goal

abbrev pub invariant-loop-len : goal.invariant-loop-len
invariant-loop-len g l = record {
  rises : g.S.Source.faults l.initial.source ≤ g.S.Source.faults l.source;
  bytes : l.size.bytes ≤ 4194304;
  ends : l.size.ends ≤ 4194304;
  held : (before : List ℕ) × Holds l.reader before × IsSizeOf l.size before × HasNoZero before × Consumes (g.S.Source.left l.initial.source) (g.S.Source.left l.source) before;
}

abbrev pub decreases-loop-len : goal.decreases-loop-len
decreases-loop-len g l = 4194304 - l.size.bytes
