use Rattle.std.proofs.Common.{◌≡◌, ◌+◌, drop}
use Rattle.std.specs.List.{position_or_len}
use Rattle.pr_script.specs.Steps.{Numbered, is_end}
use Rattle.pr_script.proofs.owner.phase_len.Given as goal

abbrev pub invariant-loop-line : goal.invariant-loop-line
invariant-loop-line l = record {
  len : l.len ≡ l.line-index;
  more : l.len + position_or_len (λ (c : Numbered). is_end c.1) (drop l.line-index l.behind) ≡ position_or_len (λ (c : Numbered). is_end c.1) l.behind;
}
