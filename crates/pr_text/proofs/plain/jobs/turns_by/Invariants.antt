use Rattle.std.proofs.Common.{◌≡◌, drop}
use Rattle.std.specs.List.{fold}
use Rattle.pr_script.specs.Known.{turns_after}
use Rattle.pr_script.specs.Steps.{Numbered, turns_in}
use Rattle.pr_text.specs.Steps.{lines_by}
use Rattle.pr_text.proofs.plain.jobs.turns_by.Given as goal

abbrev pub invariant-loop-line : goal.invariant-loop-line
invariant-loop-line l = fold (λ turns (c : Numbered). turns_after c.1 turns) l.turns (lines_by l.owner (drop l.line-index l.inside)) ≡ turns_in (lines_by l.owner l.inside)
