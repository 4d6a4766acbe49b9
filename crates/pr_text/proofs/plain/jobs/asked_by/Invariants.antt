use Rattle.std.proofs.Common.{◌≡◌, ◌++◌, drop, map}
use Rattle.std.specs.List.{flat_map}
use Rattle.pr_script.specs.Steps.{Numbered}
use Rattle.pr_text.specs.Plain.{asked_seen}
use Rattle.pr_text.specs.Steps.{line_of, lines_by, single_of}
use Rattle.pr_text.proofs.plain.jobs.asked_by.Given as goal

abbrev pub invariant-loop-line : goal.invariant-loop-line
invariant-loop-line l =
    map asked_seen l.asked ++ flat_map (λ (c : Numbered). single_of (line_of c.1)) (lines_by l.owner (drop l.line-index l.inside))
    ≡ flat_map (λ (c : Numbered). single_of (line_of c.1)) (lines_by l.owner l.inside)
