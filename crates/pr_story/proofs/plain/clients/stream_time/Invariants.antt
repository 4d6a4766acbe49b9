use Rattle.std.specs.Prelude.{◌≡◌, take, reverse}
use Rattle.pr_story.proofs.Folds.{time_of}
use Rattle.pr_story.proofs.plain.clients.stream_time.Given as goal

abbrev pub invariant-loop-entry : goal.invariant-loop-entry
invariant-loop-entry l = l.time ≡ time_of (reverse (take l.entry-index l.all)) l.stream
