use Rattle.std.specs.Prelude.{◌≡◌, take, reverse}
use Rattle.pr_story.proofs.Folds.{seen_by}
use Rattle.pr_story.proofs.plain.clients.client_vector.Given as goal

abbrev pub invariant-loop-entry : goal.invariant-loop-entry
invariant-loop-entry l = l.seen ≡ seen_by (reverse (take l.entry-index l.all)) l.client
