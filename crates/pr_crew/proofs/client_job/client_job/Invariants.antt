use Rattle.std.proofs.Common.{ℕ, List, [], ◌+◌, ◌≤◌}
use Rattle.pr_cell.specs.Passes.{IsPassOf}
use Rattle.pr_story.specs.History.{NodeEntry, Plan}
use Rattle.pr_crew.specs.Clients.{EndsLines, IsSofar}
use Rattle.pr_crew.specs.Making.{IsCellOf, IsSameCaller}
use Rattle.pr_crew.specs.Stories.{stories}
use Rattle.pr_crew.proofs.client_job.client_job.Given as goal

abbrev pub invariant-loop-line : goal.invariant-loop-line
invariant-loop-line g l =
    IsPassOf stories l.cell l.pass × IsSameCaller l.fn.pass l.pass × (l.pass.turns ≤ l.fn.pass.turns + l.line-index)
    × ((plan : Plan) (h : List NodeEntry) (n k : ℕ) → IsCellOf plan h n l.cell → IsSofar plan h n l.client k l.fn.pass l.fn.seen [] → EndsLines plan h n l.client k l.inside l.line-index l.pass l.seen)
