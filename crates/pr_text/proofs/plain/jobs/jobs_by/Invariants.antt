use Rattle.std.proofs.Common.{◌≡◌, ◌++◌, drop, map}
use Rattle.pr_text.specs.Plain.{job_seen}
use Rattle.pr_text.specs.Steps.{job_of}
use Rattle.pr_text.proofs.plain.jobs.jobs_by.Given as goal

abbrev pub invariant-loop-owner : goal.invariant-loop-owner
invariant-loop-owner l = map job_seen l.jobs ++ map (job_of l.inside) (drop l.owner-index l.owners) ≡ map (job_of l.inside) l.owners
