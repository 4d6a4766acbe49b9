use Rattle.std.proofs.Common.{◌≡◌, drop}
use Rattle.pr_bodies.specs.Bodies.{body_of}
use Rattle.pr_bodies.proofs.row.Row.get.Given as goal

abbrev pub invariant-loop-held : goal.invariant-loop-held
invariant-loop-held l = body_of l.self l.stamp ≡ body_of (drop l.held-index l.held-items) l.stamp
