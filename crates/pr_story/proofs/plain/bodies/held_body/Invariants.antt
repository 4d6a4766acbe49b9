use Rattle.std.specs.Prelude.{◌≡◌, take, reverse}
use Rattle.pr_story.specs.Knowledge.{held_body}
use Rattle.pr_story.proofs.plain.bodies.held_body.Given as goal

abbrev pub invariant-loop-entry : goal.invariant-loop-entry
invariant-loop-entry l = l.held ≡ held_body (reverse (take l.entry-index l.entries)) l.name l.stamp
