use Rattle.std.proofs.Common.{reverse}
use Rattle.pr_sets.specs.Spans.{has}
use Rattle.pr_sets.specs.Sets.{set_of}
use Rattle.pr_story.proofs.SameNames.{untold_same}
use Rattle.pr_story.proofs.plain.answers.answer.Goals as goal

pub returns-in-Some : goal.returns-in-Some
returns-in-Some c =
    untold_same c.args.node (reverse c.args.entries.now) (has c.in_ok-set.set) (set_of c.args.sets.now c.args.name.now) c.in-Some.untold c.in_ok-set.ensures c.in-Some.ensures
