use Rattle.std.specs.Prelude.{take, reverse}
use Rattle.pr_inval.specs.Standing.{means}
use Rattle.pr_story.proofs.Sendings.{IsLeastOf}
use Rattle.pr_story.proofs.plain.turns.next_name.Given as goal

abbrev pub invariant-loop-name : goal.invariant-loop-name
invariant-loop-name l = IsLeastOf (reverse l.entries) (means l.session).standing (take l.name-index l.name-items) l.best
