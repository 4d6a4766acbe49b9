use Rattle.pr_sets.specs.Sets.{rest_of}
use Rattle.pr_gaps.proofs.Sets.{nth_set}
use Rattle.pr_gaps.proofs.gaps.Gaps.set.Goals as goal

pub returns : goal.returns
returns c o name =
    rw (← c.self.view_is, c.nth.ensures, c.as_slice.ensures) (nth_set c.self.inside.sets c.self.inside.rest (rest_of c.self.inside.sets) o (c.self.invariant.2 o name) c.args.index)
