use Rattle.pr_node.proofs.Finding.{untold_is, precise_is}
use Rattle.pr_node.proofs.Paired.{conflicts_in, conflicts_range}
use Rattle.pr_node.proofs.answering.found.Goals as goal

pub returns-in-Some-clause-value : goal.returns-in-Some-clause-value
returns-in-Some-clause-value c n j tied = untold_is n j _ c.args.name.now _ tied.gaps c.set_of-index.ensures.within c.set_of-index.ensures.value _ c.in-Some.ensures

pub returns-clause-value : goal.returns-clause-value
returns-clause-value c n j tied =
    (precise_is n j _ c.args.name.now _ tied.gaps c.set_of-index.ensures.within c.set_of-index.ensures.value c.in_default.ensures, conflicts_in j _ _ _ tied.marks c.in_ok-pairs.ensures)

pub returns-clause-range : goal.returns-clause-range
returns-clause-range c n j tied = conflicts_range j _ _ _ tied.marks (conflicts_in j _ _ _ tied.marks c.in_ok-pairs.ensures)
