use Rattle.pr_merge.proofs.Tournament.{root_earliest, root_none}
use Rattle.pr_merge.proofs.merging.earliest.Goals as goal

pub returns-in_err-head-clause-none : goal.returns-in_err-head-clause-none
returns-in_err-head-clause-none c =
    rw c.from_residual.ensures (root_none c.args.parts.now c.args.next.now c.args.winners.now c.requires.most c.requires.played c.in_err-head.ensures.none)

pub returns-clause-found : goal.returns-clause-found
returns-clause-found c = root_earliest c.args.parts.now c.args.next.now c.args.winners.now c.requires.most c.requires.played c.in_ok-head.ensures.found.0
