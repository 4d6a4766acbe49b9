use Rattle.std.proofs.Common.{reverse}
use Rattle.pr_inval.specs.Targets.{IsTargetFor}
use Rattle.pr_story.specs.Turns.{IsTarget}
use Rattle.pr_story.proofs.Targets.{target_met}
use Rattle.pr_story.proofs.Withholding.{if_ok}
use Rattle.pr_story.proofs.plain.turns.target.Goals as goal

pub returns : goal.returns
returns c =
    if_ok c.target_for.result (IsTargetFor c.in_ok-found.found.omitted c.in_ok-found.found.dark c.args.names.now) (IsTarget c.args.node (reverse c.args.entries.now) c.args.names.now c.args.from.now c.args.to.now)
    (λ t is. target_met c.args.node (reverse c.args.entries.now) c.args.names.now c.args.from.now c.args.to.now c.in_ok-found.found.dark c.in_ok-found.found.omitted t c.in_ok-found.ensures.dark c.in_ok-found.ensures.omitted is)
    c.target_for.ensures
