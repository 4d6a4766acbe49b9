use Rattle.std.proofs.Common.{◌-◌, length, reverse}
use Rattle.pr_inval.specs.Standing.{means}
use Rattle.pr_node.specs.Scanning.{IsScanOf}
use Rattle.pr_node.proofs.looking.catch_up.Given as goal

abbrev pub invariant-loop-scan : goal.invariant-loop-scan
invariant-loop-scan l = IsScanOf l.scan (means l.session).standing (reverse l.journal.items)

abbrev pub decreases-loop-scan : goal.decreases-loop-scan
decreases-loop-scan l = length l.journal.items - l.scan.looked
