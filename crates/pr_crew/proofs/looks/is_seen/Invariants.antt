use Rattle.std.proofs.Common.{◌<◌, false}
use Rattle.pr_crew.proofs.looks.is_seen.Given as goal

-- each look so far missed
abbrev pub invariant-loop-look : goal.invariant-loop-look
invariant-loop-look g l = 0 < l.look → g.F.Fn.post l.is_so tt false
