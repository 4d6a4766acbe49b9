use Rattle.std.proofs.Common.{arith}
use Rattle.pr_gaps.specs.Gaps.{IsToldIn}
use Rattle.pr_gaps.proofs.Least.{least_behind, least_more, least_same}
use Rattle.pr_gaps.proofs.gaps.first_untold.Goals as goal
use Rattle.pr_gaps.proofs.gaps.first_untold.Goals.{in-Some, in_default}

pub loop-n-preserved : goal.loop-n-preserved
loop-n-preserved c =
    let T = IsToldIn c.args.own c.args.vector.now c.args.row.now in
    elim c.match-untold.branch [
      | in-Some w ↦ rw w.least-is (least_more T c.args.vector.now c.loop-n.n c.loop-n.least w.in-Some.found w.lesser.result c.loop-n.invariant w.in-Some.ensures w.lesser.ensures)
      | in_default w ↦ rw w.least-is (least_same T c.args.vector.now c.loop-n.n c.loop-n.least c.loop-n.invariant w.in_default.ensures)
    ]

pub returns : goal.returns
returns c = least_behind (IsToldIn c.args.own c.args.vector.now c.args.row.now) c.args.vector.now c.loop-n.n c.loop-n.least (omega arith)
    (λ k le lt. c.nodes-count.ensures.behind k (omega (arith, le)) lt)
    c.loop-n.invariant
