use Rattle.std.proofs.Common.{ap, sym, subst, length, arith}
use Rattle.pr_merge.specs.Holding.{AreAllHere}
use Rattle.pr_crew.proofs.phasing.all_work.Goals as goal

pub is_spent-requires : goal.is_spent-requires
is_spent-requires g c =
    let same = c.loop-node.invariant.state in
    let many = ap (λ s. length s.nodes) same in
    let all = c.requires.0 in
    let lt = c.loop-node-test.true in (
      omega (arith, many, all, lt),
      subst (λ s. AreAllHere s.nodes) (sym same) c.requires.1,
    )
