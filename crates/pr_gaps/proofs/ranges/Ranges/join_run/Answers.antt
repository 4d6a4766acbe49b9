use Rattle.std.proofs.Common.{◌≤◌, ℕ, Option, arith}
use Rattle.std.specs.Prelude.{◌⊎◌, ◌↔◌}
use Rattle.pr_gaps.specs.Ranges.{Has, end_at}
use Rattle.pr_gaps.proofs.Joined.{run_grows, still_apart}
use Rattle.pr_gaps.proofs.ranges.Ranges.join_run.Goals as goal

pub loop-start-preserved : goal.loop-start-preserved
loop-start-preserved c =
    let f : ℕ → Option ℕ = end_at c.loop-start.self-inside.ends.entries in
    let g : ℕ → Option ℕ = end_at c.remove.new.self.entries in
    let apart = c.loop-start.invariant.apart in
    let range = c.in-Some.ensures.range in
    rw (c.max-reached.ensures) (record {
      apart = still_apart f g c.in-Some.start c.remove.ensures.updates.0 apart;
      most = omega (arith, c.loop-start.invariant.most, (apart.some c.in-Some.start c.in-Some.end range).1.1);
      same = λ x.
          let grows = run_grows f g c.loop-start.reached c.in-Some.start c.in-Some.end x apart range c.in-Some.ensures.most c.remove.ensures.updates.0 in
          let so_far = c.loop-start.invariant.same x in
          ((λ h. so_far.0 (grows.0 h)), (λ h. grows.1 (so_far.1 h)));
    })

pub returns-clause-same : goal.returns-clause-same
returns-clause-same c = rw (← c.self.view_is) c.loop-start.invariant.same
