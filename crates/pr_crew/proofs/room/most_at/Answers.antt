use Rattle.std.proofs.Common.{◌+◌, ℕ, length, refl, ap, ◌∙◌, arith}
use Rattle.std.proofs.lemmas.Option.{slice_get_read}
use Rattle.pr_crew.proofs.Filling.{most_all, most_more}
use Rattle.pr_crew.proofs.room.most_at.Goals as goal

pub overflow_add-most : goal.overflow_add-most
overflow_add-most c =
    let so_far = c.loop-work.invariant.few in
    let few = c.most_of-most.ensures.few in
    let next = c.loop-work-test.true in
    let small = c.requires.1 in
    omega (arith, so_far, few, next, small)

pub loop-work-preserved : goal.loop-work-preserved
loop-work-preserved c =
    let so_far = c.loop-work.invariant.few in
    let few = c.most_of-most.ensures.few in
    record {
      most = ap (λ (k : ℕ). c.loop-work.most + k) c.most_of-most.ensures.most
          ∙ most_more c.args.works.now c.args.node c.loop-work.work-index c.loop-work.most c.work-item.result
          (slice_get_read c.args.works.now (length c.args.works.now) c.loop-work.work-index c.work-item.result refl c.loop-work-test.true c.work-item.is) c.loop-work.invariant.most;
      few = omega (arith, so_far, few);
    }

pub returns-clause-most : goal.returns-clause-most
returns-clause-most c = let over = c.loop-work-test.false in most_all c.args.works.now c.args.node c.loop-work.work-index c.loop-work.most c.loop-work.invariant.most (omega (arith, over))
