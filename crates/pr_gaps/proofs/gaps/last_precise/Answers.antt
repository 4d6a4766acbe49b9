use Rattle.std.proofs.Common.{◌≡◌, inl, inr, arith, refl, subst, sym}
use Rattle.std.proofs.lemmas.Bool.{cases_lt}
use Rattle.pr_vectors.specs.UpTo.{IsLastClock}
use Rattle.pr_vectors.specs.Vector.{clock_of}
use Rattle.pr_gaps.specs.Gaps.{IsToldIn}
use Rattle.pr_gaps.proofs.Least.{clock_none, raised_more, raised_rest, zero_rest}
use Rattle.pr_gaps.proofs.gaps.last_precise.Goals as goal

pub loop-n-init : goal.loop-n-init
loop-n-init c = rw c.zero-precise.ensures (record { done = λ w lt. absurd (omega arith); rest = λ w lt le. zero_rest w lt })

pub loop-n-preserved : goal.loop-n-preserved
loop-n-preserved c = rw c.raise.ensures (record {
  done = raised_more (IsToldIn c.args.own c.args.vector.now c.args.row.now) c.args.vector.now c.loop-n.precise c.loop-n.n c.precise_clock.result (omega arith) c.precise_clock.ensures.value c.loop-n.invariant.done c.loop-n.invariant.rest;
  rest = raised_rest c.loop-n.precise c.loop-n.n c.precise_clock.result c.loop-n.invariant.rest;
})

pub returns-clause-value : goal.returns-clause-value
returns-clause-value c w lt =
    let T = IsToldIn c.args.own c.args.vector.now c.args.row.now in
    elim (cases_lt w c.loop-n.n) [
      | inl here ↦ c.loop-n.invariant.done w here
      | inr past ↦
          let none : clock_of c.args.vector.now w ≡ 0 = c.nodes-n-end.ensures.behind w (omega (arith, past)) lt in
          subst (IsLastClock T c.args.vector.now w) (sym (c.loop-n.invariant.rest w lt past)) (clock_none c.args.row.now c.args.own w 0 c.args.vector.now (sym none) refl)
    ]
