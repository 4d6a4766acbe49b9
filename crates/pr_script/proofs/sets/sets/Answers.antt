use Rattle.std.proofs.Common.{arith}
use Rattle.std.proofs.lemmas.Result.{err_from_is_err_and}
use Rattle.pr_script.proofs.AllFields.{field_first}
use Rattle.pr_script.proofs.SetLists.{one_set, set_stops, none_left, no_rest}
use Rattle.pr_script.proofs.sets.sets.Goals as goal

pub returns-in-Err-Why : goal.returns-in-Err-Why
returns-in-Err-Why c = none_left c.in-Err-Why.field-0 c.in-Err-Why.field-0-0 c.loop.out c.loop.rest.now _ c.in-Err-Why.field-0-is c.in-Err-Why.ensures c.loop.invariant.read

pub returns-in_err-set : goal.returns-in_err-set
returns-in_err-set c =
    let p = err_from_is_err_and c.from_residual.result c.from_residual.ensures.1 in
    rw (p.1, p.2) (set_stops c.in_err-set.field-0.0 c.loop.out c.loop.rest.now _ _ _ c.in-Ok.ensures c.in_err-set.ensures c.loop.invariant.read)

pub loop-preserved : goal.loop-preserved
loop-preserved c = record {
  read = rw c.in_ok-push.ensures.ok (one_set c.loop.out c.loop.rest.now c.in-Ok.found.1.now c.in-Ok.found.0.now c.in_ok-set.set _ c.in-Ok.ensures c.in_ok-set.ensures c.loop.invariant.read);
  rest = let p = field_first c.loop.rest.now (c.in-Ok.found.0.now, c.in-Ok.found.1.now) c.in-Ok.ensures in let q = p.1 in let i = c.loop.invariant.rest in omega arith;
}

pub returns : goal.returns
returns c = no_rest c.loop.out c.loop.rest.now _ (let i = c.loop.invariant.rest in omega arith) c.loop.invariant.read
