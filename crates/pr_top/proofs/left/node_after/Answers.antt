use Rattle.std.proofs.Common.{◌≡◌, Err, Result, subst, sym}
use Rattle.std.proofs.lemmas.Result.{err_from_is_err_and}
use Rattle.pr_node.specs.Stored.{Stored}
use Rattle.pr_top.specs.Served.{HasLeft}
use Rattle.pr_top.specs.declared.stepping.Halt.{Halt}
use Rattle.pr_top.proofs.LeftNode.{has_left}
use Rattle.pr_top.proofs.left.node_after.Goals as goal

pub returns-in_err-run : goal.returns-in_err-run
returns-in_err-run c =
    let p = err_from_is_err_and c.from_residual.result c.from_residual.ensures.1 in
    let same = p.2 in
    let is = p.1 in
    let done : c.from_residual.result ≡ Err c.in_err-run.field-0.0 = cc in
    subst (λ (r : Result Stored Halt). HasLeft c.args.script.now c.args.number r) (sym done) c.in_err-run.ensures

pub node_of-requires : goal.node_of-requires
node_of-requires c = let k = c.in_ok-run.ensures in (c.args.script.now, k.0, k.1, c.requires.known)

pub returns : goal.returns
returns c =
    let k = c.in_ok-run.ensures in
    has_left c.args.script.now k.0 c.in_ok-run.run'.engine c.in_ok-run.run'.unmet c.args.number c.node_of.result k.1 (c.node_of.ensures c.args.script.now k.0 k.1 c.requires.known)
