use Rattle.std.proofs.Common.{◌≡◌, Err, List, Result, ap, subst, sym, ℕ}
use Rattle.std.proofs.lemmas.Result.{err_from_is_err_and}
use Rattle.pr_node.specs.Stored.{NodeMeaning, means}
use Rattle.pr_top.specs.Asked.{HasAsks}
use Rattle.pr_top.specs.declared.stepping.Halt.{Halt}
use Rattle.pr_top.specs.declared.stepping.Halt.TheVariants as halts
use Rattle.pr_top.proofs.AskedRuns.{asked_after}
use Rattle.pr_top.proofs.SilentRuns.{ended_stops}
use Rattle.pr_top.proofs.asking.asks.Goals as goal

pub node_of-node-requires : goal.node_of-node-requires
node_of-node-requires c = let k = c.in_ok-run.ensures in (c.args.script.now, k.0, k.1, c.requires.known)

pub asks-requires-clause-own : goal.asks-requires-clause-own
asks-requires-clause-own c =
    let k = c.in_ok-run.ensures in
    sym (ap (λ (m : NodeMeaning). m.id) (c.node_of-node.ensures c.args.script.now k.0 k.1 c.requires.known))

pub asks-requires-clause-works : goal.asks-requires-clause-works
asks-requires-clause-works c =
    let k = c.in_ok-run.ensures in
    ap (λ (m : NodeMeaning). m.spent) (c.node_of-node.ensures c.args.script.now k.0 k.1 c.requires.known)

pub returns-in_err-asks : goal.returns-in_err-asks
returns-in_err-asks c =
    let p = err_from_is_err_and c.from_residual-in_err-asks.result c.from_residual-in_err-asks.ensures.1 in
    let is = p.1 in
    let same = p.2 in
    let done : c.from_residual-in_err-asks.result ≡ Err halts.NoMemory = cc in
    subst (λ (r : Result (List ℕ) Halt). HasAsks c.args.script.now c.args.number r) (sym done)
    (ended_stops c.args.script.now c.in_ok-run.run'.engine c.in_ok-run.run'.unmet c.in_ok-run.ensures)

pub returns : goal.returns
returns c =
    let s = c.args.script.now in
    let k = c.in_ok-run.ensures in
    asked_after s k.0 c.in_ok-run.run'.engine c.in_ok-run.run'.unmet c.args.number c.as_slice.result.now (means c.node_of-node.result) c.in_ok-asks.field-0 k.1 c.as_slice.ensures
    (c.node_of-node.ensures s k.0 k.1 c.requires.known) c.in_ok-asks.ensures
