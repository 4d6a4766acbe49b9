use Rattle.std.proofs.Common.{◌∙◌, ◌<◌, Err, List, ap, arith, subst, ℕ}
use Rattle.std.specs.Io.KnownBytes.{prepend_known}
use Rattle.pr_node.specs.Stored.{NodeMeaning, means}
use Rattle.pr_script.specs.declared.decl.Decl.{Decl}
use Rattle.pr_script.specs.declared.kind.Kind.TheVariants as kinds
use Rattle.pr_serve.specs.Pulling.{PullsSo}
use Rattle.pr_serve.specs.declared.serve_fault.ServeFault.TheVariants as serve_faults
use Rattle.pr_text.specs.Numbers.{nodes_of}
use Rattle.pr_text.specs.Transcripts.{plan_of}
use Rattle.pr_top.specs.Asked.{streams_to}
use Rattle.pr_top.specs.Pulled.{pull_at}
use Rattle.pr_top.specs.Served.{node_after}
use Rattle.pr_top.proofs.PulledRuns.{nothing_pulled, pulls_made}
use Rattle.pr_top.proofs.pulling.take_in.Goals as goal

pub returns-in-Ok-clause-so : goal.returns-in-Ok-clause-so
returns-in-Ok-clause-so g c = λ h same.
    let left = g.S.Source.left in
    let faults = g.S.Source.faults in
    let s = c.args.front.now.script in
    let ds = s.decls.list in
    let n = c.args.number in
    let m = c.pull_rest.new in
    let few_nodes = c.requires.good.decls.few kinds.Node in
    let known = c.requires.known in
    let few : n < 32 = omega (arith, few_nodes, known) in
    let nodes = c.node_count-nodes.ensures in
    let streams = c.as_slice.ensures ∙ c.in-Ok.ensures ∙ ap (λ (xs : List Decl). streams_to xs n) c.as_slice-decls.ensures in
    let end = c.pull_rest.result in
    let then = pull_at (left m.source) (faults m.source) (means m.node) in
    let by_node = subst (λ (x : NodeMeaning). PullsSo c.node_count-nodes.result c.as_slice.result.now (pull_at (prepend_known c.as_slice-ahead.result.now (left c.args.source.now)) (faults c.args.source.now) x) then end) same c.pull_rest.ensures.so in
    let by_ahead = subst (λ (t : List ℕ). PullsSo c.node_count-nodes.result c.as_slice.result.now (pull_at (prepend_known t (left c.args.source.now)) (faults c.args.source.now) (node_after (plan_of ds) h n)) then end) c.as_slice-ahead.ensures by_node in
    let by_count = subst (λ (k : ℕ). PullsSo k c.as_slice.result.now (pull_at (prepend_known c.args.front.now.ahead (left c.args.source.now)) (faults c.args.source.now) (node_after (plan_of ds) h n)) then end) nodes by_ahead in
    let by_streams = subst (λ (xs : List ℕ). PullsSo (nodes_of ds) xs (pull_at (prepend_known c.args.front.now.ahead (left c.args.source.now)) (faults c.args.source.now) (node_after (plan_of ds) h n)) then end) streams by_count in
    pulls_made s h n (prepend_known c.args.front.now.ahead (left c.args.source.now)) (faults c.args.source.now) (left m.source) (faults m.source) (means m.node) few end by_streams

pub returns-in-Err-clause-so : goal.returns-in-Err-clause-so
returns-in-Err-clause-so g c = λ h same.
    let left = g.S.Source.left in
    let faults = g.S.Source.faults in
    let s = c.args.front.now.script in
    let ds = s.decls.list in
    let n = c.args.number in
    let few_nodes = c.requires.good.decls.few kinds.Node in
    let known = c.requires.known in
    let few : n < 32 = omega (arith, few_nodes, known) in
    let none = nothing_pulled (nodes_of ds) (streams_to ds n) c.args.front.now.ahead (left c.args.source.now) (faults c.args.source.now) (means c.args.node.now) in
    let start = pull_at (prepend_known c.args.front.now.ahead (left c.args.source.now)) (faults c.args.source.now) in
    pulls_made s h n (prepend_known c.args.front.now.ahead (left c.args.source.now)) (faults c.args.source.now) (left c.args.source.now) (faults c.args.source.now) (means c.args.node.now) few (Err serve_faults.NoMemory)
    (subst (λ (x : NodeMeaning). PullsSo (nodes_of ds) (streams_to ds n) (start x) (pull_at (left c.args.source.now) (faults c.args.source.now) (means c.args.node.now)) (Err serve_faults.NoMemory)) same none)
