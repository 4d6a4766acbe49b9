use Rattle.std.proofs.Common.{◌≡◌, ◌++◌, ◌∙◌, ℕ, List, ap, sym, arith}
use Rattle.std.proofs.lemmas.List.{flat_map_more}
use Rattle.std.specs.List.{flat_map, range_with_len}
use Rattle.pr_gen.specs.Summary.{node_count, vector_line}
use Rattle.pr_gen.proofs.Counting.{below_more}
use Rattle.pr_gen.proofs.summing.push_vectors.Goals as goal

pub push_node-requires : goal.push_node-requires
push_node-requires g c =
    let r = c.requires in
    let t = c.loop-node-test.true in
    let n = c.nodes_of-node-end.ensures ∙ ap node_count c.as_slice.ensures in
    let few = r.2 in
    (r.0, r.1, omega arith)

pub loop-node-preserved : goal.loop-node-preserved
loop-node-preserved g c h a =
    let n = c.loop-node.node in
    let f = vector_line c.args.decls.now.list h in
    c.in_ok-push_node.ensures h a ∙ ap (λ (xs : List ℕ). xs ++ f n) (c.loop-node.invariant h a)
    ∙ flat_map_more f c.args.out.now (range_with_len 0 n) n
    ∙ ap (λ (ns : List ℕ). c.args.out.now ++ flat_map f ns) (sym (below_more n))

pub returns : goal.returns
returns g c h a =
    let all : c.loop-node.node ≡ c.nodes_of-node-end.result = (let t = c.loop-node-test.false in let e = c.loop-node.auto.node-end in omega arith) in
    c.loop-node.invariant h a ∙ ap (λ (n : ℕ). c.args.out.now ++ flat_map (vector_line c.args.decls.now.list h) (range_with_len 0 n)) (all ∙ c.nodes_of-node-end.ensures ∙ ap node_count c.as_slice.ensures)
