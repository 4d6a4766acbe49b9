use Rattle.std.proofs.Common.{◌≡◌, ◌≤◌, List, ap, arith, length, ℕ}
use Rattle.pr_script.specs.declared.kind.Kind.TheVariants as kinds
use Rattle.pr_text.specs.Numbers.{nodes_of}
use Rattle.pr_top.proofs.nodes.node_count.Goals as goal

pub overflow_cast-result : goal.overflow_cast-result
overflow_cast-result c =
    let count : length c.labels.result.now ≡ nodes_of c.args.decls.now.list = ap (λ (ls : List (List ℕ)). length ls) c.labels.ensures in
    let few : nodes_of c.args.decls.now.list ≤ 32 = c.requires.few kinds.Node in
    omega (arith, count, few)
