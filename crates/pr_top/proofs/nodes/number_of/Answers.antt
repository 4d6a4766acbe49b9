use Rattle.std.proofs.Common.{◌≡◌, ◌∙◌, List, Some, ap, arith, sym, ℕ}
use Rattle.std.specs.List.{position}
use Rattle.std.specs.Str.{bytes_eq}
use Rattle.pr_script.specs.Labels.{number_among}
use Rattle.pr_script.specs.declared.kind.Kind.TheVariants as kinds
use Rattle.pr_check.proofs.Numbers.{few_of, number_within}
use Rattle.pr_top.proofs.nodes.number_of.Goals as goal

pub overflow_cast-result : goal.overflow_cast-result
overflow_cast-result c =
    let ds = c.args.decls.now.list in
    let e : number_among kinds.Node ds c.args.label.now ≡ Some c.in-Some.place = ap (λ (ls : List (List ℕ)). position (bytes_eq c.args.label.now) ls) (sym c.labels.ensures) ∙ sym c.in-Some.ensures in
    let l = few_of kinds.Node ds c.requires c.in-Some.place (number_within kinds.Node ds c.args.label.now c.in-Some.place e) in
    omega (arith, l)

pub returns-in-Some-clause-declared : goal.returns-in-Some-clause-declared
returns-in-Some-clause-declared c =
    let ds = c.args.decls.now.list in
    number_within kinds.Node ds c.args.label.now c.in-Some.place (ap (λ (ls : List (List ℕ)). position (bytes_eq c.args.label.now) ls) (sym c.labels.ensures) ∙ sym c.in-Some.ensures)
