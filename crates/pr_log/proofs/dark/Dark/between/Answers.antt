use Rattle.std.proofs.Common.{◌≡◌, arith, [], nat_eq, refl}
use Rattle.pr_log.specs.Sets.{is_gathered}
use Rattle.pr_log.proofs.Places.{at_place}
use Rattle.pr_log.proofs.Lit.{below_more, dark_behind, set_of_dark}
use Rattle.pr_log.proofs.dark.Dark.between.Goals as goal

pub loop-n-preserved : goal.loop-n-preserved
loop-n-preserved c o name =
    below_more c.args.own c.self.inside.rows.items c.args.from.now c.args.to.now c.loop-n.n c.at-in-loop-n.result c.at-in-loop-n-2.result c.index-row.result.now (nat_eq c.loop-n.n c.args.own) o (is_gathered c.collect_row.new.names o) (is_gathered c.loop-n.names o)
    (at_place c.self.inside.rows.items c.loop-n.n c.index-row.result.now [] c.index-row.ensures (omega (arith, c.self.invariant)))
    c.at-in-loop-n.ensures.value c.at-in-loop-n-2.ensures.value refl (c.in_ok-collect_row.ensures o name) (c.loop-n.invariant o name)

pub returns : goal.returns
returns c = rw (← c.self.view_is) (set_of_dark c.union.result c.args.own c.self.inside.rows.items c.args.from.now c.args.to.now (is_gathered c.loop-n.names) c.at.ensures.range.nodes c.union.ensures.set c.union.ensures.names
    (λ o name. dark_behind c.args.own c.self.inside.rows.items c.args.from.now c.args.to.now c.loop-n.n o (is_gathered c.loop-n.names o) (omega (arith, c.nodes-n-end.ensures.most))
    (λ k past. c.nodes-n-end.ensures.behind k (omega (arith, past)))
    (c.loop-n.invariant o name)))
