use Rattle.std.proofs.Common.{◌≡◌, inl, inr, arith, length-set, ◌∙◌}
use Rattle.std.proofs.lemmas.Bool.{cases_lt}
use Rattle.pr_vectors.specs.Vector.{clock_of}
use Rattle.pr_stamps.proofs.Places.{done_more, done_same, rest_more}
use Rattle.pr_gaps.proofs.Covered.{IsNodeCovered, node_covered, node_same, rest_same}
use Rattle.pr_gaps.proofs.row.Row.cover.Goals as goal
use Rattle.pr_gaps.specs.Ranges.{no_clocks}
use Rattle.pr_gaps.proofs.row.Row.cover.Goals.{then-from-to+in_ok-add, else-from-to}

pub loop-n-preserved : goal.loop-n-preserved
loop-n-preserved c =
    let items = c.loop-n.self-inside.clocks.items in
    let first = c.self.inside.clocks.items in
    let n = c.loop-n.n in
    let from = c.args.from.now in
    let to = c.args.to.now in
    elim c.if-from-to.branch [
      | then-from-to+in_ok-add w ↦
          let old = w.index_mut-clocks.result.now in
          let new = w.add.new.self in
          record {
            len = rw w.self-inside-is (length-set items n new ∙ c.loop-n.invariant.len);
            done = rw w.self-inside-is (done_more (IsNodeCovered from to) items first no_clocks n old new (omega (arith, c.loop-n.invariant.len)) w.index_mut-clocks.ensures.value
                (node_covered from to n new old c.at-from.result c.at-to.result c.at-from.ensures.value c.at-to.ensures.value w.in_ok-add.ensures)
                c.loop-n.invariant.done c.loop-n.invariant.rest);
            rest = rw w.self-inside-is (rest_more items first no_clocks n new c.loop-n.invariant.rest);
          }
      | else-from-to w ↦ record {
        len = rw w.self-inside-is c.loop-n.invariant.len;
        done = rw w.self-inside-is (done_same (IsNodeCovered from to) items first no_clocks n (node_same from to n (omega (arith, w.if-from-to.false, c.at-from.ensures.value, c.at-to.ensures.value))) c.loop-n.invariant.done c.loop-n.invariant.rest);
        rest = rw w.self-inside-is (λ k le. c.loop-n.invariant.rest k (omega (arith, le)));
      }
    ]

pub returns : goal.returns
returns c p lt = rw (← c.self.view_is) (elim (cases_lt p.node c.loop-n.n) [
  | inl here ↦ c.loop-n.invariant.done p.node here p.clock
  | inr past ↦
      let none : clock_of c.args.to.now p.node ≡ 0 = c.nodes-n-end.ensures.behind p.node (omega (arith, past)) lt in
      rest_same c.args.from.now c.args.to.now p.node _ _ none (c.loop-n.invariant.rest p.node past) p.clock
])
