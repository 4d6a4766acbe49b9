use Rattle.std.proofs.Common.{◌∙◌, ◌++◌, ◌∷◌, ℕ, ap, length, refl, arith}
use Rattle.std.specs.Prelude.{flat_map}
use Rattle.pr_wire.specs.Spelling.{above, eight, entry_text}
use Rattle.pr_wire.proofs.WriteLemmas.{count_ends, count_rises, entries_end, entry_rises}
use Rattle.pr_wire.proofs.writing.vectors.put_above.Goals as goal

pub put_entry-requires-clause-room : goal.put_entry-requires-clause-room
put_entry-requires-clause-room g c = omega (arith, c.loop-node.invariant.size, c.requires.room, c.in-Some.ensures.from, c.in-Some.ensures.range)

pub loop-node-smaller : goal.loop-node-smaller
loop-node-smaller g c = omega (arith, c.in-Some.ensures.from, c.in-Some.ensures.range)

pub loop-node-preserved : goal.loop-node-preserved
loop-node-preserved g c =
    let from = g.V.Clocked.clocks c.args.from.now in
    let to = g.V.Clocked.clocks c.args.to.now in
    let found = c.in-Some.ensures in
    let i = c.loop-node.invariant in
    let text = c.put_entry.ensures.text ∙ ap (λ (k : ℕ). c.loop-node.chunk.items ++ c.in-Some.node ∷ eight k) c.clock.ensures.value in
    record {
      all = entry_rises from to c.loop-node.start c.in-Some.node c.loop-node.chunk.items c.put_entry.new.chunk.items _ found.from found.range found.least found.rises text i.all;
      count = count_rises from to c.loop-node.start c.in-Some.node c.loop-node.count _ found.from found.range found.least found.rises i.count;
      few = omega (arith, i.few, found.from);
      most = omega (arith, found.range);
      size = omega (arith, i.size, found.from, c.put_entry.ensures.size);
      grows = omega (arith, i.grows, c.put_entry.ensures.size);
    }

pub returns-clause-text : goal.returns-clause-text
returns-clause-text g c = entries_end (g.V.Clocked.clocks c.args.from.now) (g.V.Clocked.clocks c.args.to.now) c.loop-node.start c.loop-node.chunk.items _ c.loop-node.invariant.most (c.in_default.ensures.none refl) c.loop-node.invariant.all

pub returns-clause-count : goal.returns-clause-count
returns-clause-count g c = count_ends (g.V.Clocked.clocks c.args.from.now) (g.V.Clocked.clocks c.args.to.now) c.loop-node.start c.loop-node.count _ c.loop-node.invariant.most (c.in_default.ensures.none refl) c.loop-node.invariant.count
