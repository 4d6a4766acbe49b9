use Rattle.std.proofs.Common.{◌≡◌, ◌+◌, ◌<◌, ◌≤◌, ◌∙◌, ℕ, List, ap, sym, subst, arith, cond, get_or, length, reverse, take}
use Rattle.std.specs.Prelude.{Bool}
use Rattle.std.proofs.lemmas.List.{reverse-reverse}
use Rattle.pr_story.specs.declared.entry.Entry.{Entry}
use Rattle.pr_story.specs.History.{NodeEntry}
use Rattle.pr_story.proofs.NewestFirst.{with_all}
use Rattle.pr_gen.specs.Summary.{count_of, is_counted, words}
use Rattle.pr_gen.specs.declared.counted.Counted.TheVariants.{Writes}
use Rattle.pr_gen.proofs.Counting.{at_most_one, count_more, past_history, some_entry, within_history}
use Rattle.pr_gen.proofs.summing.tally.Goals as goal

pub entry_at-requires : goal.entry_at-requires
entry_at-requires g c =
    let r = c.requires in
    (r.0, r.1, within_history g.H.Node.Journaled.journal r.0 (g.H.Held.state c.args.held.now) c.history-at-end.result.now c.loop-at.at r.1 c.history-at-end.ensures c.loop-at-test.true)

pub add-requires : goal.add-requires
add-requires g c i lt =
    let r = c.requires in
    let so_far = c.loop-at.invariant r.0 r.1 i lt in
    let few = so_far.1 in
    let len = c.history-at-end.type_inv in
    let many = len.1 in
    let t = c.loop-at-test.true in
    omega arith

pub loop-at-preserved : goal.loop-at-preserved
loop-at-preserved g c h a i lt =
    let so_far = c.loop-at.invariant h a i lt in
    let within = within_history g.H.Node.Journaled.journal h (g.H.Held.state c.args.held.now) c.history-at-end.result.now c.loop-at.at a c.history-at-end.ensures c.loop-at-test.true in
    let word = get_or words i Writes in
    let is = c.entry_at.ensures.entry h some_entry a within in
    let added = c.add.ensures i lt ∙ ap (λ (e : Entry). get_or c.loop-at.counts i 0 + cond (is_counted word e.event) 1 0) is in
    let more = count_more word h c.loop-at.at some_entry within in (
      added ∙ ap (λ (n : ℕ). n + cond (is_counted word (get_or (reverse h) c.loop-at.at some_entry).entry.event) 1 0) so_far.0 ∙ sym more,
      at_most_one (get_or c.loop-at.counts i 0) (get_or c.add.new.counts i 0) c.loop-at.at (is_counted word (get_or (reverse h) c.loop-at.at some_entry).entry.event) added so_far.1,
    )

pub returns : goal.returns
returns g c h a i lt =
    subst (λ (xs : List NodeEntry). get_or c.loop-at.counts i 0 ≡ count_of xs (get_or words i Writes)) (reverse-reverse h)
    (with_all (λ (xs : List NodeEntry). get_or c.loop-at.counts i 0 ≡ count_of xs (get_or words i Writes)) (reverse h) c.loop-at.at
    (past_history g.H.Node.Journaled.journal h (g.H.Held.state c.args.held.now) c.history-at-end.result.now c.loop-at.at a c.history-at-end.ensures c.loop-at-test.false)
    (c.loop-at.invariant h a i lt).0)
