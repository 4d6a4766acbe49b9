use Rattle.std.proofs.Common.{◌≡◌, ◌<◌, ◌≤◌, ◌+◌, ◌-◌, ◌∙◌, ℕ, Bool, List, ap, arith, cond, get_or, length, reverse, sym, take}
use Rattle.pr_story.specs.Lawful.{is_after_gap, is_gap}
use Rattle.pr_story.specs.Turns.{is_of_stream}
use Rattle.pr_story.specs.declared.entry.Entry.{Entry}
use Rattle.pr_story.proofs.NewestFirst.{reverse-take_more}
use Rattle.pr_sim.proofs.downs.is_after_gap.Goals as goal

-- what the newest of the first entries decides
newest : (xs : List Entry) (left : ℕ) (e : Entry) (s : ℕ) (of : Bool) → 0 < left → left ≤ length xs → e ≡ get_or xs (left - 1) e → of ≡ is_of_stream e.event s → is_after_gap (reverse (take left xs)) s ≡ cond of (is_gap e.event) (is_after_gap (reverse (take (left - 1) xs)) s)
newest xs left e s of some within is so =
    let more : left ≡ left - 1 + 1 = omega arith in
    ap (λ n. is_after_gap (reverse (take n xs)) s) more
    ∙ ap (λ j. is_after_gap j s) (reverse-take_more xs (left - 1) e (omega arith) is)
    ∙ ap (λ b. cond b (is_gap e.event) (is_after_gap (reverse (take (left - 1) xs)) s)) (sym so)

pub returns-then-is_of_stream : goal.returns-then-is_of_stream
returns-then-is_of_stream c =
    c.is_gap.ensures ∙ sym (newest c.args.journal.now.items c.loop-left.left c.entry.result.now c.args.stream _ c.loop-left-test.true c.loop-left.invariant.0 (c.entry.ensures c.entry.result.now) c.if-is_of_stream.ensures) ∙ c.loop-left.invariant.1

pub loop-left-preserved : goal.loop-left-preserved
loop-left-preserved c = (
  omega (arith, c.loop-left.invariant.0),
  sym (newest c.args.journal.now.items c.loop-left.left c.entry.result.now c.args.stream _ c.loop-left-test.true c.loop-left.invariant.0 (c.entry.ensures c.entry.result.now) c.if-is_of_stream.ensures) ∙ c.loop-left.invariant.1,
)
