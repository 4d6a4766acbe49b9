use Rattle.std.proofs.Common.{◌≡◌, ℕ, List, ◌∙◌, sym, ap, Bool, cond, max}
use Rattle.pr_story.specs.declared.entry.Entry.{Entry}
use Rattle.pr_story.specs.Turns.{is_timed}
use Rattle.pr_story.proofs.NewestFirst.{with_more, with_all}
use Rattle.pr_story.proofs.Folds.{time_of, stream_heard}
use Rattle.pr_story.proofs.plain.clients.stream_time.Goals as goal

pub loop-entry-preserved : goal.loop-entry-preserved
loop-entry-preserved c =
    with_more (λ h. c.later-time.result ≡ time_of h c.args.stream) _ _ c.entry-item.result c.loop-entry-test.true c.entry-item.is
    (c.later-time.ensures ∙ ap (λ (b : Bool). max c.loop-entry.time (cond b c.entry-item.result.time 0)) c.is_timed-counts.ensures ∙ ap (λ (t : ℕ). max t (cond (is_timed c.entry-item.result.event c.args.stream) c.entry-item.result.time 0)) c.loop-entry.invariant)

pub returns : goal.returns
returns c = λ h e.
    with_all (λ j. c.loop-entry.time ≡ time_of j c.args.stream) _ _ c.loop-entry-test.false c.loop-entry.invariant
    ∙ ap (λ (j : List Entry). time_of j c.args.stream) (sym e) ∙ sym (stream_heard h c.args.stream)
