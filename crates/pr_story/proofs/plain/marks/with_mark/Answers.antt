use Rattle.std.proofs.Common.{List, ◌++◌, ◌∙◌, ap, sym}
use Rattle.pr_stamps.specs.declared.mark.Mark.{Mark}
use Rattle.pr_story.specs.Knowledge.{mark_at}
use Rattle.pr_story.specs.Marking.{marks_below, marks_past}
use Rattle.pr_story.proofs.Marking.{placed}
use Rattle.pr_story.proofs.plain.marks.with_mark.Goals as goal

pub returns : goal.returns
returns c =
    placed c.args.marks c.add_below.new.list c.push.new.self c.add_past.new.list c.args.mark.now
    (ap (λ (ms : List Mark). mark_at ms c.args.mark.now.stamp) (sym c.as_slice.ensures) ∙ sym c.mark_at.ensures ∙ c.in-None.is)
    (c.in_ok-add_below.ensures ∙ ap (λ (ms : List Mark). ms ++ marks_below c.as_slice-2.result.now c.args.mark.now.stamp) c.new-more.ensures ∙ ap (λ (ms : List Mark). marks_below ms c.args.mark.now.stamp) c.as_slice-2.ensures)
    c.in_ok-push.ensures.ok
    (c.in_ok-add_past.ensures ∙ ap (λ (ms : List Mark). c.push.new.self ++ marks_past ms c.args.mark.now.stamp) c.as_slice-3.ensures)
