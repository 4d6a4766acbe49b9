use Rattle.std.proofs.Common.{List, reverse, subst, sym}
use Rattle.std.specs.Prelude.{Contains, ◌↔◌}
use Rattle.pr_stamps.specs.declared.mark.Mark.{Mark}
use Rattle.pr_sets.specs.Spans.{has}
use Rattle.pr_story.specs.Knowledge.{IsMark}
use Rattle.pr_sets.specs.Sets.{set_of}
use Rattle.pr_story.proofs.Marking.{conflicts_same}
use Rattle.pr_story.proofs.SameNames.{precise_same, untold_same}
use Rattle.pr_story.proofs.plain.pairs.conflicts.Goals as goal

pub returns-in-Some : goal.returns-in-Some
returns-in-Some c =
    untold_same c.args.node (reverse c.args.entries.now) (has c.in_ok-set.set) (set_of c.args.sets.now c.args.name.now) c.in-Some.untold c.in_ok-set.ensures c.in-Some.ensures

pub returns : goal.returns
returns c = (
  precise_same c.args.node (reverse c.args.entries.now) (has c.in_ok-set.set) (set_of c.args.sets.now c.args.name.now) c.in_ok-set.ensures c.in-None.ensures,
  conflicts_same (λ (mark : Mark). Contains c.as_slice.result.now mark) (IsMark (reverse c.args.entries.now) c.args.name.now) c.in_ok-pairs.pairs
      (subst (λ (ms : List Mark). (mark : Mark) → Contains ms mark ↔ IsMark (reverse c.args.entries.now) c.args.name.now mark) (sym c.as_slice.ensures) c.in_ok-marks.ensures.each) c.in_ok-pairs.ensures,
)
