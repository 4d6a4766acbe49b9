use Rattle.std.proofs.Common.{sym, ◌∙◌}
use Rattle.pr_sets.proofs.SpanEnds.{later_cut, later_none, later_whole, made_list}
use Rattle.pr_sets.proofs.ends.later_part.Goals as goal

pub returns-then-not-reaches : goal.returns-then-not-reaches
returns-then-not-reaches c =
    later_none c.args.part.now c.args.other.now.lo c.reaches.ensures.interval c.reaches.ensures.other.lo (sym c.reaches.ensures.value ∙ c.if-not-reaches.true)

pub returns-then-begins_before : goal.returns-then-begins_before
returns-then-begins_before c =
    later_cut c.args.part.now c.args.other.now.lo c.new.result (sym c.begins_before.ensures.value ∙ c.if-begins_before.true)
    (rw (← c.lo.ensures.value, ← c.hi.ensures.value) (made_list c.lo.result c.hi.result c.new.result c.new.ensures.some c.new.ensures.value))

pub returns-else-begins_before : goal.returns-else-begins_before
returns-else-begins_before c =
    later_whole c.args.part.now c.args.other.now.lo c.begins_before.ensures.interval (sym c.begins_before.ensures.value ∙ c.if-begins_before.false)
