use Rattle.pr_names.proofs.Overlaps.{meets_so, meets_not}
use Rattle.pr_names.proofs.interval.Interval.meets.Goals as goal

pub returns-then-reaches : goal.returns-then-reaches
returns-then-reaches c =
    meets_so c.args.self.now c.args.other.now c.reaches.result c.reaches-then-reaches.result c.reaches.ensures.other c.reaches.ensures.interval
    c.reaches.ensures.value c.reaches-then-reaches.ensures.value c.if-reaches.true

pub returns-else-reaches : goal.returns-else-reaches
returns-else-reaches c =
    meets_not c.args.self.now c.args.other.now c.reaches.result c.reaches.ensures.other c.reaches.ensures.interval c.reaches.ensures.value
    c.if-reaches.false
