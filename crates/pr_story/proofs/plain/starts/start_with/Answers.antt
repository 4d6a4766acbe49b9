use Rattle.std.proofs.Common.{reverse}
use Rattle.pr_sets.specs.Spans.{has}
use Rattle.pr_story.proofs.Starts.{start_more, start_other}
use Rattle.pr_story.proofs.plain.starts.start_with.Goals as goal

pub returns-then-meets : goal.returns-then-meets
returns-then-meets c = λ sets start.
    start_more c.args.node (reverse c.args.entries.now) (has c.args.set.now) sets c.args.names.now c.args.start.now c.last_precise.result c.meet.result c.meet.ensures (c.meets.ensures.0 c.if-meets.true) c.last_precise.ensures start

pub returns-else-meets : goal.returns-else-meets
returns-else-meets c = λ sets start.
    start_other c.args.node (reverse c.args.entries.now) (has c.args.set.now) sets c.args.names.now c.args.start.now (λ m. let t = c.meets.ensures.1 m in let f = c.if-meets.false in cc) start
