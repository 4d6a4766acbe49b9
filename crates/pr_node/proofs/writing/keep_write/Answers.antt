use Rattle.std.proofs.Common.{refl}
use Rattle.pr_node.proofs.Tied.{wrote_tied}
use Rattle.pr_node.proofs.writing.keep_write.Goals as goal

pub returns-clause-tied : goal.returns-clause-tied
returns-clause-tied c j time caller client after tied =
    wrote_tied j _ _ time caller client _ _ _ _ after c.mark_of-mark.ensures tied c.clock.ensures.range c.requires.before c.requires.short refl c.in_ok-keep.ensures.log c.in_ok-keep.ensures.gaps c.in_ok-keep.ensures.bodies (rw (← c.keep.ensures.marks) c.in_ok-add.ensures.ok)
