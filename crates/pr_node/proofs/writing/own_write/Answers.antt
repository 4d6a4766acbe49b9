use Rattle.std.proofs.Common.{sym, subst, refl}
use Rattle.std.specs.Prelude.{Option}
use Rattle.pr_stamps.specs.Point.{Point}
use Rattle.pr_story.specs.Knowledge.{IsNewestKnown}
use Rattle.pr_node.specs.Writes.{IsNextOwn}
use Rattle.pr_node.proofs.Owned.{newest_known, next_own}
use Rattle.pr_node.proofs.Tied.{wrote_tied}
use Rattle.pr_node.proofs.writing.own_write.Goals as goal

pub returns-clause-own : goal.returns-clause-own
returns-clause-own c j tied =
    next_own c.args.stamp.now.node j c.args.stores.now.log.vector _ _ _ _ tied.log.vector (record { node = refl; after_all = c.requires.next.after_all; next = c.requires.next.next })
    c.clock.ensures.range c.bytes.ensures.name c.stamp_in_range.ensures
    (subst (λ (x : Option Point). IsNewestKnown j c.args.name.now x) (sym c.in_ok-prev.ensures.prev) (newest_known j _ _ _ tied.marks refl)) tied.spelled

pub returns-clause-tied : goal.returns-clause-tied
returns-clause-tied c j time caller client after tied =
    let own : IsNextOwn c.args.stamp.now.node j c.args.name.now c.args.gone _ = returns-clause-own c j tied in
    wrote_tied j _ _ time caller client _ _ _ _ after refl tied c.clock.ensures.range own.before c.requires.short refl c.in_ok-keep.ensures.log c.in_ok-keep.ensures.gaps c.in_ok-keep.ensures.bodies (rw c.keep.ensures.marks c.in_ok-prev.ensures.ok)
