use Rattle.pr_vectors.proofs.Vectors.{above_unpacked, least_unpacked, none_unpacked}
use Rattle.pr_vectors.proofs.clocks.next_above_few.Goals as goal

pub returns-clause-rises : goal.returns-clause-rises
returns-clause-rises c = rw (← c.wide.ensures, ← c.wide-2.ensures) (above_unpacked _ _ _ (rw c.wide.ensures c.told-few) c.next_above.ensures.range c.next_above.ensures.rises)

pub returns-clause-least : goal.returns-clause-least
returns-clause-least c = rw (← c.wide.ensures, ← c.wide-2.ensures) (least_unpacked _ _ _ _ (rw c.wide.ensures c.told-few) c.next_above.ensures.range c.next_above.ensures.least)

pub returns-clause-none : goal.returns-clause-none
returns-clause-none c none = rw (← c.wide.ensures, ← c.wide-2.ensures) (none_unpacked _ _ _ (rw c.wide.ensures c.told-few) (c.next_above.ensures.none none))
