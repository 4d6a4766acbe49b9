use Rattle.std.proofs.Common.{◌∙◌, ap}
use Rattle.std.specs.Prelude.{Some, Bool}
use Rattle.pr_node.proofs.Finding.{untold_is, precise_is, none_known, newest_is, newest_held}
use Rattle.pr_node.proofs.answering.answer.Goals as goal

pub returns-in-Some-clause-value : goal.returns-in-Some-clause-value
returns-in-Some-clause-value c n j tied = untold_is n j _ c.args.name.now _ tied.gaps c.set_of-index.ensures.within c.set_of-index.ensures.value _ c.in-Some.ensures

pub returns-in_default-newest-clause-value : goal.returns-in_default-newest-clause-value
returns-in_default-newest-clause-value c n j tied =
    (precise_is n j _ c.args.name.now _ tied.gaps c.set_of-index.ensures.within c.set_of-index.ensures.value c.in_default.ensures, none_known j _ _ tied.marks c.in_default-newest.ensures)

pub returns-then-newest-clause-value : goal.returns-then-newest-clause-value
returns-then-newest-clause-value c n j tied =
    let newest = newest_is j _ c.args.name.now _ tied.marks c.in-Some-newest.ensures in
    (precise_is n j _ c.args.name.now _ tied.gaps c.set_of-index.ensures.within c.set_of-index.ensures.value c.in_default.ensures, newest.0, newest.1 ∙ ap (λ (b : Bool). Some b) c.if-newest.true)

pub returns-in-Some-get-clause-value : goal.returns-in-Some-get-clause-value
returns-in-Some-get-clause-value c n j tied =
    let newest = newest_is j _ c.args.name.now _ tied.marks c.in-Some-newest.ensures in
    (precise_is n j _ c.args.name.now _ tied.gaps c.set_of-index.ensures.within c.set_of-index.ensures.value c.in_default.ensures, newest.0, newest.1 ∙ ap (λ (b : Bool). Some b) c.if-newest.false, newest_held j _ _ _ _ tied.bodies newest.0 c.in-Some-get.ensures)

pub returns-in-Some-get-clause-range : goal.returns-in-Some-get-clause-range
returns-in-Some-get-clause-range c = (c.clock-2.ensures.range, c.bytes_in_range.ensures)

pub returns-in-None-clause-value : goal.returns-in-None-clause-value
returns-in-None-clause-value c n j tied =
    let newest = newest_is j _ c.args.name.now _ tied.marks c.in-Some-newest.ensures in
    (precise_is n j _ c.args.name.now _ tied.gaps c.set_of-index.ensures.within c.set_of-index.ensures.value c.in_default.ensures, newest.0, newest.1 ∙ ap (λ (b : Bool). Some b) c.if-newest.false, newest_held j _ _ _ _ tied.bodies newest.0 c.in-None.ensures)
