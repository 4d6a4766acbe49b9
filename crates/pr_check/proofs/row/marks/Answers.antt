use Rattle.std.proofs.lemmas.List.Elements.{All-push}
use Rattle.pr_stamps.specs.Point.{IsStamp}
use Rattle.pr_story.specs.Counts.{HasMark}
use Rattle.pr_story.specs.Ranges.{IsStampOrNone}
use Rattle.pr_text.specs.Numbers.{nodes_of}
use Rattle.pr_check.specs.Parts.{mark_read}
use Rattle.pr_check.proofs.PartLoops.{items_done, items_fail, items_go_on}
use Rattle.pr_check.proofs.row.marks.Goals as goal

pub returns-in_default-clause-reads : goal.returns-in_default-clause-reads
returns-in_default-clause-reads c =
    items_fail (mark_read c.args.decls.now) 59 c.loop-rest.marks c.loop-rest.rest.now c.cut.result.0.now c.cut.result.1.now _ (record { some = c.loop-rest-test.ensures; first = c.cut.ensures.before; later = c.cut.ensures.after }) c.in_default.ensures.reads c.loop-rest.invariant.read

pub loop-rest-preserved : goal.loop-rest-preserved
loop-rest-preserved c = rw c.in_ok-push.ensures.ok (record {
  read = items_go_on (mark_read c.args.decls.now) 59 c.loop-rest.marks _ c.loop-rest.rest.now c.cut.result.0.now c.cut.result.1.now _ (record { some = c.loop-rest-test.ensures; first = c.cut.ensures.before; later = c.cut.ensures.after }) c.in-Some.ensures.reads c.loop-rest.invariant.read;
  range = All-push (λ m. IsStamp m.stamp × IsStampOrNone m.prev) c.loop-rest.marks _ c.loop-rest.invariant.range c.in-Some.ensures.range;
  declared = All-push (HasMark (nodes_of c.args.decls.now)) c.loop-rest.marks _ c.loop-rest.invariant.declared c.in-Some.ensures.declared;
})

pub returns-clause-reads : goal.returns-clause-reads
returns-clause-reads c = items_done (mark_read c.args.decls.now) 59 c.loop-rest.marks c.loop-rest.rest.now _ c.loop-rest-test.ensures c.loop-rest.invariant.read
