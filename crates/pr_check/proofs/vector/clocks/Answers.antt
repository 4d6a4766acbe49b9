use Rattle.std.proofs.Common.{◌∙◌, rules}
use Rattle.pr_check.proofs.PartLoops.{each_done, each_fails, each_goes_on}
use Rattle.pr_check.specs.Parts.{with_clock}
use Rattle.pr_check.proofs.vector.clocks.Goals as goal

pub returns-in_err-vector-clause-reads : goal.returns-in_err-vector-clause-reads
returns-in_err-vector-clause-reads c =
    c.from_residual.ensures ∙ each_fails (with_clock c.args.decls.now) 44 c.loop-rest.vector c.loop-rest.rest.now c.cut.result.0.now c.cut.result.1.now _
    (record { some = c.loop-rest-test.ensures; first = c.cut.ensures.before; later = c.cut.ensures.after }) c.in_err-vector.ensures.reads c.loop-rest.invariant.read

pub loop-rest-preserved : goal.loop-rest-preserved
loop-rest-preserved c = record {
  read = each_goes_on (with_clock c.args.decls.now) 44 c.loop-rest.vector c.in_ok-vector.vector c.loop-rest.rest.now c.cut.result.0.now c.cut.result.1.now _
      (record { some = c.loop-rest-test.ensures; first = c.cut.ensures.before; later = c.cut.ensures.after }) c.in_ok-vector.ensures.reads c.loop-rest.invariant.read;
  range = search rules;
  declared = search rules;
}

pub returns-clause-reads : goal.returns-clause-reads
returns-clause-reads c = each_done (with_clock c.args.decls.now) 44 c.loop-rest.vector c.loop-rest.rest.now _ c.loop-rest-test.ensures c.loop-rest.invariant.read
