use Rattle.pr_sets.proofs.Printing.{on_err_none}
use Rattle.pr_sets.proofs.print.add.Goals as goal

pub returns-clause-err : goal.returns-clause-err
returns-clause-err c = on_err_none c.extend.result c.args.out.now c.extend.new.self c.args.bytes.now c.extend.ensures.err
