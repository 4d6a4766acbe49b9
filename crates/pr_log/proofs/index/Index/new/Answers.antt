use Rattle.pr_log.proofs.Counts.{uncovered_none}
use Rattle.pr_log.proofs.index.Index.new.Goals as goal

pub returns-clause-few : goal.returns-clause-few
returns-clause-few c = uncovered_none c.in_ok-rows.rows.items c.in_ok-rows.ensures.none
