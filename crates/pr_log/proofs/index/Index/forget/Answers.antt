use Rattle.pr_log.proofs.Counts.{uncovered_most}
use Rattle.pr_log.proofs.index.Index.forget.Goals as goal

pub returns-clause-few : goal.returns-clause-few
returns-clause-few c = rw (← c.self.view_is) (uncovered_most c.self.inside.rows.items c.forget.new.rows.items (λ n lt. (c.forget.ensures.each n lt).few))
