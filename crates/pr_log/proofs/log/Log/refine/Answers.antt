use Rattle.std.proofs.Common.{refl}
use Rattle.pr_log.proofs.log.Log.refine.Goals as goal

pub returns-clause-ok : goal.returns-clause-ok
returns-clause-ok c = rw (← c.self.view_is) (record {
  node = refl;
  cut = refl;
  vector = c.join_in.ensures;
  lit = λ o p name. c.in_ok-refine.ensures o p name;
  knows = c.in_ok-learn.ensures.ok;
  few = c.in_ok-learn.ensures.few;
})
