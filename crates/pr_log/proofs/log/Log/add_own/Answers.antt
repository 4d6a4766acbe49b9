use Rattle.std.proofs.Common.{refl}
use Rattle.pr_log.proofs.log.Log.add_own.Goals as goal

pub returns-clause-ok : goal.returns-clause-ok
returns-clause-ok c = rw (← c.self.view_is) (record {
  node = refl;
  cut = refl;
  vector = c.raise.ensures;
  lit = λ o p. refl;
  knows = c.in_ok-learn.ensures.ok;
  few = c.in_ok-learn.ensures.few;
})
