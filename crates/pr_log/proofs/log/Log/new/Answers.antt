use Rattle.std.proofs.Common.{refl}
use Rattle.pr_log.proofs.Logs.{new_lit}
use Rattle.pr_log.proofs.log.Log.new.Goals as goal

pub returns : goal.returns
returns c = record {
  at = refl;
  vector = c.zero.ensures;
  cut = c.zero-2.ensures;
  lit = new_lit c.args.node c.in_ok-dark.dark c.in_ok-dark.ensures;
  knows = c.in_ok-known.ensures.none;
  few = c.in_ok-known.ensures.few;
  works = refl;
}
