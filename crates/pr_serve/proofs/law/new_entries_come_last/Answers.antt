use Rattle.pr_serve.proofs.TakenIn.{after_reversed}
use Rattle.pr_serve.proofs.law.new_entries_come_last.Goals as goal

pub returns : goal.returns
returns c = after_reversed
