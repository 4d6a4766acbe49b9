use Rattle.pr_serve.proofs.AskField.{one_ask}
use Rattle.pr_serve.proofs.law.no_ask_begins_another.Goals as goal

pub returns : goal.returns
returns c = one_ask
