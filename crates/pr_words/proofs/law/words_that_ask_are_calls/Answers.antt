use Rattle.pr_words.proofs.Spelled.{are_calls}
use Rattle.pr_words.proofs.law.words_that_ask_are_calls.Goals as goal

pub returns : goal.returns
returns c = are_calls
