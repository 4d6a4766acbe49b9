use Rattle.pr_serve.proofs.AskField.{ask_field, ask_is_read}
use Rattle.pr_serve.proofs.law.asks_have_one_spelling.Goals as goal

pub returns-clause-read : goal.returns-clause-read
returns-clause-read c = ask_is_read

pub returns-clause-again : goal.returns-clause-again
returns-clause-again c = ask_field.again
