use Rattle.std.proofs.Common.{Err, subst}
use Rattle.pr_script.specs.Answers.{Answers}
use Rattle.pr_script.specs.declared.fault.ScriptFault.{ScriptFault}
use Rattle.pr_top.proofs.reading.finish.Goals as goal

pub returns-in-Ok : goal.returns-in-Ok
returns-in-Ok c = λ bytes holds. (c.in-Ok.ensures.exact bytes holds, c.in-Ok.ensures.good bytes holds, c.in-Ok.ensures.labels bytes holds)

pub returns-in-Err-Bad : goal.returns-in-Err-Bad
returns-in-Err-Bad c = λ bytes holds. subst (λ (f : ScriptFault). Answers (Err f) bytes) c.in-Err-Bad.field-0-is (c.in-Err-Bad.ensures.exact bytes holds)
