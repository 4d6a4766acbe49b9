use Rattle.std.proofs.Common.{rules, List, ℕ}
use Rattle.pr_script.specs.Answers.{Answers, Holds}
use Rattle.pr_script.proofs.Accepted.{answered_labels}
use Rattle.pr_script.proofs.GoodScripts.{answered_good}
use Rattle.pr_script.proofs.reader.Reader.finish.Goals as goal

pub returns-clause-labels : goal.returns-clause-labels
returns-clause-labels c =
    let exact : (before : List ℕ) → Holds c.args.self before → Answers c.ended.result before = search rules in
    λ before h. answered_labels c.ended.result before (exact before h)

pub returns-clause-good : goal.returns-clause-good
returns-clause-good c =
    let exact : (before : List ℕ) → Holds c.args.self before → Answers c.ended.result before = search rules in
    λ before h. answered_good c.ended.result before (exact before h)
