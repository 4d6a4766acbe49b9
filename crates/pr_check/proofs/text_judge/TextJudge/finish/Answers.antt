use Rattle.pr_check.proofs.TextsRead.{found_good, read_text}
use Rattle.pr_check.proofs.text_judge.TextJudge.finish.Goals as goal

pub returns-in-Good-clause-read : goal.returns-in-Good-clause-read
returns-in-Good-clause-read c text read =
    let found = found_good c.args.self text c.in-Good.is read in
    read_text text c.args.self.under found.0 c.is_empty.result found.1 c.is_empty.ensures c.read.result (c.read.ensures found.0 found.2 found.3)
