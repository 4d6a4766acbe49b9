use Rattle.pr_check.proofs.TextsRead.{reads_past}
use Rattle.pr_check.proofs.text_judge.TextJudge.byte.Goals as goal

pub returns-in-Bad-clause-ok : goal.returns-in-Bad-clause-ok
returns-in-Bad-clause-ok c text read = reads_past c.args.self.now text c.args.b c.in-Bad.line c.in-Bad.why c.in-Bad.is read
