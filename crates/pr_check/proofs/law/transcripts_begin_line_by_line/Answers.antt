use Rattle.pr_check.proofs.Fronts.{begin_line_by_line}
use Rattle.pr_check.proofs.law.transcripts_begin_line_by_line.Goals as goal

pub returns : goal.returns
returns c = begin_line_by_line
