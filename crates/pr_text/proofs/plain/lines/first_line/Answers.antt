use Rattle.std.proofs.Common.{rules}
use Rattle.pr_text.proofs.FirstLines.{first_alone, first_phase}
use Rattle.pr_text.proofs.plain.lines.first_line.Goals as goal

pub returns-then-not-is_phase : goal.returns-then-not-is_phase
returns-then-not-is_phase c = first_alone c.args.first.now c.args.behind.now _ (search rules) c.requires c.in_ok-line_of.ensures

pub returns : goal.returns
returns c = first_phase c.args.first.now c.args.behind.now c.phase_len-len.result _ (search rules) c.requires c.phase_len-len.ensures c.in_ok-jobs.ensures
