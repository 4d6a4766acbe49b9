use Rattle.std.proofs.Common.{◌-◌, arith, get_or, ap, ◌∙◌}
use Rattle.pr_story.proofs.Pages.{newest}
use Rattle.pr_story.proofs.journal.Journal.last.Goals as goal

pub returns : goal.returns
returns c = newest c.args.self.now.items c.entry.result.now (omega (arith, c.len-len.ensures, c.if-len-eq0.false)) (λ e. c.entry.ensures e ∙ ap (λ n. get_or c.args.self.now.items (n - 1) e) c.len-len.ensures)
