use Rattle.std.proofs.Common.{ap, sym, ◌∙◌}
use Rattle.std.specs.Ordering.{is_lt}
use Rattle.pr_names.proofs.Places.{lt_cmp}
use Rattle.pr_names.proofs.name.Name.is_below.Goals as goal

pub returns : goal.returns
returns c = c.is_lt.ensures ∙ ap is_lt c.cmp.ensures ∙ sym (lt_cmp c.args.self.now c.args.other.now)
