use Rattle.std.proofs.Common.{ap, ◌∙◌}
use Rattle.pr_names.specs.Bound.{is_under}
use Rattle.pr_names.proofs.Above.{one_some}
use Rattle.pr_names.proofs.text.one.Goals as goal

pub unwrap-requires : goal.unwrap-requires
unwrap-requires c = c.new.ensures.some ∙ ap (is_under c.args.name) c.after.ensures.value ∙ one_some c.args.name c.bytes.ensures.name
