use Rattle.pr_names.proofs.Texts.{name_read_ok}
use Rattle.pr_gen.proofs.naming.named.Goals as goal

pub unreachable-requires : goal.unreachable-requires
unreachable-requires c = let read = name_read_ok c.args.bytes.now c.requires in let is = c.in-Err.ensures.value in cc
