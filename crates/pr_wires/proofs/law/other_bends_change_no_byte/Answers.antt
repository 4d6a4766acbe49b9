use Rattle.pr_wires.proofs.Bytes.{others_keep_bytes}
use Rattle.pr_wires.proofs.law.other_bends_change_no_byte.Goals as goal

pub returns : goal.returns
returns c = others_keep_bytes
