use Rattle.std.proofs.Common.{◌∙◌}
use Rattle.pr_wire.specs.Spelling.{eight}
use Rattle.pr_wire.proofs.WriteLemmas.{room_filled}
use Rattle.pr_wire.proofs.pieces.set_length.Goals as goal

pub returns : goal.returns
unfolding eight
returns c = room_filled c.args.len c.args.chunk.now.items c.as_mut_slice.result.now c.copy_from_slice.new.self c.requires c.as_mut_slice.ensures.value (c.copy_from_slice.ensures.after ∙ c.to_be_bytes.ensures)
