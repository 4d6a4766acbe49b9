use Rattle.pr_wire.proofs.FrameLemmas.{one_front}
use Rattle.pr_wire.proofs.law.no_frame_begins_another.Goals as goal

pub returns : goal.returns
returns c f g m n x y h k e = one_front f g m n x y h k e
