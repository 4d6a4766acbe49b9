use Rattle.pr_wire.proofs.FrameLemmas.{one_message}
use Rattle.pr_wire.proofs.law.frames_spell_one_message.Goals as goal

pub returns : goal.returns
returns c f g m n h k e = one_message f g m n h k e
