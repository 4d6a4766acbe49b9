use Rattle.pr_wire.proofs.FrameLemmas.{never_bad, never_part}
use Rattle.pr_wire.proofs.law.messages_are_never_bad.Goals as goal

pub returns : goal.returns
returns c limit f m x h lt le = (never_bad limit f m x h lt le, never_part limit f m x lt le)
