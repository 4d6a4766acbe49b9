use Rattle.std.proofs.Common.{subst, refl}
use Rattle.pr_inval.specs.Standing.{means}
use Rattle.pr_inval.specs.declared.step.Step.{Step}
use Rattle.pr_story.specs.Turns.{event_of}
use Rattle.pr_node.specs.Sending.{IsTurnOf}
use Rattle.pr_node.proofs.turning.note.Goals as goal

pub returns-in-Sent : goal.returns-in-Sent
returns-in-Sent c caller stream same = rw c.in-Sent.is (c.note_sent.ensures caller c.in-Sent.msg refl (subst (λ (s : Step). IsTurnOf (means c.args.session.now).stream (event_of (means c.args.session.now).stream s)) c.in-Sent.is c.requires.turn))
