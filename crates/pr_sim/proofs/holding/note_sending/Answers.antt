use Rattle.pr_sim.proofs.Appending.{room_then}
use Rattle.pr_sim.proofs.holding.note_sending.Goals as goal

pub returns-in-Sent-clause-room : goal.returns-in-Sent-clause-room
returns-in-Sent-clause-room c s d = room_then c.args.sent.now.items c.note.new.sent.items c.in-Sent.msg.stream _ c.note.ensures s d
