use Rattle.pr_sim.proofs.Appending.{client_answered, client_wrote}
use Rattle.pr_sim.proofs.holding.note_client.Goals as goal

pub returns-in-Wrote-clause-clients : goal.returns-in-Wrote-clause-clients
returns-in-Wrote-clause-clients c plan h count k within =
    client_wrote plan h count c.args.node c.args.entry.now c.args.homes.now.items c.args.seen.now.items c.see.new.seen.items c.in-Wrote.client c.in-Wrote.write c.in-Wrote.body c.in-Wrote.after c.in-Wrote.is c.requires.known c.raise.new.self (rw (← c.get-at.ensures.value) c.raise.ensures) c.see.ensures k

pub returns-in-Answered-clause-clients : goal.returns-in-Answered-clause-clients
returns-in-Answered-clause-clients c plan h count k within =
    client_answered plan h count c.args.node c.args.entry.now c.args.homes.now.items c.args.seen.now.items c.see-in-Answered.new.seen.items c.in-Answered.client c.in-Answered.name c.in-Answered.reply c.in-Answered.at c.in-Answered.is c.requires.known (rw (← c.get.ensures.value) c.see-in-Answered.ensures) k
