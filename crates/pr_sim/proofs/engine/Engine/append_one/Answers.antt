use Rattle.pr_sim.proofs.Appending.{attaches_stream, kept_then, names_client, next_entry, sends_of_stream}
use Rattle.std.proofs.Common.{◌∙◌, length, refl, sym, subst}
use Rattle.pr_story.specs.declared.entry.Entry.{Entry}
use Rattle.pr_sim.specs.Holding.{IsAttachedOfStream, IsSentOfStream, NamesClient}
use Rattle.pr_sim.proofs.engine.Engine.append_one.Goals as goal

pub note_client-requires-clause-known : goal.note_client-requires-clause-known
note_client-requires-clause-known c =
    let n = c.requires.next in
    let is = next_entry n.0 n.1 n.2 c.args.self.now c.args.node c.args.place n.3 c.node_at.result.now c.entry_at-entry.result.now c.node_at.ensures c.entry_at-entry.ensures in
    subst (λ (e : Entry). NamesClient (length c.args.self.now.homes.items) e.event) (sym is) (names_client n.0.counts (length c.args.self.now.homes.items) n.2.entry.event n.3.clients n.3.declared)

pub note_sending-requires-clause-known : goal.note_sending-requires-clause-known
note_sending-requires-clause-known c =
    let n = c.requires.next in
    let is = next_entry n.0 n.1 n.2 c.args.self.now c.args.node c.args.place n.3 c.node_at.result.now c.entry_at-entry.result.now c.node_at.ensures c.entry_at-entry.ensures in
    subst (λ (e : Entry). IsSentOfStream (length c.args.self.now.sent.items) e.event) (sym is) (sends_of_stream n.0.counts (length c.args.self.now.sent.items) n.2.entry.event (n.4.many_sent ∙ n.3.streams) n.3.declared)

pub note_attach-requires : goal.note_attach-requires
note_attach-requires c =
    let n = c.requires.next in
    let is = next_entry n.0 n.1 n.2 c.args.self.now c.args.node c.args.place n.3 c.node_at.result.now c.entry_at-entry.result.now c.node_at.ensures c.entry_at-entry.ensures in
    subst (λ (e : Entry). IsAttachedOfStream (length c.args.self.now.scans.items) e.event) (sym is) (attaches_stream n.0.counts (length c.args.self.now.scans.items) n.2.entry.event (n.4.many_scans ∙ n.3.streams) n.3.declared)

pub returns-clause-records : goal.returns-clause-records
returns-clause-records c d h x next k =
    let is = next_entry d h x c.args.self.now c.args.node c.args.place next c.node_at.result.now c.entry_at-entry.result.now c.node_at.ensures c.entry_at-entry.ensures in
    kept_then d h x c.args.self.now _ c.args.node c.args.place c.entry_at-entry.result.now next is k refl refl refl
    (λ within. c.note_client.ensures.clients d.plan h _ k.clients within)
    (λ at. c.note_sending.ensures.sent c.args.node h at k.sent) c.note_sending.ensures.many
    (c.note_attach.ensures.scans d.plan c.args.node h k.scans) c.note_attach.ensures.many
