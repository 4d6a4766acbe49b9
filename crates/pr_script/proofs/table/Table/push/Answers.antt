use Rattle.std.proofs.Common.{sym}
use Rattle.pr_script.specs.declared.kind.Kind.TheVariants as kinds
use Rattle.pr_script.proofs.Positions.{key_is_new, node_pushed, client_pushed, stream_pushed}
use Rattle.pr_script.proofs.table.Table.push.Goals as goal

pub add-requires-clause-new : goal.add-requires-clause-new
add-requires-clause-new c = key_is_new kinds.Node _ _ _ c.requires.label (rw (← c.self.view_is) at c.requires.undeclared) c.self.invariant.each c.self.invariant.of_nodes

pub invariant_of-self : goal.invariant_of-self
invariant_of-self c = node_pushed c.add.result _ _ _ _ _ _ _ (sym c.in-Node.ensures) c.requires.label (rw (← c.self.view_is) at c.requires.few) c.self.invariant (c.add.ensures.ok, c.add.ensures.key, c.add.ensures.err, c.add.ensures.no_key)

pub add-requires-in-Client-clause-new : goal.add-requires-in-Client-clause-new
add-requires-in-Client-clause-new c = key_is_new kinds.Client _ _ _ c.requires.label (rw (← c.self.view_is) at c.requires.undeclared) c.self.invariant.each c.self.invariant.of_clients

pub invariant_of-self-in-Client : goal.invariant_of-self-in-Client
invariant_of-self-in-Client c = client_pushed c.add-in-Client.result _ _ _ _ _ _ _ (sym c.in-Client.ensures) c.requires.label (rw (← c.self.view_is) at c.requires.few) c.self.invariant (c.add-in-Client.ensures.ok, c.add-in-Client.ensures.key, c.add-in-Client.ensures.err, c.add-in-Client.ensures.no_key)

pub add-requires-in-Stream-clause-new : goal.add-requires-in-Stream-clause-new
add-requires-in-Stream-clause-new c = key_is_new kinds.Stream _ _ _ c.requires.label (rw (← c.self.view_is) at c.requires.undeclared) c.self.invariant.each c.self.invariant.of_streams

pub invariant_of-self-in-Stream : goal.invariant_of-self-in-Stream
invariant_of-self-in-Stream c = stream_pushed c.add-in-Stream.result _ _ _ _ _ _ _ (sym c.in-Stream.ensures) c.requires.label (rw (← c.self.view_is) at c.requires.few) c.self.invariant (c.add-in-Stream.ensures.ok, c.add-in-Stream.ensures.key, c.add-in-Stream.ensures.err, c.add-in-Stream.ensures.no_key)
