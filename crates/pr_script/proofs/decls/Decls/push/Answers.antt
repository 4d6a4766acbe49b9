use Rattle.std.proofs.Common.{sym, ◌∙◌}
use Rattle.pr_script.proofs.ByNumber.{node_listed, client_listed, stream_listed}
use Rattle.pr_script.proofs.decls.Decls.push.Goals as goal

pub invariant_of-self : goal.invariant_of-self
invariant_of-self c =
    node_listed c.add.result _ _ _ _ _ _ _ _ (sym c.in-Node.ensures) (c.in_ok-label.ensures ∙ c.label_of.ensures) c.self.invariant (c.add.ensures.ok, c.add.ensures.label, c.add.ensures.err, c.add.ensures.no_label)

pub invariant_of-self-in-Client : goal.invariant_of-self-in-Client
invariant_of-self-in-Client c =
    client_listed c.add-in-Client.result _ _ _ _ _ _ _ _ (sym c.in-Client.ensures) (c.in_ok-label.ensures ∙ c.label_of.ensures) c.self.invariant (c.add-in-Client.ensures.ok, c.add-in-Client.ensures.label, c.add-in-Client.ensures.err, c.add-in-Client.ensures.no_label)

pub invariant_of-self-in-Stream : goal.invariant_of-self-in-Stream
invariant_of-self-in-Stream c =
    stream_listed c.add-in-Stream.result _ _ _ _ _ _ _ _ (sym c.in-Stream.ensures) (c.in_ok-label.ensures ∙ c.label_of.ensures) c.self.invariant (c.add-in-Stream.ensures.ok, c.add-in-Stream.ensures.label, c.add-in-Stream.ensures.err, c.add-in-Stream.ensures.no_label)
