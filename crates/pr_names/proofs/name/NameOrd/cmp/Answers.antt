use Rattle.std.proofs.Common.{◌∙◌}
use Rattle.pr_names.proofs.Spelled.{padded_order}
use Rattle.pr_names.proofs.name.NameOrd.cmp.Goals as goal

pub returns : goal.returns
returns c =
    rw (← c.self.view_is, ← c.other.view_is) (
    c.order.ensures ∙ padded_order c.self.inside.bytes c.other.inside.bytes c.self.inside.len c.other.inside.len c.self.invariant c.other.invariant)
