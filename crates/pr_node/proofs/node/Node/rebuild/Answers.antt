use Rattle.std.proofs.Common.{List, reverse, subst, sym}
use Rattle.pr_story.specs.declared.entry.Entry.{Entry}
use Rattle.pr_node.specs.Ties.{IsTied}
use Rattle.pr_node.proofs.Rebuilt.{early}
use Rattle.pr_node.proofs.node.Node.rebuild.Goals as goal

pub of-requires : goal.of-requires
of-requires c = early c.args.id (reverse c.args.journal.items) c.requires.told

pub invariant_of-result : goal.invariant_of-result
invariant_of-result c = (
  c.requires.id,
  λ works. subst (λ (es : List Entry). IsTied c.args.id (reverse es) c.in_ok-stores.stores) (sym c.of.ensures.items) c.in_ok-stores.ensures.tied,
)
