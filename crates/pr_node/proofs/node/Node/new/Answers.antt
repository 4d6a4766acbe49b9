use Rattle.std.proofs.Common.{List, ap, reverse, subst, sym}
use Rattle.pr_story.specs.declared.entry.Entry.{Entry}
use Rattle.pr_node.specs.Ties.{IsTied}
use Rattle.pr_node.proofs.node.Node.new.Goals as goal

pub invariant_of-result : goal.invariant_of-result
invariant_of-result c = (
  c.requires.id,
  λ works. subst (λ (j : List Entry). IsTied c.args.id j c.in_ok-stores.stores) (sym (ap reverse c.new.ensures.items)) c.in_ok-stores.ensures.tied,
)
