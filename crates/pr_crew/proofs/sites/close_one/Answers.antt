use Rattle.std.proofs.Common.{ap, sym, subst}
use Rattle.pr_merge.specs.Holding.{HeldState}
use Rattle.pr_node.specs.Stored.{Stored}
use Rattle.pr_crew.specs.Sites.{IsClosed}
use Rattle.pr_crew.proofs.Closing.{closed_so}
use Rattle.pr_crew.proofs.sites.close_one.Goals as goal

pub returns-clause-closed : goal.returns-clause-closed
returns-clause-closed g c = (
  c.into_node.result,
  ap (λ (s : HeldState Stored). s.nodes) c.give_node.ensures.state,
  λ plan h of. subst (λ (m : Stored). IsClosed plan h c.args.node c.args.root m) (sym c.into_node.ensures)
      (closed_so plan h c.args.node c.args.cell c.args.root c.close.result c.requires.pass.0 c.close.ensures.seen c.close.ensures.numbers of),
)
