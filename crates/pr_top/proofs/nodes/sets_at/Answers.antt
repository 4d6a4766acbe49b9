use Rattle.std.proofs.Common.{◌∙◌, arith, sym}
use Rattle.pr_top.proofs.KindLists.{no_sets, node_passed, other_passed, sets_found}
use Rattle.pr_top.proofs.nodes.sets_at.Goals as goal
use Rattle.pr_top.proofs.nodes.sets_at.Goals.{then-is_kind+else-left-eq0, else-is_kind}

pub returns-then-left-eq0 : goal.returns-then-left-eq0
returns-then-left-eq0 c = c.sets_of.ensures ∙ sets_found c.args.decls.now c.loop-decl.decl-index c.decl-item.result c.loop-decl.left c.args.number (omega arith) c.decl-item.is c.loop-decl.invariant (sym c.is_kind.ensures ∙ c.if-is_kind.true) c.if-left-eq0.true

pub loop-decl-preserved : goal.loop-decl-preserved
loop-decl-preserved c = elim c.if-is_kind.branch [
  | then-is_kind+else-left-eq0 w ↦ node_passed c.args.decls.now c.loop-decl.decl-index c.decl-item.result c.loop-decl.left c.args.number (omega arith) c.decl-item.is c.loop-decl.invariant _ (sym c.is_kind.ensures ∙ w.if-is_kind.true) w.if-left-eq0.false w.left-is
  | else-is_kind w ↦ other_passed c.args.decls.now c.loop-decl.decl-index c.decl-item.result c.loop-decl.left c.args.number (omega arith) c.decl-item.is c.loop-decl.invariant _ (sym c.is_kind.ensures ∙ w.if-is_kind.false) w.left-is
]

pub returns : goal.returns
returns c = no_sets c.args.decls.now c.loop-decl.decl-index c.loop-decl.left c.args.number (omega arith) c.loop-decl.invariant
