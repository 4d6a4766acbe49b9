use Rattle.std.proofs.Common.{arith, sym, ◌∙◌}
use Rattle.pr_script.specs.Printing.{label_text}
use Rattle.pr_script.proofs.Spelled.{label_found, label_passed, label_skipped, label_none}
use Rattle.pr_script.proofs.labels.label_at.Goals as goal
use Rattle.pr_script.proofs.labels.label_at.Goals.{then-is_kind+else-left-eq0, else-is_kind}

pub returns-then-left-eq0 : goal.returns-then-left-eq0
unfolding label_text
returns-then-left-eq0 c = c.label_of.ensures ∙ label_found c.args.kind c.args.decls.now c.loop-decl.decl-index c.decl-item.result c.loop-decl.left _ (omega arith) c.decl-item.is (sym c.is_kind.ensures ∙ c.if-is_kind.true) c.if-left-eq0.true c.loop-decl.invariant

pub loop-decl-preserved : goal.loop-decl-preserved
loop-decl-preserved c = elim c.if-is_kind.branch [
  | then-is_kind+else-left-eq0 w ↦ label_passed c.args.kind c.args.decls.now c.loop-decl.decl-index c.decl-item.result c.loop-decl.left _ _ (omega arith) c.decl-item.is (sym c.is_kind.ensures ∙ w.if-is_kind.true) w.if-left-eq0.false w.left-is c.loop-decl.invariant
  | else-is_kind w ↦ label_skipped c.args.kind c.args.decls.now c.loop-decl.decl-index c.decl-item.result c.loop-decl.left _ _ (omega arith) c.decl-item.is (sym c.is_kind.ensures ∙ w.if-is_kind.false) w.left-is c.loop-decl.invariant
]

pub returns : goal.returns
unfolding label_text
returns c = label_none c.args.kind c.args.decls.now c.loop-decl.decl-index c.loop-decl.left _ _ (omega arith) c.as_slice.ensures c.loop-decl.invariant
