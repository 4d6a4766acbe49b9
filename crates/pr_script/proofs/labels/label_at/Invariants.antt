use Rattle.std.proofs.Common.{◌≡◌, drop, get_or, []}
use Rattle.pr_script.specs.Labels.{labels_of}
use Rattle.pr_script.proofs.labels.label_at.Given as goal

abbrev pub invariant-loop-decl : goal.invariant-loop-decl
invariant-loop-decl l = get_or (labels_of l.kind (drop l.decl-index l.decls)) l.left [] ≡ get_or (labels_of l.kind l.decls) l.number []
