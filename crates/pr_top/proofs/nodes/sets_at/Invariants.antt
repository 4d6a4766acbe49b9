use Rattle.std.proofs.Common.{◌≡◌, get_or}
use Rattle.std.specs.Prelude.{filter}
use Rattle.pr_script.specs.declared.kind.Kind.TheVariants as kinds
use Rattle.pr_script.specs.Labels.{is_kind}
use Rattle.pr_text.specs.Transcripts.{no_decl}
use Rattle.pr_top.proofs.KindLists.{left_of}
use Rattle.pr_top.proofs.nodes.sets_at.Given as goal

-- the node is so many behind those that were passed
abbrev pub invariant-loop-decl : goal.invariant-loop-decl
invariant-loop-decl l = get_or (left_of kinds.Node l.decls l.decl-index) l.left no_decl ≡ get_or (filter (is_kind kinds.Node) l.decls) l.number no_decl
