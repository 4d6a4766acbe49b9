use Rattle.std.proofs.Common.{◌≡◌, ◌∙◌, List, ap, arith, reverse, subst, sym}
use Rattle.pr_inval.specs.declared.node_fault.NodeFault.{NodeFault}
use Rattle.pr_names.specs.Span.{Span}
use Rattle.pr_node.specs.Calls.{IsFault, IsTimeWorn}
use Rattle.pr_node.specs.Rebuilding.{IsOfNode}
use Rattle.pr_node.specs.Stored.{NodeMeaning, means}
use Rattle.pr_script.specs.declared.decl.Decl.{Decl}
use Rattle.pr_script.specs.declared.kind.Kind.TheVariants as kinds
use Rattle.pr_sets.specs.Sets.{AreApart}
use Rattle.pr_sim.proofs.Makings.{count_is}
use Rattle.pr_story.specs.declared.entry.Entry.{Entry}
use Rattle.pr_text.specs.Transcripts.{plan_of}
use Rattle.pr_top.proofs.Resumed.{journal_told, not_worn, rebuilt_is, sets_apart}
use Rattle.pr_top.proofs.resuming.stated.Goals as goal

pub rebuild-requires-clause-apart : goal.rebuild-requires-clause-apart
rebuild-requires-clause-apart c =
    let ds = c.args.decls.now.list in
    let many = count_is kinds.Node ds in
    let own : c.in_ok-sets.sets ≡ (plan_of ds).sets c.args.number =
    c.in_ok-sets.ensures ∙ c.sets_at.ensures ∙ ap (λ (xs : List Decl). (plan_of xs).sets c.args.number) c.as_slice.ensures in
    subst (λ (sets : List (List Span)). AreApart sets) (sym own) (sets_apart ds c.args.number c.requires.good (omega (arith, many, c.requires.known)))

pub rebuild-requires-clause-told : goal.rebuild-requires-clause-told
rebuild-requires-clause-told c =
    let can = c.requires.held.1 in
    subst (λ (j : List Entry). IsOfNode c.args.number j) (sym c.requires.held.2)
    (journal_told (plan_of c.args.decls.now.list) c.requires.held.0 c.args.number can.is.valid can.keepable (omega (arith, can.few)))

pub unreachable-requires : goal.unreachable-requires
unreachable-requires c =
    let ds = c.args.decls.now.list in
    let h = c.requires.held.0 in
    let own : c.in_ok-sets.sets ≡ (plan_of ds).sets c.args.number =
    c.in_ok-sets.ensures ∙ c.sets_at.ensures ∙ ap (λ (xs : List Decl). (plan_of xs).sets c.args.number) c.as_slice.ensures in
    let is = rebuilt_is (plan_of ds) h c.args.number c.in_ok-sets.sets (reverse c.args.entries.items) (means c.in_ok-node.node) c.in_ok-node.ensures own c.requires.held.2 in
    let worn = subst (λ (f : NodeFault). IsFault (means c.in_ok-node.node) (means c.state.new.self) (IsTimeWorn (means c.in_ok-node.node) 0) f) c.in-Err-Worn.field-0-is c.in-Err-Worn.ensures.fault in
    not_worn ds h c.args.number c.requires.held.1 (subst (λ (m : NodeMeaning). IsTimeWorn m 0) is worn.2)
