use Rattle.std.proofs.Common.{◌+◌, List, arith, subst, sym, ◌∙◌, ℕ}
use Rattle.pr_top.proofs.StreamLists.{IsListing, listing_begins, listing_ends, listing_more, listing_same}
use Rattle.pr_top.proofs.streams.streams_to.Goals as goal
use Rattle.pr_top.proofs.streams.streams_to.Goals.{then-is_kind+in_ok-add, else-is_kind}

pub loop-decl-init : goal.loop-decl-init
loop-decl-init c = subst (λ (t : List ℕ). IsListing c.args.decls.now c.args.node 0 0 t) (sym c.new-list.ensures) (listing_begins c.args.decls.now c.args.node c.requires)

pub overflow_add-number : goal.overflow_add-number
overflow_add-number c = let few = c.loop-decl.invariant.few in omega (arith, few)

pub loop-decl-preserved : goal.loop-decl-preserved
loop-decl-preserved c =
    let n = c.args.node in
    elim c.if-is_kind.branch [
      | then-is_kind+in_ok-add w ↦ subst (λ (t : List ℕ). IsListing c.args.decls.now n (c.loop-decl.decl-index + 1) c.if-is_kind.number t) (sym w.list-is)
          (subst (λ (m : ℕ). IsListing c.args.decls.now n (c.loop-decl.decl-index + 1) m w.add.new.list) (sym w.number-is)
          (listing_more c.args.decls.now n c.loop-decl.decl-index c.loop-decl.number c.loop-decl.list c.loop-decl.invariant c.decl-item.result c.loop-decl-test.true c.decl-item.is
          (sym c.is_kind.ensures ∙ w.if-is_kind.true) w.add.new.list w.in_ok-add.ensures.to w.in_ok-add.ensures.elsewhere))
      | else-is_kind w ↦ subst (λ (t : List ℕ). IsListing c.args.decls.now n (c.loop-decl.decl-index + 1) c.if-is_kind.number t) (sym w.list-is)
          (subst (λ (m : ℕ). IsListing c.args.decls.now n (c.loop-decl.decl-index + 1) m c.loop-decl.list) (sym w.number-is)
          (listing_same c.args.decls.now n c.loop-decl.decl-index c.loop-decl.number c.loop-decl.list c.loop-decl.invariant c.decl-item.result c.loop-decl-test.true c.decl-item.is
          (sym c.is_kind.ensures ∙ w.if-is_kind.false)))
    ]

pub returns : goal.returns
returns c = listing_ends c.args.decls.now c.args.node c.loop-decl.decl-index c.loop-decl.number c.loop-decl.list c.loop-decl.invariant (omega arith)
