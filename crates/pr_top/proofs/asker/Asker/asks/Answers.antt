use Rattle.std.proofs.Common.{◌+◌, List, arith, subst, sym, ◌∙◌, ℕ}
use Rattle.pr_node.specs.Stored.{means}
use Rattle.pr_top.proofs.KindLists.{IsAsking, asking_begins, asking_ends, asking_more, asking_same, has_names}
use Rattle.pr_top.proofs.asker.Asker.asks.Goals as goal
use Rattle.pr_top.proofs.asker.Asker.asks.Goals.{then-is_kind+in_ok-add, else-is_kind}

pub loop-decl-init : goal.loop-decl-init
loop-decl-init c =
    subst (λ (t : List ℕ). IsAsking c.args.decls.now (means c.args.self.now.node.now).sets c.args.self.now.number (means c.args.self.now.node.now).journal 0 0 t) (sym c.new-text.ensures)
    (asking_begins c.args.decls.now (means c.args.self.now.node.now).sets c.args.self.now.number (means c.args.self.now.node.now).journal c.requires.good)

pub add-requires-clause-some : goal.add-requires-clause-some
add-requires-clause-some c =
    has_names c.args.decls.now c.loop-decl.decl-index c.decl-item.result c.requires.good (omega arith) c.decl-item.is (sym c.is_kind.ensures ∙ c.if-is_kind.true)

pub overflow_add-number : goal.overflow_add-number
overflow_add-number c = let few = c.loop-decl.invariant.few in omega (arith, few)

pub loop-decl-preserved : goal.loop-decl-preserved
loop-decl-preserved c =
    let sets = (means c.args.self.now.node.now).sets in
    let n = c.args.self.now.number in
    let j = (means c.args.self.now.node.now).journal in
    elim c.if-is_kind.branch [
      | then-is_kind+in_ok-add w ↦ subst (λ (t : List ℕ). IsAsking c.args.decls.now sets n j (c.loop-decl.decl-index + 1) c.if-is_kind.number t) (sym w.text-is)
          (subst (λ (m : ℕ). IsAsking c.args.decls.now sets n j (c.loop-decl.decl-index + 1) m w.add.new.out) (sym w.number-is)
          (asking_more c.args.decls.now sets n j c.loop-decl.decl-index c.loop-decl.number c.loop-decl.text c.loop-decl.invariant c.decl-item.result c.loop-decl-test.true c.decl-item.is
          (sym c.is_kind.ensures ∙ w.if-is_kind.true) w.add.new.out w.in_ok-add.ensures.to w.in_ok-add.ensures.elsewhere))
      | else-is_kind w ↦ subst (λ (t : List ℕ). IsAsking c.args.decls.now sets n j (c.loop-decl.decl-index + 1) c.if-is_kind.number t) (sym w.text-is)
          (subst (λ (m : ℕ). IsAsking c.args.decls.now sets n j (c.loop-decl.decl-index + 1) m c.loop-decl.text) (sym w.number-is)
          (asking_same c.args.decls.now sets n j c.loop-decl.decl-index c.loop-decl.number c.loop-decl.text c.loop-decl.invariant c.decl-item.result c.loop-decl-test.true c.decl-item.is
          (sym c.is_kind.ensures ∙ w.if-is_kind.false)))
    ]

pub returns : goal.returns
returns c =
    asking_ends c.args.decls.now (means c.args.self.now.node.now).sets c.args.self.now.number (means c.args.self.now.node.now).journal c.loop-decl.decl-index c.loop-decl.number c.loop-decl.text c.loop-decl.invariant (omega arith)
