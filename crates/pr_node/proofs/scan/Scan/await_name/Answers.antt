use Rattle.std.proofs.Common.{◌≡◌, refl, sym, ◌∙◌, subst}
use Rattle.std.specs.Prelude.{false}
use Rattle.pr_marks.specs.Table.{is_after}
use Rattle.pr_node.specs.Scanning.{Scanned}
use Rattle.pr_node.proofs.Waiting.{is_passed, name_awaited}
use Rattle.pr_node.proofs.scan.Scan.await_name.Goals as goal

pub returns-in_ok-insert-clause-ok : goal.returns-in_ok-insert-clause-ok
returns-in_ok-insert-clause-ok c = rw (← c.self.view_is) (name_awaited _ _ c.args.names.now c.args.name.now c.self.inside.waiting c.insert.new.self c.in_ok-insert.ensures.updates refl refl
    (sym c.has.ensures ∙ c.if-has.true)
    (subst (λ (x : Scanned). is_after x.last c.args.name.now ≡ false) (sym c.self.view_is)
    (is_passed (is_after c.args.self.now.last c.args.name.now) c.has_passed.result c.has_passed.ensures c.if-has_passed.true)))
