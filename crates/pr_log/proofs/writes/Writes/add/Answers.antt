use Rattle.std.proofs.Common.{rules, ◌≡◌, None, ◌∙◌}
use Rattle.pr_log.specs.Known.{at_clock}
use Rattle.pr_log.proofs.LastClocks.{latest_more_in}
use Rattle.pr_log.proofs.Rows.{none_by_test, put_up_to}
use Rattle.pr_log.proofs.writes.Writes.add.Goals as goal

pub insert-requires : goal.insert-requires
insert-requires c = none_by_test _ c.has.result (rw c.self.view_is c.has.ensures) c.if-has.false

pub invariant_of-self-in-Ok : goal.invariant_of-self-in-Ok
invariant_of-self-in-Ok c =
    let none : at_clock c.self.inside.by_clock c.clock-clock.result ≡ None = none_by_test _ c.has.result (rw c.self.view_is c.has.ensures) c.if-has.false in (
      put_up_to c.self.inside.by_clock c.insert.new.self c.args.write.now c.clock-clock.result c.self.inside.last _ (search rules) (search rules) c.in_ok-insert.ensures.ok c.self.invariant.0,
      latest_more_in c.self.inside.by_clock c.insert.new.self c.self.inside.latest c.put_latest.new.latest c.args.write.now c.clock-clock.result c.self.invariant.1 none c.in_ok-insert.ensures.ok c.in-Ok.ensures.ok,
    )

pub invariant_of-self-in-Err : goal.invariant_of-self-in-Err
invariant_of-self-in-Err c = rw (c.remove.ensures ∙ c.in_ok-insert.ensures.back, c.in-Err.ensures.err) c.self.invariant

pub returns-in-Ok-clause-few : goal.returns-in-Ok-clause-few
returns-in-Ok-clause-few c k = rw (← c.self.view_is) (c.in_ok-insert.ensures.few k)

pub returns-in-Err-clause-err : goal.returns-in-Err-clause-err
returns-in-Err-clause-err c = c.remove.ensures ∙ c.in_ok-insert.ensures.back ∙ c.self.view_is
