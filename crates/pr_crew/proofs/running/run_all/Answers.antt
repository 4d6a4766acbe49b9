use Rattle.pr_crew.specs.Tasks.{HasRun}
use Rattle.pr_crew.proofs.Ran.{each_has, each_was}
use Rattle.pr_crew.proofs.running.run_all.Goals as goal

pub returns-clause-done : goal.returns-clause-done
returns-clause-done g c plan h ready k u is =
    let was = each_was c.args.tasks.now c.for_each_mut.new.s k u c.for_each_mut.auto.s is in
    let ran = each_has _ _ (HasRun g.W.Wire.state c.args.cells.now c.args.inside.now) c.args.tasks.now c.for_each_mut.new.s (λ i p q call. call) c.for_each_mut.ensures k was.0 u was.1 is in
    ran.done plan h k (ready k was.0 was.1)

pub returns-clause-stay : goal.returns-clause-stay
returns-clause-stay g c k t u at is =
    let ran = each_has _ _ (HasRun g.W.Wire.state c.args.cells.now c.args.inside.now) c.args.tasks.now c.for_each_mut.new.s (λ i p q call. call) c.for_each_mut.ensures k t u at is in
    ran.stays

pub returns-clause-sound : goal.returns-clause-sound
returns-clause-sound g c k t u at is =
    let ran = each_has _ _ (HasRun g.W.Wire.state c.args.cells.now c.args.inside.now) c.args.tasks.now c.for_each_mut.new.s (λ i p q call. call) c.for_each_mut.ensures k t u at is in
    ran.honest
