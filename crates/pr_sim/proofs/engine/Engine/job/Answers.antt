use Rattle.std.proofs.Common.{◌≡◌, ℕ, List, [], ◌∷◌, ◌∙◌, ap, subst}
use Rattle.pr_flow.specs.Downs.{GoesOver, IsUnsoundFor, flow_of}
use Rattle.pr_script.specs.declared.owner.Owner.{Owner}
use Rattle.pr_story.specs.Scripts.{FlowJob}
use Rattle.pr_text.specs.Steps.{job_of}
use Rattle.std.proofs.Common.{sym}
use Rattle.pr_sim.specs.Phasing.{asked_by}
use Rattle.pr_sim.proofs.JobParts.{client_job_ends, flow_job_ends}
use Rattle.pr_sim.proofs.Carrying.{client_adds, flow_adds}
use Rattle.pr_sim.proofs.SoundLines.{client_adds_sound}
use Rattle.pr_sim.specs.Sound.{AddsDownsOf}
use Rattle.pr_sim.proofs.WireDowns.{flow_adds_downs, flow_over, none_over, sound_adds}
use Rattle.pr_sim.proofs.engine.Engine.job.Goals as goal

pub returns-in-Client-clause-ends : goal.returns-in-Client-clause-ends
returns-in-Client-clause-ends g c d attached h k =
    client_job_ends d attached h c.client_job.new.self (asked_by c.in-Client.client c.args.inside.now) (job_of c.args.inside.now c.args.owner) c.client_job.result c.went.result
    (ap (λ (o : Owner). job_of c.args.inside.now o) c.in-Client.is) c.went.ensures (c.client_job.ensures d attached h k)

pub returns-in-Stream-clause-ends : goal.returns-in-Stream-clause-ends
returns-in-Stream-clause-ends g c d attached h k =
    flow_job_ends d attached h c.flow.new.self c.in-Stream.stream c.turns_of-turns.result (job_of c.args.inside.now c.args.owner) c.flow.result c.stopped.result
    (ap (λ (o : Owner). job_of c.args.inside.now o) c.in-Stream.is ∙ ap (λ (n : ℕ). FlowJob c.in-Stream.stream n) (sym c.turns_of-turns.ensures.turns)) c.stopped.ensures (c.flow.ensures.flowed d attached h k)

pub returns-in-Client-clause-carried : goal.returns-in-Client-clause-carried
returns-in-Client-clause-carried g c d attached h k =
    client_adds d attached h c.client_job.new.self (asked_by c.in-Client.client c.args.inside.now) (job_of c.args.inside.now c.args.owner) (g.W.Wires.carried c.args.wires.now) c.client_job.result c.went.result
    (ap (λ (o : Owner). job_of c.args.inside.now o) c.in-Client.is) c.went.ensures (c.client_job.ensures d attached h k)

pub returns-in-Stream-clause-carried : goal.returns-in-Stream-clause-carried
returns-in-Stream-clause-carried g c d attached h k =
    flow_adds d attached h c.flow.new.self (g.W.Wires.carried c.args.wires.now) (g.W.Wires.carried c.flow.new.wires) c.in-Stream.stream c.turns_of-turns.result (job_of c.args.inside.now c.args.owner) c.flow.result c.stopped.result
    (ap (λ (o : Owner). job_of c.args.inside.now o) c.in-Stream.is ∙ ap (λ (n : ℕ). FlowJob c.in-Stream.stream n) (sym c.turns_of-turns.ensures.turns)) c.stopped.ensures (c.flow.ensures.flowed d attached h k) (c.flow.ensures.carried d attached h k)

pub returns-in-Client-clause-over : goal.returns-in-Client-clause-over
returns-in-Client-clause-over g c =
    let flows : flow_of (job_of c.args.inside.now c.args.owner) ≡ [] = ap (λ (o : Owner). flow_of (job_of c.args.inside.now o)) c.in-Client.is in
    subst (λ (fs : List ℕ). GoesOver g.W.Wires.made g.W.Wires.sound fs c.args.wires.now c.args.wires.now c.went.result) (sym flows)
    (none_over g.W.Wires.faults g.W.Wires.made g.W.Wires.out g.W.Wires.sound c.args.wires.now c.client_job.result c.went.result c.went.ensures)

pub returns-in-Client-clause-downs : goal.returns-in-Client-clause-downs
returns-in-Client-clause-downs g c d attached h k =
    sound_adds (λ x. IsUnsoundFor (g.W.Wires.sound c.args.wires.now) (g.W.Wires.made c.args.wires.now) (flow_of (job_of c.args.inside.now c.args.owner)) x) d h c.client_job.new.self
    (client_adds_sound d attached h c.client_job.new.self c.in-Client.client c.args.inside.now c.client_job.result (c.client_job.ensures d attached h k))

pub returns-in-Stream-clause-over : goal.returns-in-Stream-clause-over
returns-in-Stream-clause-over g c =
    let k = c.requires.kept in
    let flows : flow_of (job_of c.args.inside.now c.args.owner) ≡ c.in-Stream.stream ∷ [] = ap (λ (o : Owner). flow_of (job_of c.args.inside.now o)) c.in-Stream.is in
    subst (λ (fs : List ℕ). GoesOver g.W.Wires.made g.W.Wires.sound fs c.args.wires.now c.flow.new.wires c.stopped.result) (sym flows)
    (flow_over g.W.Wires.faults g.W.Wires.made g.W.Wires.out g.W.Wires.sound c.in-Stream.stream c.turns_of-turns.result c.args.wires.now c.flow.new.wires k.0 k.1 k.2 c.flow.new.self c.flow.result c.stopped.result c.stopped.ensures
    (c.flow.ensures.flowed k.0 k.1 k.2 k.3) c.flow.ensures.wires)

pub returns-in-Stream-clause-downs : goal.returns-in-Stream-clause-downs
returns-in-Stream-clause-downs g c d attached h k =
    let flows : flow_of (job_of c.args.inside.now c.args.owner) ≡ c.in-Stream.stream ∷ [] = ap (λ (o : Owner). flow_of (job_of c.args.inside.now o)) c.in-Stream.is in
    subst (λ (fs : List ℕ). AddsDownsOf (λ x. IsUnsoundFor (g.W.Wires.sound c.args.wires.now) (g.W.Wires.made c.args.wires.now) fs x) d h c.flow.new.self) (sym flows)
    (flow_adds_downs g.W.Wires.faults g.W.Wires.made g.W.Wires.out g.W.Wires.sound c.in-Stream.stream c.turns_of-turns.result c.args.wires.now d attached h c.flow.new.self c.flow.result
    (c.flow.ensures.flowed d attached h k) (c.flow.ensures.sound_events d attached h k))
