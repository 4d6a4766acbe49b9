use Rattle.std.proofs.Common.{◌≡◌, [], ◌∷◌, Ok, arith}
use Rattle.std.specs.Prelude.{Some}
use Rattle.pr_sim.specs.Flowing.{IsBegun, TurnsEnd}
use Rattle.pr_story.specs.Scripts.{events_of}
use Rattle.pr_sim.proofs.Faults.{this_cause}
use Rattle.pr_sim.proofs.Flows.{accepted_leads, can_go_down, gapped_begun, gapped_ends, gapped_is, not_grown, same_streams, sent_begun, still_grown}
use Rattle.pr_flow.specs.declared.flow_end.FlowEnd.{FlowEnd}
use Rattle.pr_flow.specs.Ending.{IsSoundEnd}
use Rattle.pr_flow.specs.Flows.{crossed}
use Rattle.pr_flow.specs.Sound.{AreSoundEvents}
use Rattle.pr_wire.specs.Spelling.{spelling}
use Rattle.pr_wire.specs.declared.format.Format.TheVariants.{Two}
use Rattle.pr_sim.proofs.Carrying.{none_added}
use Rattle.pr_sim.proofs.Crossing.{accepted_crosses, gapped_crosses}
use Rattle.pr_sim.proofs.Sound.{accepted_sound, gap_sound, gapped_sound}
use Rattle.pr_sim.proofs.engine.Engine.arrive.Goals as goal

pub returns-in_err-taken-clause-flowed : goal.returns-in_err-taken-clause-flowed
returns-in_err-taken-clause-flowed c d attached h k way =
    let was = c.in_err-taken.ensures d attached h k way.0 way.1 in
    not_grown d attached h (λ end es. (left : _) → TurnsEnd c.args.stream (Some c.args.msg) left left end (events_of es)) (λ es. (left : _) → IsBegun c.args.stream (Some c.args.msg) left (events_of es)) c.take_in.new.self _ c.from_residual.result c.from_residual.ensures.1
    (λ fault is. this_cause h c.in_err-taken.field-0.0 fault was.1 is) was.0 (λ left. sent_begun c.args.stream left c.args.msg)

pub go_down-requires-clause-kept : goal.go_down-requires-clause-kept
go_down-requires-clause-kept c =
    let k = c.requires.kept in
    let made = c.in_ok-taken.ensures k.0 k.1 k.2 k.3 k.4.0 k.4.1 in
    (k.0, k.1, made.0 ∷ k.2, made.1)

pub go_down-requires-clause-stream : goal.go_down-requires-clause-stream
go_down-requires-clause-stream c =
    let k = c.requires.kept in
    let made = c.in_ok-taken.ensures k.0 k.1 k.2 k.3 k.4.0 k.4.1 in
    let same = same_streams k.0 k.1 k.1 k.2 (made.0 ∷ k.2) c.args.self.now c.take_in.new.self k.3 made.1 in
    let lt = c.requires.stream in omega arith

pub returns-in_err-go_down-in-Gap-clause-flowed : goal.returns-in_err-go_down-in-Gap-clause-flowed
returns-in_err-go_down-in-Gap-clause-flowed c d attached h k way =
    let made = c.in_ok-taken.ensures d attached h k way.0 way.1 in
    let is = gapped_is c.args.msg c.in_ok-taken.taken c.in-Gap.needs c.in-Gap.has c.in-Gap.time made.0.entry c.in-Gap.is made.2 in
    let was = c.in_err-go_down-in-Gap.ensures d attached (made.0 ∷ h) made.1 (can_go_down d attached h c.take_in.new.self made.0 c.args.stream c.args.msg c.in-Gap.has made.1 is way) in
    still_grown d attached h (λ end es. (left : _) → TurnsEnd c.args.stream (Some c.args.msg) left left end (events_of es)) (λ end es. (left : _) → TurnsEnd c.args.stream (Some c.args.msg) left left end (events_of es)) (λ es. (left : _) → IsBegun c.args.stream (Some c.args.msg) left (events_of es)) c.go_down.new.self
    c.in_err-go_down-in-Gap.field-0.0 c.from_residual-in_err-go_down-in-Gap.result c.from_residual-in_err-go_down-in-Gap.ensures.1
    (made.0 ∷ [], was.0, (λ left. gapped_begun c.args.stream left c.args.msg c.in-Gap.has made.0 is), was.1)

pub returns-in-Accepted-clause-flowed : goal.returns-in-Accepted-clause-flowed
returns-in-Accepted-clause-flowed c d attached h k way =
    let made = c.in_ok-taken.ensures d attached h k way.0 way.1 in
    (made.0 ∷ [], made.1, λ left. accepted_leads c.args.stream left c.args.msg c.in_ok-taken.taken c.in-Accepted.time made.0 c.in-Accepted.is made.2)

pub returns-in_ok-go_down-in-Gap-clause-flowed : goal.returns-in_ok-go_down-in-Gap-clause-flowed
returns-in_ok-go_down-in-Gap-clause-flowed c d attached h k way =
    let made = c.in_ok-taken.ensures d attached h k way.0 way.1 in
    let is = gapped_is c.args.msg c.in_ok-taken.taken c.in-Gap.needs c.in-Gap.has c.in-Gap.time made.0.entry c.in-Gap.is made.2 in
    let then = c.in_ok-go_down-in-Gap.ensures d attached (made.0 ∷ h) made.1 (can_go_down d attached h c.take_in.new.self made.0 c.args.stream c.args.msg c.in-Gap.has made.1 is way) in
    (then.0 ∷ made.0 ∷ [], then.1, λ left. gapped_ends c.args.stream left c.args.msg c.in-Gap.has made.0 then.0 is then.2)

pub returns-in_err-taken-clause-crossed : goal.returns-in_err-taken-clause-crossed
returns-in_err-taken-clause-crossed c d attached h k way =
    none_added d attached h c.take_in.new.self (λ end es. crossed (events_of es) ≡ spelling Two c.args.msg) _ c.from_residual.result c.from_residual.ensures.1

pub returns-in_err-go_down-in-Gap-clause-crossed : goal.returns-in_err-go_down-in-Gap-clause-crossed
returns-in_err-go_down-in-Gap-clause-crossed c d attached h k way =
    none_added d attached h c.go_down.new.self (λ end es. crossed (events_of es) ≡ spelling Two c.args.msg) _ c.from_residual-in_err-go_down-in-Gap.result c.from_residual-in_err-go_down-in-Gap.ensures.1

pub returns-in-Accepted-clause-crossed : goal.returns-in-Accepted-clause-crossed
returns-in-Accepted-clause-crossed c d attached h k way =
    let made = c.in_ok-taken.ensures d attached h k way.0 way.1 in
    (made.0 ∷ [], made.1, accepted_crosses c.args.msg c.in_ok-taken.taken c.in-Accepted.time made.0 c.in-Accepted.is made.2)

pub returns-in_ok-go_down-in-Gap-clause-crossed : goal.returns-in_ok-go_down-in-Gap-clause-crossed
returns-in_ok-go_down-in-Gap-clause-crossed c d attached h k way =
    let made = c.in_ok-taken.ensures d attached h k way.0 way.1 in
    let is = gapped_is c.args.msg c.in_ok-taken.taken c.in-Gap.needs c.in-Gap.has c.in-Gap.time made.0.entry c.in-Gap.is made.2 in
    let then = c.in_ok-go_down-in-Gap.ensures d attached (made.0 ∷ h) made.1 (can_go_down d attached h c.take_in.new.self made.0 c.args.stream c.args.msg c.in-Gap.has made.1 is way) in
    (then.0 ∷ made.0 ∷ [], then.1, gapped_crosses c.args.msg c.args.stream c.in-Gap.has made.0 then.0 is then.2)

pub returns-in_err-taken-clause-sound : goal.returns-in_err-taken-clause-sound
returns-in_err-taken-clause-sound c d attached h k way =
    let was = c.in_err-taken.ensures d attached h k way.0 way.1 in
    not_grown d attached h (λ (end : FlowEnd) es. IsSoundEnd (Ok end) → AreSoundEvents es) (λ es. AreSoundEvents es) c.take_in.new.self _ c.from_residual.result c.from_residual.ensures.1 (λ fault is. this_cause h c.in_err-taken.field-0.0 fault was.1 is) was.0 tt

pub returns-in_err-go_down-in-Gap-clause-sound : goal.returns-in_err-go_down-in-Gap-clause-sound
returns-in_err-go_down-in-Gap-clause-sound c d attached h k way =
    let made = c.in_ok-taken.ensures d attached h k way.0 way.1 in
    let is = gapped_is c.args.msg c.in_ok-taken.taken c.in-Gap.needs c.in-Gap.has c.in-Gap.time made.0.entry c.in-Gap.is made.2 in
    let was = c.in_err-go_down-in-Gap.ensures d attached (made.0 ∷ h) made.1 (can_go_down d attached h c.take_in.new.self made.0 c.args.stream c.args.msg c.in-Gap.has made.1 is way) in
    still_grown d attached h (λ (end : FlowEnd) es. IsSoundEnd (Ok end) → AreSoundEvents es) (λ (end : FlowEnd) es. IsSoundEnd (Ok end) → AreSoundEvents es) (λ es. AreSoundEvents es) c.go_down.new.self c.in_err-go_down-in-Gap.field-0.0 c.from_residual-in_err-go_down-in-Gap.result c.from_residual-in_err-go_down-in-Gap.ensures.1
    (made.0 ∷ [], was.0, (gapped_sound c.args.msg c.in-Gap.has made.0 is, tt), was.1)

pub returns-in-Accepted-clause-sound : goal.returns-in-Accepted-clause-sound
returns-in-Accepted-clause-sound c d attached h k way =
    let made = c.in_ok-taken.ensures d attached h k way.0 way.1 in
    (made.0 ∷ [], made.1, λ ends. (accepted_sound c.args.msg c.in_ok-taken.taken c.in-Accepted.time made.0 c.in-Accepted.is made.2, tt))

pub returns-in_ok-go_down-in-Gap-clause-sound : goal.returns-in_ok-go_down-in-Gap-clause-sound
returns-in_ok-go_down-in-Gap-clause-sound c d attached h k way =
    let made = c.in_ok-taken.ensures d attached h k way.0 way.1 in
    let is = gapped_is c.args.msg c.in_ok-taken.taken c.in-Gap.needs c.in-Gap.has c.in-Gap.time made.0.entry c.in-Gap.is made.2 in
    let then = c.in_ok-go_down-in-Gap.ensures d attached (made.0 ∷ h) made.1 (can_go_down d attached h c.take_in.new.self made.0 c.args.stream c.args.msg c.in-Gap.has made.1 is way) in
    (then.0 ∷ made.0 ∷ [], then.1, λ ends. (gapped_sound c.args.msg c.in-Gap.has made.0 is, (gap_sound c.args.stream then.0 then.2, tt)))
