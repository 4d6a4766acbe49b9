use Rattle.std.proofs.Common.{◌≡◌, [], ◌∷◌, Ok, refl, sym, ap, subst, arith}
use Rattle.std.specs.Prelude.{Some}
use Rattle.pr_inval.specs.declared.msg.Msg.{Msg}
use Rattle.pr_flow.proofs.Growing.{is_no_beginning}
use Rattle.pr_story.specs.Scripts.{events_of}
use Rattle.pr_sim.specs.Commands.{Grows}
use Rattle.pr_sim.specs.Flowing.{IsBegun, IsOnTheWay, TurnsEnd}
use Rattle.pr_sim.proofs.Faults.{no_memory, stopped_same, this_cause}
use Rattle.pr_sim.proofs.Flows.{cut_can, cut_is_no_gap, down_is, not_grown, sent_begun}
use Rattle.pr_sim.specs.Crossing.{Crosses}
use Rattle.pr_flow.specs.declared.flow_end.FlowEnd.{FlowEnd}
use Rattle.pr_flow.specs.Ending.{IsSoundEnd}
use Rattle.pr_flow.specs.Sound.{AreSoundEvents}
use Rattle.pr_sim.proofs.Carrying.{none_added}
use Rattle.pr_sim.proofs.Crossing.{arrival_crosses, cut_crosses}
use Rattle.pr_sim.proofs.JustSent.{carried_as, is_good, on_the_way, stands_last}
use Rattle.pr_sim.proofs.OfStreams.{ends_of}
use Rattle.pr_sim.proofs.Receiving.{is_what}
use Rattle.pr_sim.proofs.Sound.{cut_unsound}
use Rattle.pr_sim.proofs.engine.Engine.cross.Goals as goal

pub last_sent-msg-requires : goal.last_sent-msg-requires
last_sent-msg-requires g c =
    let k = c.requires.kept in
    let m = k.4.0 in
    let r = ends_of k.0.plan _ _ c.args.stream c.route-source.result k.3.stands.routes (let lt = c.requires.stream in let l = k.3.stands.many in omega arith) c.route-source.ensures in
    let last = stands_last k.0 k.1 k.2 c.args.self.now c.args.stream m k.3 k.4.1 c.route-source.result.source r.0 r.2 in
    (m, last)

pub carry-requires-clause-message : goal.carry-requires-clause-message
carry-requires-clause-message g c =
    let k = c.requires.kept in
    let m = k.4.0 in
    let r = ends_of k.0.plan _ _ c.args.stream c.route-source.result k.3.stands.routes (let lt = c.requires.stream in let l = k.3.stands.many in omega arith) c.route-source.ensures in
    let last = stands_last k.0 k.1 k.2 c.args.self.now c.args.stream m k.3 k.4.1 c.route-source.result.source r.0 r.2 in
    is_what m c.last_sent-msg.result.now (c.last_sent-msg.ensures m last) (is_good k.0 k.1 k.2 c.args.self.now c.args.stream m k.3 k.4.1)

pub arrive-requires-clause-kept : goal.arrive-requires-clause-kept
arrive-requires-clause-kept g c =
    let w = g.W.Wire in
    let k = c.requires.kept in
    let m = k.4.0 in
    let r = ends_of k.0.plan _ _ c.args.stream c.route-source.result k.3.stands.routes (let lt = c.requires.stream in let l = k.3.stands.many in omega arith) c.route-source.ensures in
    let last = stands_last k.0 k.1 k.2 c.args.self.now c.args.stream m k.3 k.4.1 c.route-source.result.source r.0 r.2 in
    let moved = carried_as (w.state c.args.wire.now) (w.state c.carry.new.wire) c.last_sent-msg.result.now m _ _ (c.last_sent-msg.ensures m last) c.in-Whole.is c.in_ok-msg.ensures.moved in
    (k.0, k.1, k.2, k.3, subst (λ (y : Msg). IsOnTheWay k.2 c.args.stream y) (sym moved.0) (on_the_way k.0 k.1 k.2 c.args.self.now c.args.stream m k.3 k.4.1))

pub arrive-requires-clause-message : goal.arrive-requires-clause-message
arrive-requires-clause-message g c =
    let w = g.W.Wire in
    let k = c.requires.kept in
    let m = k.4.0 in
    let r = ends_of k.0.plan _ _ c.args.stream c.route-source.result k.3.stands.routes (let lt = c.requires.stream in let l = k.3.stands.many in omega arith) c.route-source.ensures in
    let last = stands_last k.0 k.1 k.2 c.args.self.now c.args.stream m k.3 k.4.1 c.route-source.result.source r.0 r.2 in
    let moved = carried_as (w.state c.args.wire.now) (w.state c.carry.new.wire) c.last_sent-msg.result.now m _ _ (c.last_sent-msg.ensures m last) c.in-Whole.is c.in_ok-msg.ensures.moved in
    is_what m c.in-Whole.msg moved.0 (is_good k.0 k.1 k.2 c.args.self.now c.args.stream m k.3 k.4.1)

pub go_down-requires-clause-kept : goal.go_down-requires-clause-kept
go_down-requires-clause-kept g c = let k = c.requires.kept in (k.0, k.1, k.2, k.3)

pub returns-in_err-msg-clause-flowed : goal.returns-in_err-msg-clause-flowed
returns-in_err-msg-clause-flowed g c d attached h k m just =
    not_grown d attached h (λ end es. (left : _) → TurnsEnd c.args.stream (Some m) left left end (events_of es)) (λ es. (left : _) → IsBegun c.args.stream (Some m) left (events_of es)) c.args.self.now _ c.from_residual.result c.from_residual.ensures.1
    (no_memory h) (stopped_same d attached h c.args.self.now c.args.self.now k refl refl) (λ left. sent_begun c.args.stream left m)

pub returns-in_err-go_down-in-Cut-clause-flowed : goal.returns-in_err-go_down-in-Cut-clause-flowed
returns-in_err-go_down-in-Cut-clause-flowed g c d attached h k m just =
    let w = g.W.Wire in
    let r = ends_of d.plan _ _ c.args.stream c.route-source.result k.stands.routes (let lt = c.requires.stream in let l = k.stands.many in omega arith) c.route-source.ensures in
    let same : c.last_sent-msg.result.now ≡ m = c.last_sent-msg.ensures m (stands_last d attached h c.args.self.now c.args.stream m k just c.route-source.result.source r.0 r.2) in
    let way = on_the_way d attached h c.args.self.now c.args.stream m k just in
    let moved = carried_as (w.state c.args.wire.now) (w.state c.carry.new.wire) c.last_sent-msg.result.now m _ _ same c.in-Cut.is c.in_ok-msg.ensures.moved in
    let was = c.in_err-go_down-in-Cut.ensures d attached h k (cut_can d.plan h c.args.stream c.in-Cut.cause (w.state c.args.wire.now) (w.state c.carry.new.wire) moved.0 way.2) in
    not_grown d attached h (λ end es. (left : _) → TurnsEnd c.args.stream (Some m) left left end (events_of es)) (λ es. (left : _) → IsBegun c.args.stream (Some m) left (events_of es)) c.go_down.new.self _ c.from_residual-in_err-go_down-in-Cut.result c.from_residual-in_err-go_down-in-Cut.ensures.1
    (λ fault is. this_cause h c.in_err-go_down-in-Cut.field-0.0 fault was.1 is) was.0 (λ left. sent_begun c.args.stream left m)

pub returns-in-Whole-clause-flowed : goal.returns-in-Whole-clause-flowed
returns-in-Whole-clause-flowed g c d attached h k m just =
    let w = g.W.Wire in
    let r = ends_of d.plan _ _ c.args.stream c.route-source.result k.stands.routes (let lt = c.requires.stream in let l = k.stands.many in omega arith) c.route-source.ensures in
    let same : c.last_sent-msg.result.now ≡ m = c.last_sent-msg.ensures m (stands_last d attached h c.args.self.now c.args.stream m k just c.route-source.result.source r.0 r.2) in
    let way = on_the_way d attached h c.args.self.now c.args.stream m k just in
    let moved = carried_as (w.state c.args.wire.now) (w.state c.carry.new.wire) c.last_sent-msg.result.now m _ _ same c.in-Whole.is c.in_ok-msg.ensures.moved in
    subst (λ (m : Msg). Grows (λ end es. (left : _) → TurnsEnd c.args.stream (Some m) left left end (events_of es)) (λ es. (left : _) → IsBegun c.args.stream (Some m) left (events_of es)) d attached h c.arrive.new.self c.arrive.result) moved.0
    (c.arrive.ensures.flowed d attached h k (subst (λ (m : Msg). IsOnTheWay h c.args.stream m) (sym moved.0) way))

pub returns-in_ok-go_down-in-Cut-clause-flowed : goal.returns-in_ok-go_down-in-Cut-clause-flowed
returns-in_ok-go_down-in-Cut-clause-flowed g c d attached h k m just =
    let w = g.W.Wire in
    let r = ends_of d.plan _ _ c.args.stream c.route-source.result k.stands.routes (let lt = c.requires.stream in let l = k.stands.many in omega arith) c.route-source.ensures in
    let same : c.last_sent-msg.result.now ≡ m = c.last_sent-msg.ensures m (stands_last d attached h c.args.self.now c.args.stream m k just c.route-source.result.source r.0 r.2) in
    let way = on_the_way d attached h c.args.self.now c.args.stream m k just in
    let moved = carried_as (w.state c.args.wire.now) (w.state c.carry.new.wire) c.last_sent-msg.result.now m _ _ same c.in-Cut.is c.in_ok-msg.ensures.moved in
    let made = c.in_ok-go_down-in-Cut.ensures d attached h k (cut_can d.plan h c.args.stream c.in-Cut.cause (w.state c.args.wire.now) (w.state c.carry.new.wire) moved.0 way.2) in
    (made.0 ∷ [], made.1, λ left. down_is c.args.stream left m c.in-Cut.cause made.0 (cut_is_no_gap c.in-Cut.cause (w.state c.args.wire.now) (w.state c.carry.new.wire) moved.0) made.2)

pub returns-in-Lied-clause-flowed : goal.returns-in-Lied-clause-flowed
returns-in-Lied-clause-flowed g c d attached h k m just =
    let w = g.W.Wire in
    let r = ends_of d.plan _ _ c.args.stream c.route-source.result k.stands.routes (let lt = c.requires.stream in let l = k.stands.many in omega arith) c.route-source.ensures in
    let same : c.last_sent-msg.result.now ≡ m = c.last_sent-msg.ensures m (stands_last d attached h c.args.self.now c.args.stream m k just c.route-source.result.source r.0 r.2) in
    let way = on_the_way d attached h c.args.self.now c.args.stream m k just in
    let moved = carried_as (w.state c.args.wire.now) (w.state c.carry.new.wire) c.last_sent-msg.result.now m _ _ same c.in-Lied.is c.in_ok-msg.ensures.moved in
    ([], k, λ left. (sent_begun c.args.stream left m, (m, way.1, (ap (λ (y : Msg). y.number) (sym same), moved.0, is_no_beginning (w.state c.args.wire.now) (w.state c.carry.new.wire) c.in-Lied.sent c.in-Lied.got c.requires.under moved.1), ([], refl))))

pub returns-in_err-msg-clause-crossed : goal.returns-in_err-msg-clause-crossed
returns-in_err-msg-clause-crossed g c d attached h k m just =
    let w = g.W.Wire in
    none_added d attached h c.args.self.now (λ end es. Crosses (w.state c.args.wire.now) (w.state c.carry.new.wire) c.args.stream (Some m) end (events_of es)) _ c.from_residual.result c.from_residual.ensures.1

pub returns-in_err-go_down-in-Cut-clause-crossed : goal.returns-in_err-go_down-in-Cut-clause-crossed
returns-in_err-go_down-in-Cut-clause-crossed g c d attached h k m just =
    let w = g.W.Wire in
    none_added d attached h c.go_down.new.self (λ end es. Crosses (w.state c.args.wire.now) (w.state c.carry.new.wire) c.args.stream (Some m) end (events_of es)) _ c.from_residual-in_err-go_down-in-Cut.result c.from_residual-in_err-go_down-in-Cut.ensures.1

pub returns-in-Whole-clause-crossed : goal.returns-in-Whole-clause-crossed
returns-in-Whole-clause-crossed g c d attached h k m just =
    let w = g.W.Wire in
    let r = ends_of d.plan _ _ c.args.stream c.route-source.result k.stands.routes (let lt = c.requires.stream in let l = k.stands.many in omega arith) c.route-source.ensures in
    let same : c.last_sent-msg.result.now ≡ m = c.last_sent-msg.ensures m (stands_last d attached h c.args.self.now c.args.stream m k just c.route-source.result.source r.0 r.2) in
    let way = on_the_way d attached h c.args.self.now c.args.stream m k just in
    let moved = carried_as (w.state c.args.wire.now) (w.state c.carry.new.wire) c.last_sent-msg.result.now m _ _ same c.in-Whole.is c.in_ok-msg.ensures.moved in
    arrival_crosses d attached h c.arrive.new.self (w.state c.args.wire.now) (w.state c.carry.new.wire) c.args.stream m c.in-Whole.msg moved.0 moved.1.taken c.arrive.result c.arrive.ensures.end
    (c.arrive.ensures.crossed d attached h k (subst (λ (m : Msg). IsOnTheWay h c.args.stream m) (sym moved.0) way))

pub returns-in_ok-go_down-in-Cut-clause-crossed : goal.returns-in_ok-go_down-in-Cut-clause-crossed
returns-in_ok-go_down-in-Cut-clause-crossed g c d attached h k m just =
    let w = g.W.Wire in
    let r = ends_of d.plan _ _ c.args.stream c.route-source.result k.stands.routes (let lt = c.requires.stream in let l = k.stands.many in omega arith) c.route-source.ensures in
    let same : c.last_sent-msg.result.now ≡ m = c.last_sent-msg.ensures m (stands_last d attached h c.args.self.now c.args.stream m k just c.route-source.result.source r.0 r.2) in
    let way = on_the_way d attached h c.args.self.now c.args.stream m k just in
    let moved = carried_as (w.state c.args.wire.now) (w.state c.carry.new.wire) c.last_sent-msg.result.now m _ _ same c.in-Cut.is c.in_ok-msg.ensures.moved in
    let made = c.in_ok-go_down-in-Cut.ensures d attached h k (cut_can d.plan h c.args.stream c.in-Cut.cause (w.state c.args.wire.now) (w.state c.carry.new.wire) moved.0 way.2) in
    (made.0 ∷ [], made.1, cut_crosses c.args.stream m c.in-Cut.cause (w.state c.args.wire.now) (w.state c.carry.new.wire) made.0 c.requires.under moved.0 moved.1 made.2)

pub returns-in-Lied-clause-crossed : goal.returns-in-Lied-clause-crossed
returns-in-Lied-clause-crossed g c d attached h k m just =
    let w = g.W.Wire in
    let r = ends_of d.plan _ _ c.args.stream c.route-source.result k.stands.routes (let lt = c.requires.stream in let l = k.stands.many in omega arith) c.route-source.ensures in
    let same : c.last_sent-msg.result.now ≡ m = c.last_sent-msg.ensures m (stands_last d attached h c.args.self.now c.args.stream m k just c.route-source.result.source r.0 r.2) in
    let way = on_the_way d attached h c.args.self.now c.args.stream m k just in
    let moved = carried_as (w.state c.args.wire.now) (w.state c.carry.new.wire) c.last_sent-msg.result.now m _ _ same c.in-Lied.is c.in_ok-msg.ensures.moved in
    ([], k, (c.in-Lied.got, moved.1.1.taken, refl))

pub returns-in_err-msg-clause-sound : goal.returns-in_err-msg-clause-sound
returns-in_err-msg-clause-sound g c d attached h k m just =
    not_grown d attached h (λ (end : FlowEnd) es. IsSoundEnd (Ok end) → AreSoundEvents es) (λ es. AreSoundEvents es) c.args.self.now _ c.from_residual.result c.from_residual.ensures.1 (no_memory h) (stopped_same d attached h c.args.self.now c.args.self.now k refl refl) tt

pub returns-in_err-go_down-in-Cut-clause-sound : goal.returns-in_err-go_down-in-Cut-clause-sound
returns-in_err-go_down-in-Cut-clause-sound g c d attached h k m just =
    let w = g.W.Wire in
    let r = ends_of d.plan _ _ c.args.stream c.route-source.result k.stands.routes (let lt = c.requires.stream in let l = k.stands.many in omega arith) c.route-source.ensures in
    let same : c.last_sent-msg.result.now ≡ m = c.last_sent-msg.ensures m (stands_last d attached h c.args.self.now c.args.stream m k just c.route-source.result.source r.0 r.2) in
    let way = on_the_way d attached h c.args.self.now c.args.stream m k just in
    let moved = carried_as (w.state c.args.wire.now) (w.state c.carry.new.wire) c.last_sent-msg.result.now m _ _ same c.in-Cut.is c.in_ok-msg.ensures.moved in
    let was = c.in_err-go_down-in-Cut.ensures d attached h k (cut_can d.plan h c.args.stream c.in-Cut.cause (w.state c.args.wire.now) (w.state c.carry.new.wire) moved.0 way.2) in
    not_grown d attached h (λ (end : FlowEnd) es. IsSoundEnd (Ok end) → AreSoundEvents es) (λ es. AreSoundEvents es) c.go_down.new.self _ c.from_residual-in_err-go_down-in-Cut.result c.from_residual-in_err-go_down-in-Cut.ensures.1
    (λ fault is. this_cause h c.in_err-go_down-in-Cut.field-0.0 fault was.1 is) was.0 tt

pub returns-in-Whole-clause-sound : goal.returns-in-Whole-clause-sound
returns-in-Whole-clause-sound g c d attached h k m just =
    let w = g.W.Wire in
    let r = ends_of d.plan _ _ c.args.stream c.route-source.result k.stands.routes (let lt = c.requires.stream in let l = k.stands.many in omega arith) c.route-source.ensures in
    let same : c.last_sent-msg.result.now ≡ m = c.last_sent-msg.ensures m (stands_last d attached h c.args.self.now c.args.stream m k just c.route-source.result.source r.0 r.2) in
    let way = on_the_way d attached h c.args.self.now c.args.stream m k just in
    let moved = carried_as (w.state c.args.wire.now) (w.state c.carry.new.wire) c.last_sent-msg.result.now m _ _ same c.in-Whole.is c.in_ok-msg.ensures.moved in
    c.arrive.ensures.sound d attached h k (subst (λ (m : Msg). IsOnTheWay h c.args.stream m) (sym moved.0) way)

pub returns-in_ok-go_down-in-Cut-clause-sound : goal.returns-in_ok-go_down-in-Cut-clause-sound
returns-in_ok-go_down-in-Cut-clause-sound g c d attached h k m just =
    let w = g.W.Wire in
    let r = ends_of d.plan _ _ c.args.stream c.route-source.result k.stands.routes (let lt = c.requires.stream in let l = k.stands.many in omega arith) c.route-source.ensures in
    let same : c.last_sent-msg.result.now ≡ m = c.last_sent-msg.ensures m (stands_last d attached h c.args.self.now c.args.stream m k just c.route-source.result.source r.0 r.2) in
    let way = on_the_way d attached h c.args.self.now c.args.stream m k just in
    let moved = carried_as (w.state c.args.wire.now) (w.state c.carry.new.wire) c.last_sent-msg.result.now m _ _ same c.in-Cut.is c.in_ok-msg.ensures.moved in
    let made = c.in_ok-go_down-in-Cut.ensures d attached h k (cut_can d.plan h c.args.stream c.in-Cut.cause (w.state c.args.wire.now) (w.state c.carry.new.wire) moved.0 way.2) in
    (made.0 ∷ [], made.1, λ ends. absurd (cut_unsound c.in-Cut.cause (w.state c.args.wire.now) (w.state c.carry.new.wire) moved.0 ends))

pub returns-in-Lied-clause-sound : goal.returns-in-Lied-clause-sound
returns-in-Lied-clause-sound g c d attached h k m just = ([], k, λ ends. absurd ends)
