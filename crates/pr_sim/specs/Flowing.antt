-- A flow in one thread.
use Rattle.std.specs.Prelude.{ℕ, List, [], ◌∷◌, ◌++◌, ◌≡◌, ◌<◌, ◌≤◌, ◌+◌, ◌^◌, Bool, true, ◌&&◌, IsTrue, Option, None, Result, Ok, Err, reverse}
use Rattle.pr_inval.specs.declared.msg.Msg.{Msg}
use Rattle.pr_inval.specs.declared.node_fault.NodeFault.{NodeFault}
use Rattle.pr_flow.specs.declared.flow_end.FlowEnd.{FlowEnd}
use Rattle.pr_flow.specs.declared.flow_end.FlowEnd.TheVariants as ends
use Rattle.pr_flow.specs.declared.stop.Stop.{Stop}
use Rattle.pr_flow.specs.declared.stop.Stop.TheVariants as stops
use Rattle.pr_flow.specs.Crossing.{from_way}
use Rattle.pr_flow.specs.Ending.{EndsByWire}
use Rattle.pr_flow.specs.Lies.{IsLied, IsLieOf, IsNoLie}
use Rattle.pr_story.specs.declared.cause.Cause.{Cause}
use Rattle.pr_story.specs.declared.cause.Cause.TheVariants.{Gap}
use Rattle.pr_story.specs.declared.cause.Cause.TheVariants as causes
use Rattle.pr_story.specs.declared.event.Event.{Event}
use Rattle.pr_story.specs.declared.event.Event.TheVariants.{Down, Sent}
use Rattle.pr_story.specs.History.{NodeEntry, Plan, WasSent, journal}
use Rattle.pr_story.specs.Lawful.{HasCause, is_after_gap}
use Rattle.pr_story.specs.Scripts.{AreTurns, Flow, JobAfterJob, LineBegins}
use Rattle.pr_story.specs.Turns.{IsAttached}
use Rattle.pr_wires.specs.Calls.{WireState}
use Rattle.pr_sim.specs.Commands.{Ends, attached_of}
use Rattle.pr_sim.specs.Running.{IsRunning, Tells}
use Rattle.pr_story.specs.Counts.{Declared}
use Rattle.pr_sim.specs.declared.engine.Engine.{Engine}

-- ---- the end of a flow

-- the stream's destination may note that its flow goes down for this cause
abbrev pub CanGoDown : Plan → List NodeEntry → ℕ → Cause → Type 0
CanGoDown plan h s cause = HasCause h (plan.stream s).destination (Down s cause)

-- the cause may be told, where the destination's last event of the stream is a gap or is none
abbrev pub may_go_down : Cause → Bool → Bool
may_go_down Gap after = after
may_go_down causes.Failed after = true
may_go_down causes.Ended after = true

-- whether the flow of stream s may go down for it, where these streams are attached
abbrev pub goes_down : Declared → (ℕ → Bool) → List NodeEntry → ℕ → Cause → Bool
goes_down d attached h s cause = attached s && may_go_down cause (is_after_gap (journal h (d.plan.stream s).destination) s)

abbrev pub IsDownMade : ℕ → Cause → Unit {0} → NodeEntry → Type 0
IsDownMade s cause done made = made.entry.event ≡ Down s cause

-- ---- turns

-- the events begin so many turns of stream s; under way is a message that was sent and not yet taken
abbrev pub IsBegun : ℕ → Option Msg → ℕ → List Event → Type 0
IsBegun s under_way turns events = (rest : List Event) × AreTurns s under_way turns (events ++ rest)

-- the events, and then those of the turns that are left, are those of all the turns
abbrev pub LeadsTo : ℕ → Option Msg → ℕ → ℕ → List Event → Type 0
LeadsTo s under_way turns left events = (rest : List Event) → AreTurns s None left rest → AreTurns s under_way turns (events ++ rest)

-- they end with the message of this number, of stream s, for which these other bytes came
abbrev pub EndsInLie : ℕ → Option Msg → ℕ → List ℕ → List ℕ → List Event → Type 0
EndsInLie s under_way number sent got events =
    (msg : Msg) × (msg.stream ≡ s) × IsLieOf msg number sent got × ((before : List Event) × (from_way under_way events ≡ before ++ Sent msg ∷ []))

-- the events are those of so many turns that ended so, with so many left where the flow goes on
abbrev pub TurnsEnd : ℕ → Option Msg → ℕ → ℕ → FlowEnd → List Event → Type 0
TurnsEnd s under_way turns left ends.Done events = LeadsTo s under_way turns left events
TurnsEnd s under_way turns left (ends.Lied number sent got) events = IsBegun s under_way turns events × EndsInLie s under_way number sent got events
TurnsEnd s under_way turns left end events = AreTurns s under_way turns events

-- the message was sent on this attached stream
abbrev pub IsOnTheWay : List NodeEntry → ℕ → Msg → Type 0
IsOnTheWay h s msg = WasSent h msg × (msg.stream ≡ s) × IsAttached h s

-- it was, in what the engine has run
abbrev pub IsUnderWay : Engine → ℕ → Msg → Type 0
IsUnderWay e s msg = (d : Declared) × (attached : ℕ → Bool) × (h : List NodeEntry) × IsRunning d attached h e × IsOnTheWay h s msg

-- the newest entry sends this message of the stream
abbrev pub IsJustSent : List NodeEntry → ℕ → Msg → Type 0
IsJustSent h s msg = (sent : NodeEntry) × (before : List NodeEntry) × (h ≡ sent ∷ before) × (sent.entry.event ≡ Sent msg) × (msg.stream ≡ s)

-- that of what the engine has run sends one
abbrev pub HasJustSent : Engine → ℕ → Type 0
HasJustSent e s = (d : Declared) × (attached : ℕ → Bool) × (h : List NodeEntry) × IsRunning d attached h e × ((msg : Msg) × IsJustSent h s msg)

-- a message that came was accepted, or the flow went down behind a gap
abbrev pub IsArrival : Result FlowEnd NodeFault → Type 0
IsArrival (Ok ends.Done) = Unit {0}
IsArrival (Ok (ends.Down Gap)) = Unit {0}
IsArrival (Ok end) = ⊥
IsArrival (Err fault) = Unit {0}

-- ---- wires

-- how a turn ended by its wire, which still tells what it holds if it did
abbrev pub MovesOn : WireState → WireState → Result FlowEnd NodeFault → Type 0
MovesOn a b end = EndsByWire a b end × (b.held ≡ None → a.held ≡ None)

-- nothing is under way, and no count fell
pub record WireGoesOn (a b : WireState) : Type 0 where
  pub faults : a.faults ≤ b.faults
  pub ends : a.ends ≤ b.ends
  pub sound : IsTrue a.sound → IsTrue b.sound
  pub held : b.held ≡ None → a.held ≡ None
  pub under : b.under ≡ 0

-- a further connection may be asked for
abbrev pub AreFewWires : ℕ → Type 0
AreFewWires made = made < 2 ^ 40

-- ---- a whole flow

-- what a step answers of a flow that ended so
abbrev pub StopsSo : ℕ → FlowEnd → Stop → Type 0
StopsSo s (ends.Lied number sent got) stop = stop ≡ stops.Lied s number sent got
StopsSo s end stop = stop ≡ stops.Went

-- the flow was made, or has begun
abbrev pub FlowEndsSo : ℕ → ℕ → Declared → (ℕ → Bool) → List NodeEntry → Engine → Result Stop NodeFault → Type 0
FlowEndsSo s turns d attached h e (Ok stops.Went) = Ends (Flow s turns) d attached h e (Ok tt)
FlowEndsSo s turns d attached h e (Ok (stops.Lied t number sent got)) =
    (t ≡ s) × ((new : List NodeEntry) × Tells d (new ++ h) e × LineBegins JobAfterJob (attached_of d attached) (Flow s turns) (reverse new) × IsLied (new ++ h) t number sent got)
FlowEndsSo s turns d attached h e (Ok (stops.Worn at)) = ⊥
FlowEndsSo s turns d attached h e (Err fault) = Ends (Flow s turns) d attached h e (Err fault)

module _ {W : Type 0} (faults made out : W → ℕ) (sound : W → ℕ → Bool) where
  -- one connection was asked for and none is out for it; a sound one gives no other bytes than were put
  pub record StopsByWires (before now : W) (stop : Result Stop NodeFault) : Type 0 where
    pub one_more : made now ≡ made before + 1
    pub none_out : out now ≡ out before
    pub faults_rise : faults before ≤ faults now
    pub same_sound : sound now ≡ sound before
    pub no_lie : IsTrue (sound before (made before + 1)) → IsNoLie stop
