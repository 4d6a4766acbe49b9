-- What a flow does: the calls that it makes, the entries of these, and how it ends.
use Rattle.std.specs.Prelude.{◌≡◌, ◌≢◌, ◌⊎◌, ◌≤◌, ◌-◌, ℕ, Bool, true, false, cond, List, [], ◌∷◌, ◌++◌, Option, Some, None, Result, Ok, Err}
use Rattle.std.specs.Io.{StartsWith}
use Rattle.pr_inval.specs.declared.msg.Msg.{Msg}
use Rattle.pr_inval.specs.declared.node_fault.NodeFault.{NodeFault}
use Rattle.pr_inval.specs.declared.node_fault.NodeFault.TheVariants.{NoMemory}
use Rattle.pr_inval.specs.Standing.{SessionMeaning}
use Rattle.pr_story.specs.declared.cause.Cause.{Cause}
use Rattle.pr_story.specs.declared.cause.Cause.TheVariants.{Gap}
use Rattle.pr_story.specs.declared.entry.Entry.{Entry}
use Rattle.pr_story.specs.declared.event.Event.{Event}
use Rattle.pr_story.specs.declared.event.Event.TheVariants.{Sent, Idle, Stale, Accepted, Gapped, Down}
use Rattle.pr_story.specs.Commands.{IsNoCheckpoint}
use Rattle.pr_story.specs.Scripts.{IsFlow, IsFlowBegun}
use Rattle.pr_wire.specs.Spelling.{spelling}
use Rattle.pr_wire.specs.declared.format.Format.TheVariants.{Two}
use Rattle.pr_wires.specs.Calls.{Grows}
use Rattle.pr_flow.specs.declared.flow_end.FlowEnd.{FlowEnd}
use Rattle.pr_flow.specs.declared.flow_end.FlowEnd.TheVariants as ends
use Rattle.pr_flow.specs.Calls.{Call, HasEnded, HasNotEnded, HasNotTaken, HasNotTurned, HasTaken, HasTurned}
use Rattle.pr_flow.specs.Lies.{IsLieOf}
use Rattle.pr_flow.specs.Moving.{IsPart}

-- ---- entries

abbrev pub events_of : List Entry → List Event
events_of [] = []
events_of (e ∷ es) = e.event ∷ events_of es

abbrev pub is_at_source : Event → Bool
is_at_source (Sent m) = true
is_at_source (Idle s) = true
is_at_source (Stale s cut) = true
is_at_source _ = false

abbrev pub is_at_destination : Event → Bool
is_at_destination (Accepted m at) = true
is_at_destination (Gapped m has) = true
is_at_destination (Down s cause) = true
is_at_destination _ = false

-- the entries that the source makes, and those that the destination makes
abbrev pub at_source : List Entry → List Entry
at_source [] = []
at_source (e ∷ es) = cond (is_at_source e.event) (e ∷ at_source es) (at_source es)

abbrev pub at_destination : List Entry → List Entry
at_destination [] = []
at_destination (e ∷ es) = cond (is_at_destination e.event) (e ∷ at_destination es) (at_destination es)

-- the spellings of the messages that the destination accepted or found to lie behind a gap, in order
abbrev pub crossed : List Event → List ℕ
crossed [] = []
crossed (Accepted m at ∷ events) = spelling Two m ++ crossed events
crossed (Gapped m has ∷ events) = spelling Two m ++ crossed events
crossed (_ ∷ events) = crossed events

-- ---- events and ends

-- the flow was not cut off
abbrev pub IsWhole : Result FlowEnd NodeFault → Type 0
IsWhole (Ok (ends.Lied number sent got)) = ⊥
IsWhole (Ok end) = Unit {0}
IsWhole (Err fault) = ⊥

-- a flow of a script gives these events: it gives just them, or it was cut off
abbrev pub IsOfScript : ℕ → ℕ → List Event → Result FlowEnd NodeFault → Type 0
IsOfScript s turns events end = IsFlowBegun s turns events × (IsWhole end → IsFlow s turns events)

-- both sides and the session at some moment
pub record Sides (A B : Type 0) : Type 0 where
  pub source : A
  pub destination : B
  pub session : SessionMeaning

-- the bytes put and the bytes taken for the message that was sent last, where it was neither accepted nor found to lie
-- behind a gap
pub record Rest : Type 0 where
  pub put : List ℕ
  pub got : List ℕ

abbrev pub IsNothing : Rest → Type 0
IsNothing rest = (rest.put ≡ []) × (rest.got ≡ [])

module _ {A B : Type 0} (made_a : A → List Entry) (act_a : A → Call → Option NodeFault → A → Type 0)
    (made_b : B → List Entry) (act_b : B → Call → Option NodeFault → B → Type 0) where
  -- the call that the event says made the entry
  abbrev pub Makes : Event → Sides A B → Entry → Sides A B → Type 0
  Makes (Sent m) x e y =
      HasTurned made_a act_a x.source x.session e y.source y.session
      × (y.destination ≡ x.destination)
  Makes (Idle s) x e y =
      HasTurned made_a act_a x.source x.session e y.source y.session
      × (y.destination ≡ x.destination)
  Makes (Stale s cut) x e y =
      HasTurned made_a act_a x.source x.session e y.source y.session
      × (y.destination ≡ x.destination)
  Makes (Accepted m at) x e y =
      HasTaken made_b act_b x.destination x.session m e y.destination y.session
      × (y.source ≡ x.source)
  Makes (Gapped m has) x e y =
      HasTaken made_b act_b x.destination x.session m e y.destination y.session
      × (y.source ≡ x.source)
  Makes (Down s cause) x e y =
      HasEnded made_b act_b x.destination x.session cause e y.destination y.session
      × (y.source ≡ x.source)
  Makes _ x e y = ⊥

  -- one call after the other made the entries
  abbrev pub Calls : Sides A B → List Entry → Sides A B → Type 0
  Calls x [] y = y ≡ x
  Calls x (e ∷ es) y = (z : Sides A B) × Makes e.event x e z × Calls z es y

  -- no message is under way and so many turns are still to be made: there are none, or the next one was refused
  abbrev pub EndsAtRest : ℕ → Result FlowEnd NodeFault → Rest → Sides A B → Sides A B → Type 0
  EndsAtRest turns (Ok ends.Done) rest x y = (turns ≡ 0) × IsNothing rest × (y ≡ x)
  EndsAtRest turns (Ok _) rest x y = ⊥
  EndsAtRest turns (Err fault) rest x y =
      (1 ≤ turns) × IsNothing rest
      × HasNotTurned made_a act_a x.source x.session fault y.source y.session × (y.destination ≡ x.destination)

  -- the message was taken, and the destination refused it; the wire was cut, and the destination refused to note it; or
  -- there was no memory
  abbrev pub IsStuck : Msg → NodeFault → Rest → Sides A B → Sides A B → Type 0
  IsStuck m fault rest x y =
      ((rest.put ≡ spelling Two m) × (rest.got ≡ spelling Two m)
      × HasNotTaken made_b act_b x.destination x.session m fault y.destination y.session × (y.source ≡ x.source))
      ⊎ ((IsPart (spelling Two m) rest.put rest.got
      × ((cause : Cause) × (cause ≢ Gap)
      × HasNotEnded made_b act_b x.destination x.session cause fault y.destination y.session)
      × (y.source ≡ x.source))
      ⊎ (StartsWith (spelling Two m) rest.put × (fault ≡ NoMemory) × (y ≡ x)))

  -- the message was sent, and its bytes put, or a beginning of them: bytes were taken that do not begin it, or it is stuck
  abbrev pub EndsOnTheWay : Msg → Result FlowEnd NodeFault → Rest → Sides A B → Sides A B → Type 0
  EndsOnTheWay m (Ok (ends.Lied number sent got)) rest x y =
      IsLieOf m number sent got × StartsWith sent rest.put × (got ≡ rest.got) × (y ≡ x)
  EndsOnTheWay m (Ok _) rest x y = ⊥
  EndsOnTheWay m (Err fault) rest x y = IsStuck m fault rest x y

  -- there was a gap: that the flow went down was noted, or this was refused
  abbrev pub EndsBehindGap : ℕ → List Event → Result FlowEnd NodeFault → Rest → Sides A B → Sides A B → Type 0
  EndsBehindGap s [] (Ok end) rest x y = ⊥
  EndsBehindGap s [] (Err fault) rest x y =
      IsNothing rest × HasNotEnded made_b act_b x.destination x.session Gap fault y.destination y.session
      × (y.source ≡ x.source)
  EndsBehindGap s (event ∷ events) end rest x y =
      (event ≡ Down s Gap) × (events ≡ []) × (end ≡ Ok (ends.Down Gap)) × IsNothing rest × (y ≡ x)

  -- how a flow of stream s ends that has so many turns to make and these events; under way is a message that was sent
  -- and not yet taken
  abbrev pub Ends : ℕ → Option Msg → ℕ → List Event → Result FlowEnd NodeFault → Rest → Sides A B → Sides A B → Type 0
  Ends s None turns [] end rest x y = EndsAtRest turns end rest x y
  Ends s None turns (Idle t ∷ events) end rest x y = (1 ≤ turns) × (t ≡ s) × Ends s None (turns - 1) events end rest x y
  Ends s None turns (Stale t cut ∷ events) end rest x y =
      (1 ≤ turns) × (t ≡ s) × (events ≡ []) × (end ≡ Ok ends.Stale) × IsNothing rest × (y ≡ x)
  Ends s None turns (Sent m ∷ events) end rest x y =
      (1 ≤ turns) × (m.stream ≡ s) × IsNoCheckpoint m.kind × Ends s (Some m) (turns - 1) events end rest x y
  Ends s (Some m) turns [] end rest x y = EndsOnTheWay m end rest x y
  Ends s (Some m) turns (Accepted n at ∷ events) end rest x y = (n ≡ m) × Ends s None turns events end rest x y
  Ends s (Some m) turns (Gapped n has ∷ events) end rest x y = (n ≡ m) × EndsBehindGap s events end rest x y
  Ends s (Some m) turns (Down t cause ∷ events) end rest x y =
      (t ≡ s) × (cause ≢ Gap) × (events ≡ []) × (end ≡ Ok (ends.Down cause)) × IsPart (spelling Two m) rest.put rest.got
      × (y ≡ x)
  Ends s under_way turns _ end rest x y = ⊥

  -- a flow of stream s, with a message under way or none and so many turns to make, made these entries and ended so;
  -- what is told of the bytes given and taken grew by what crossed and the rest
  pub record HasFlowed (s : ℕ) (under_way : Option Msg) (turns : ℕ) (x y : Sides A B)
      (given_was given_now taken_was taken_now : Option (List ℕ)) (end : Result FlowEnd NodeFault) (es : List Entry)
      (rest : Rest) : Type 0 where
    pub calls : (z : Sides A B) × Calls x es z × Ends s under_way turns (events_of es) end rest z y
    pub source : made_a y.source ≡ made_a x.source ++ at_source es
    pub destination : made_b y.destination ≡ made_b x.destination ++ at_destination es
    pub given : Grows given_was given_now (crossed (events_of es) ++ rest.put)
    pub taken : Grows taken_was taken_now (crossed (events_of es) ++ rest.got)

  abbrev pub Flows : ℕ → ℕ → Sides A B → Sides A B → Option (List ℕ) → Option (List ℕ) → Option (List ℕ)
      → Option (List ℕ) → Result FlowEnd NodeFault → Type 0
  Flows s turns x y given given_now taken taken_now end =
      (es : List Entry) × (rest : Rest) × HasFlowed s None turns x y given given_now taken taken_now end es rest
      × IsOfScript s turns (events_of es) end

  -- ---- parts of a flow

  abbrev pub SomeFlow : ℕ → Option Msg → ℕ → Sides A B → Sides A B → Option (List ℕ) → Option (List ℕ)
      → Option (List ℕ) → Option (List ℕ) → Result FlowEnd NodeFault → Type 0
  SomeFlow s under_way turns x y given given_now taken taken_now end =
      (es : List Entry) × (rest : Rest) × HasFlowed s under_way turns x y given given_now taken taken_now end es rest

  -- whatever a flow does from there, with its turns left, it does from here
  abbrev pub Leads : ℕ → ℕ → ℕ → Sides A B → Sides A B → Option (List ℕ) → Option (List ℕ) → Option (List ℕ)
      → Option (List ℕ) → Type 0
  Leads s turns left x z given given_then taken taken_then =
      (y : Sides A B) (given_now taken_now : Option (List ℕ)) (end : Result FlowEnd NodeFault)
      → SomeFlow s None left z y given_then given_now taken_then taken_now end
      → SomeFlow s None turns x y given given_now taken taken_now end

  -- a turn ends the flow so, or leads on to the next turn
  abbrev pub TurnFlows : ℕ → ℕ → Sides A B → Sides A B → Option (List ℕ) → Option (List ℕ) → Option (List ℕ)
      → Option (List ℕ) → Result (Option FlowEnd) NodeFault → Type 0
  TurnFlows s turns x y given given_now taken taken_now (Ok None) =
      Leads s turns (turns - 1) x y given given_now taken taken_now
  TurnFlows s turns x y given given_now taken taken_now (Ok (Some end)) =
      SomeFlow s None turns x y given given_now taken taken_now (Ok end)
  TurnFlows s turns x y given given_now taken taken_now (Err fault) =
      SomeFlow s None turns x y given given_now taken taken_now (Err fault)
