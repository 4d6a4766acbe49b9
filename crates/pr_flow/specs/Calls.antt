-- What the calls on a side are given, and which entry each makes.
use Rattle.std.specs.Prelude.{◌≡◌, ◌≤◌, ℕ, List, [], ◌∷◌, ◌++◌, Option, Some, None, Result, Ok, Err}
use Rattle.pr_inval.specs.declared.msg.Msg.{Msg}
use Rattle.pr_inval.specs.declared.node_fault.NodeFault.{NodeFault}
use Rattle.pr_inval.specs.declared.step.Step.{Step}
use Rattle.pr_inval.specs.declared.taken.Taken.{Taken}
use Rattle.pr_inval.specs.declared.taken.Taken.TheVariants as takens
use Rattle.pr_inval.specs.Standing.{HasHeard, IsSameSession, SessionMeaning}
use Rattle.pr_story.specs.declared.cause.Cause.{Cause}
use Rattle.pr_story.specs.declared.entry.Entry.{Entry}
use Rattle.pr_story.specs.declared.event.Event.{Event}
use Rattle.pr_story.specs.declared.event.Event.TheVariants.{Sent, Accepted, Gapped, Down}
use Rattle.pr_story.specs.Commands.{IsNoCheckpoint}
use Rattle.pr_story.specs.Sessions.{HasGoneOn}
use Rattle.pr_story.specs.Turns.{event_of}
use Rattle.pr_inval.specs.Messages.{IsMessage}

-- a call: a turn with the session before and after it, a message to accept, or a down with its cause and the session
pub data Call : Type 0 where
  Turning : SessionMeaning → SessionMeaning → Call
  Accepting : Msg → Call
  Ending : Cause → SessionMeaning → SessionMeaning → Call

-- the fault that was answered, or none
abbrev pub fault_of : {X : Type 0} → Result X NodeFault → Option NodeFault
fault_of (Ok x) = None
fault_of (Err fault) = Some fault

abbrev pub entry_of : ℕ → ℕ → Event → Entry
entry_of time caller event = record { time = time; caller = caller; event = event }

-- the session after an entry that a call with it made
abbrev pub HasStepped : SessionMeaning → SessionMeaning → Entry → Type 0
HasStepped a b e = HasGoneOn a b a.attached e

-- what stays of a session whatever a flow does
pub record IsKept (a b : SessionMeaning) : Type 0 where
  pub stream : b.stream ≡ a.stream
  pub attached : b.attached ≡ a.attached
  pub names : b.standing.names ≡ a.standing.names
  pub bodies : b.standing.bodies ≡ a.standing.bodies

-- a message that is sent is one of the grammar, of this stream, and no checkpoint
pub record IsSendable (s : ℕ) (m : Msg) : Type 0 where
  pub message : IsMessage m
  pub stream : m.stream ≡ s
  pub kind : IsNoCheckpoint m.kind

-- what the event of a turn sends, if anything
abbrev pub IsSending : ℕ → Event → Type 0
IsSending s (Sent m) = IsSendable s m
IsSending s _ = Unit {0}

-- a time of an event
pub record IsTime (time : ℕ) : Type 0 where
  pub least : 1 ≤ time
  pub most : time ≤ 4611686018427387903

-- ---- what the calls make

abbrev pub TurnMakes : List Entry → List Entry → SessionMeaning → SessionMeaning → Result Step NodeFault → Type 0
TurnMakes before now a b (Ok answer) =
    IsSending a.stream (event_of a.stream answer)
    × ((time : ℕ) × (caller : ℕ) × (now ≡ before ++ entry_of time caller (event_of a.stream answer) ∷ [])
    × HasStepped a b (entry_of time caller (event_of a.stream answer)))
TurnMakes before now a b (Err fault) = (now ≡ before) × IsSameSession a b

abbrev pub AcceptMakes : List Entry → List Entry → Msg → Result Taken NodeFault → Type 0
AcceptMakes before now m (Ok (takens.Accepted time)) =
    IsTime time × ((caller : ℕ) × (at : List ℕ) × (now ≡ before ++ entry_of time caller (Accepted m at) ∷ []))
AcceptMakes before now m (Ok (takens.Gap needs has time)) =
    IsTime time × ((caller : ℕ) × (now ≡ before ++ entry_of time caller (Gapped m has) ∷ []))
AcceptMakes before now m (Err fault) = now ≡ before

abbrev pub DownMakes : List Entry → List Entry → SessionMeaning → SessionMeaning → Cause → Result (Unit {0}) NodeFault
    → Type 0
DownMakes before now a b cause (Ok done) =
    (time : ℕ) × (caller : ℕ) × (now ≡ before ++ entry_of time caller (Down a.stream cause) ∷ [])
    × HasStepped a b (entry_of time caller (Down a.stream cause))
DownMakes before now a b cause (Err fault) = (now ≡ before) × IsSameSession a b

-- ---- calls on a side, each from one moment of it and of the session to the next

module _ {S : Type 0} (made_by : S → List Entry) (act_of : S → Call → Option NodeFault → S → Type 0) where
  -- a turn made the entry, and what it sends is of the grammar and of the session's stream
  pub record HasTurned (x : S) (a : SessionMeaning) (e : Entry) (y : S) (b : SessionMeaning) : Type 0 where
    pub act : act_of x (Turning a b) None y
    pub made : made_by y ≡ made_by x ++ e ∷ []
    pub sends : IsSending a.stream e.event
    pub session : HasStepped a b e

  -- the message was taken, which made the entry, and the session heard its time
  pub record HasTaken (x : S) (a : SessionMeaning) (m : Msg) (e : Entry) (y : S) (b : SessionMeaning) : Type 0 where
    pub act : act_of x (Accepting m) None y
    pub made : made_by y ≡ made_by x ++ e ∷ []
    pub session : HasHeard a b e.time

  -- it was noted that the flow went down, which made the entry
  pub record HasEnded (x : S) (a : SessionMeaning) (cause : Cause) (e : Entry)
      (y : S) (b : SessionMeaning) : Type 0 where
    pub act : act_of x (Ending cause a b) None y
    pub made : made_by y ≡ made_by x ++ e ∷ []
    pub session : HasStepped a b e

  -- a call was answered a fault

  pub record HasNotTurned (x : S) (a : SessionMeaning) (fault : NodeFault) (y : S) (b : SessionMeaning) : Type 0 where
    pub act : act_of x (Turning a b) (Some fault) y
    pub made : made_by y ≡ made_by x
    pub session : IsSameSession a b

  pub record HasNotTaken (x : S) (a : SessionMeaning) (m : Msg) (fault : NodeFault)
      (y : S) (b : SessionMeaning) : Type 0 where
    pub act : act_of x (Accepting m) (Some fault) y
    pub made : made_by y ≡ made_by x
    pub session : b ≡ a

  pub record HasNotEnded (x : S) (a : SessionMeaning) (cause : Cause) (fault : NodeFault)
      (y : S) (b : SessionMeaning) : Type 0 where
    pub act : act_of x (Ending cause a b) (Some fault) y
    pub made : made_by y ≡ made_by x
    pub session : IsSameSession a b
