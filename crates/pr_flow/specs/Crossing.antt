-- What crosses the wires of flows.
use Rattle.std.specs.Prelude.{ℕ, List, [], ◌∷◌, ◌++◌, ◌≡◌, ◌≢◌, ◌⊎◌, Option, None, Some}
use Rattle.std.specs.Io.{StartsWith}
use Rattle.pr_inval.specs.declared.msg.Msg.{Msg}
use Rattle.pr_flow.specs.Flows.{crossed}
use Rattle.pr_story.specs.declared.cause.Cause.{Cause}
use Rattle.pr_story.specs.declared.cause.Cause.TheVariants as causes
use Rattle.pr_story.specs.declared.event.Event.{Event}
use Rattle.pr_story.specs.declared.event.Event.TheVariants.{Down, Sent}
use Rattle.pr_wire.specs.Spelling.{spelling}
use Rattle.pr_wire.specs.declared.format.Format.TheVariants.{Two}

-- what was under way, and the events
abbrev pub from_way : Option Msg → List Event → List Event
from_way None events = events
from_way (Some m) events = Sent m ∷ events

-- the events end with a message that was cut off for this cause, whose encoding begins with this part
abbrev pub IsCutShort : ℕ → Option Msg → Cause → List Event → List ℕ → Type 0
IsCutShort s under_way cause events part =
    (msg : Msg) × (before : List Event) × (from_way under_way events ≡ before ++ Sent msg ∷ Down s cause ∷ []) × StartsWith (spelling Two msg) part

-- ---- the wires that were closed

-- what crossed the wire of a flow that gave these events
abbrev pub IsItem : ℕ → List Event → List ℕ → Type 0
IsItem s events item =
    (part : List ℕ) × (item ≡ crossed events ++ part)
    × ((part ≡ []) ⊎ (IsCutShort s None causes.Failed events part ⊎ IsCutShort s None causes.Ended events part))

-- of the wires closed, where they are told, this one came last
abbrev pub with_item : Option (List (List ℕ)) → List ℕ → Option (List (List ℕ))
with_item None item = None
with_item (Some items) item = Some (items ++ item ∷ [])

-- what a flow that gave these events added to what is told of the wires closed: its own wire, unless none was given
abbrev pub Carried : ℕ → List Event → Option (List (List ℕ)) → Option (List (List ℕ)) → Type 0
Carried s events before now =
    ((events ≡ Down s causes.Failed ∷ []) × (now ≡ before))
    ⊎ ((events ≢ Down s causes.Failed ∷ []) × ((item : List ℕ) × IsItem s events item × (now ≡ with_item before item)))
