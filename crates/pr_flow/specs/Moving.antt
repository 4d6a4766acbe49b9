-- How bytes move over a wire.
use Rattle.std.specs.Prelude.{◌≡◌, ◌≤◌, ◌<◌, ◌+◌, ◌^◌, ℕ, IsTrue, List, [], ◌++◌, length, take, Option, Some, None, Result, Ok, Err}
use Rattle.std.specs.Io.{StartsWith}
use Rattle.pr_ports.specs.Faults.{HasRisen}
use Rattle.pr_inval.specs.declared.msg.Msg.{Msg}
use Rattle.pr_story.specs.declared.cause.Cause.{Cause}
use Rattle.pr_story.specs.declared.cause.Cause.TheVariants as causes
use Rattle.pr_wires.specs.Calls.{Grows, WireState}
use Rattle.pr_wire.specs.Spelling.{spelling}
use Rattle.pr_wire.specs.declared.format.Format.TheVariants.{Two}
use Rattle.pr_flow.specs.declared.passing.Passed.{Passed}
use Rattle.pr_flow.specs.declared.passing.Passed.TheVariants as passed
use Rattle.pr_flow.specs.declared.carrying.Carried.{Carried}
use Rattle.pr_flow.specs.declared.carrying.Carried.TheVariants as carried

-- what was held and then put is what was taken and what is still held
abbrev pub PassesThrough : Option (List ℕ) → Option (List ℕ) → List ℕ → List ℕ → Type 0
PassesThrough None now put got = now ≡ None
PassesThrough (Some before) None put got = ⊥
PassesThrough (Some before) (Some now) put got = before ++ put ≡ got ++ now

-- the bytes put and the bytes taken between two moments
pub record Moves (a b : WireState) (put got : List ℕ) : Type 0 where
  pub faults : a.faults ≤ b.faults
  pub ends : a.ends ≤ b.ends
  pub under : b.under + length got ≡ a.under + length put
  pub given : Grows a.given b.given put
  pub taken : Grows a.taken b.taken got
  pub held : PassesThrough a.held b.held put got
  pub sound : IsTrue a.sound → IsTrue b.sound

-- the wire failed, or ended, between two moments
abbrev pub IsCut : Cause → WireState → WireState → Type 0
IsCut causes.Failed a b = HasRisen a.faults b.faults
IsCut causes.Ended a b = HasRisen a.ends b.ends
IsCut causes.Gap a b = ⊥

-- a beginning of a piece was put, and of that a beginning taken
abbrev pub IsPart : List ℕ → List ℕ → List ℕ → Type 0
IsPart piece put got = StartsWith piece put × StartsWith put got

abbrev pub MovesPart : WireState → WireState → List ℕ → Type 0
MovesPart a b piece = (put : List ℕ) × (got : List ℕ) × Moves a b put got × IsPart piece put got

-- a piece was put, and other bytes were taken
abbrev pub MovesOther : WireState → WireState → List ℕ → List ℕ → Type 0
MovesOther a b piece got = (put : List ℕ) × Moves a b put got × StartsWith piece put × ¬ StartsWith put got

-- what came of putting a piece: all of it was put, or a beginning
abbrev pub IsPut : WireState → WireState → List ℕ → Result (Unit {0}) Cause → Type 0
IsPut a b piece (Ok done) = Moves a b piece []
IsPut a b piece (Err cause) = IsCut cause a b × ((put : List ℕ) × Moves a b put [] × StartsWith piece put)

-- what came of taking the piece that is under way into these bytes
abbrev pub IsTaken : WireState → WireState → List ℕ → List ℕ → Passed → Type 0
IsTaken a b piece bytes passed.Whole = Moves a b [] piece × (bytes ≡ piece)
IsTaken a b piece bytes (passed.Cut cause) =
    IsCut cause a b × ((got : List ℕ) × Moves a b [] got × StartsWith piece got)
IsTaken a b piece bytes (passed.Lied len) =
    (len ≤ length bytes) × Moves a b [] (take len bytes) × ¬ StartsWith piece (take len bytes)

abbrev pub IsNotCut : Passed → Type 0
IsNotCut (passed.Cut cause) = ⊥
IsNotCut _ = Unit {0}

-- what came of a piece that was put and taken again into these bytes
abbrev pub IsPassed : WireState → WireState → List ℕ → List ℕ → Passed → Type 0
IsPassed a b piece bytes passed.Whole = Moves a b piece piece × (bytes ≡ piece)
IsPassed a b piece bytes (passed.Cut cause) = IsCut cause a b × MovesPart a b piece
IsPassed a b piece bytes (passed.Lied len) =
    (len ≤ length bytes) × Moves a b piece (take len bytes) × ¬ StartsWith piece (take len bytes) × (a.held ≡ None)

-- what came of a message that was encoded, put, taken again and decoded
abbrev pub HasCarried : WireState → WireState → Msg → Carried → Type 0
HasCarried a b m (carried.Whole n) = (n ≡ m) × Moves a b (spelling Two m) (spelling Two m)
HasCarried a b m (carried.Cut cause) = IsCut cause a b × MovesPart a b (spelling Two m)
HasCarried a b m (carried.Lied sent got) = (sent ≡ spelling Two m) × MovesOther a b sent got × (a.held ≡ None)

abbrev pub IsCarried : {E : Type 0} → WireState → WireState → Msg → Result Carried E → Type 0
IsCarried a b m (Ok answer) = HasCarried a b m answer
IsCarried a b m (Err fault) = (put : List ℕ) × (got : List ℕ) × Moves a b put got × StartsWith (spelling Two m) put

abbrev pub IsNoLieOrCut : {E : Type 0} → Result Carried E → Type 0
IsNoLieOrCut (Ok (carried.Whole m)) = Unit {0}
IsNoLieOrCut (Ok _) = ⊥
IsNoLieOrCut (Err fault) = Unit {0}

-- the answer that these bytes were taken for the message, whose encoding is in memory
abbrev pub IsLie : Msg → List ℕ → Carried → Type 0
IsLie m bytes (carried.Lied sent got) = (sent ≡ spelling Two m) × (got ≡ bytes) × (length sent < 2 ^ 64)
IsLie m bytes _ = ⊥
