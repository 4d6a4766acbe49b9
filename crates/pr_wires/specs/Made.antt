-- What the calls of a maker of wires leave.
use Rattle.std.specs.Prelude.{◌≡◌, ◌≤◌, ◌<◌, ◌+◌, ◌-◌, ℕ, Bool, IsTrue, false, List, [], ◌∷◌, ◌++◌, length, take, drop, Option, Some, None, Result, Ok, Err, IsErr}
use Rattle.pr_wires.specs.Calls.{WireState}

-- one more where a wire was given
abbrev pub wires_given : {W E : Type 0} → Result W E → ℕ
wires_given (Ok w) = 1
wires_given (Err e) = 0

-- a connection that is sound is given, and what is given for it is sound
abbrev pub AnswersBySound : {W E : Type 0} → (W → WireState) → Result W E → Bool → Type 0
AnswersBySound state (Ok w) sound = IsTrue sound → IsTrue (state w).sound
AnswersBySound state (Err e) sound = sound ≡ false

-- where the lists of the closed wires are told, one more is told by the wire, and stands last
abbrev pub Carries : Option (List (List ℕ)) → Option (List (List ℕ)) → Option (List ℕ) → Type 0
Carries None now taken = now ≡ None
Carries (Some before) now None = ⊥
Carries (Some before) now (Some taken) = now ≡ Some (before ++ taken ∷ [])

-- wires that were asked for, and those that are out
pub record Counts : Type 0 where
  pub made : ℕ
  pub out : ℕ

-- ---- tapes

-- a tape by the bytes put and the number of bytes taken, with its room and its faults
pub record Tape : Type 0 where
  pub given : List ℕ
  pub at : ℕ
  pub room : ℕ
  pub faults : ℕ

-- a tape never ends, and tells all; it is not sound, since it fails past its room
abbrev pub state_of : Tape → WireState
state_of a = record {
  faults = a.faults;
  ends = 0;
  under = length a.given - a.at;
  given = Some a.given;
  taken = Some (take a.at a.given);
  held = Some (drop a.at a.given);
  sound = false;
}

abbrev pub new_tape : ℕ → Tape
new_tape room = record { given = []; at = 0; room = room; faults = 0 }

-- a piece is put as a whole just where there is room for it
pub record IsTaped {E : Type 0} (a b : Tape) (piece : List ℕ) (result : Result ℕ E) : Type 0 where
  pub room : b.room ≡ a.room
  pub fits : length a.given + length piece ≤ a.room → (result ≡ Ok (length piece)) × (b.faults ≡ a.faults)
  pub full : a.room < length a.given + length piece → IsErr result

-- all that is asked for is taken, without a fault
pub record IsPlayed {E : Type 0} (a b : Tape) (len : ℕ) (result : Result ℕ E) : Type 0 where
  pub room : b.room ≡ a.room
  pub whole : result ≡ Ok len
  pub faults : b.faults ≡ a.faults

-- a maker of one tape of this room
pub record Tapes : Type 0 where
  pub room : ℕ
  pub made : ℕ
  pub out : ℕ
  pub faults : ℕ
  pub carried : List (List ℕ)

-- the first connection gives the tape, and no other does
abbrev pub GivesTape : {E : Type 0} → Tapes → Result Tape E → Type 0
GivesTape a (Ok tape) = (a.made ≡ 0) × (tape ≡ new_tape a.room)
GivesTape a (Err e) = 1 ≤ a.made
