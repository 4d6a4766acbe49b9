-- What the calls of a wire give and leave. What a wire holds, was given and gave is told by some wires.
use Rattle.std.specs.Prelude.{◌≡◌, ◌<◌, ◌≤◌, ◌+◌, ℕ, Bool, IsTrue, List, [], ◌++◌, length, take, Option, Some, None, IsSome, Result, Ok, Err, OnErr}
use Rattle.pr_ports.specs.Faults.{GivesAtMost, HasRisen}

-- a wire at some moment: how often it has failed, and ended; the bytes put less the bytes taken, as the calls answered
-- them; the bytes put so far, those taken so far, and those put and not yet taken, where the wire tells them; and
-- whether it never fails, never ends and gives what was put
pub record WireState : Type 0 where
  pub faults : ℕ
  pub ends : ℕ
  pub under : ℕ
  pub given : Option (List ℕ)
  pub taken : Option (List ℕ)
  pub held : Option (List ℕ)
  pub sound : Bool

-- how many bytes a call moved
abbrev pub count_of : {E : Type 0} → Result ℕ E → ℕ
count_of (Ok n) = n
count_of (Err e) = 0

-- what is told grew by these bytes at its end
abbrev pub Grows : Option (List ℕ) → Option (List ℕ) → List ℕ → Type 0
Grows None now more = now ≡ None
Grows (Some before) now more = now ≡ Some (before ++ more)

-- what is told lost these bytes at its front
abbrev pub Shrinks : Option (List ℕ) → Option (List ℕ) → List ℕ → Type 0
Shrinks None now front = now ≡ None
Shrinks (Some before) None front = ⊥
Shrinks (Some before) (Some now) front = before ≡ front ++ now

-- what is told has just so many bytes
abbrev pub HasJust : Option (List ℕ) → ℕ → Type 0
HasJust None n = Unit {0}
HasJust (Some bytes) n = length bytes ≡ n

-- a call failed only where the faults rose, and moved nothing of something only where the ends rose; neither falls
pub record HasCauses {E : Type 0} (faults faults_now ends ends_now : ℕ) (result : Result ℕ E) (len : ℕ) : Type 0 where
  pub faults_rise : faults ≤ faults_now
  pub ends_rise : ends ≤ ends_now
  pub failed : OnErr result (HasRisen faults faults_now)
  pub ended : result ≡ Ok 0 → 0 < len → HasRisen ends ends_now

-- no fault, and something of something was moved
abbrev pub MovesSome : {E : Type 0} → Result ℕ E → ℕ → Type 0
MovesSome (Ok n) len = 0 < len → 0 < n
MovesSome (Err e) len = ⊥

-- a call put so many bytes from the front of the piece
pub record HasPut {E : Type 0} (a b : WireState) (piece : List ℕ) (result : Result ℕ E) : Type 0 where
  pub count : GivesAtMost result (length piece)
  pub under : b.under ≡ a.under + count_of result
  pub given : Grows a.given b.given (take (count_of result) piece)
  pub taken : b.taken ≡ a.taken
  pub held : Grows a.held b.held (take (count_of result) piece)
  pub just : HasJust a.held a.under × HasJust b.held b.under
  pub causes : HasCauses a.faults b.faults a.ends b.ends result (length piece)
  pub sound : IsTrue a.sound → IsTrue b.sound × IsSome b.held × IsSome a.held × MovesSome result (length piece)

-- a call took so many bytes into the front of a buffer of this length
pub record HasTaken {E : Type 0} (a b : WireState) (len : ℕ) (bytes : List ℕ) (result : Result ℕ E) : Type 0 where
  pub count : GivesAtMost result len
  pub under : b.under + count_of result ≡ a.under
  pub given : b.given ≡ a.given
  pub taken : Grows a.taken b.taken (take (count_of result) bytes)
  pub held : Shrinks a.held b.held (take (count_of result) bytes)
  pub just : HasJust a.held a.under × HasJust b.held b.under
  pub causes : HasCauses a.faults b.faults a.ends b.ends result len
  pub sound : IsTrue a.sound → IsTrue b.sound × IsSome b.held × IsSome a.held × MovesSome result len

-- what is told is empty
abbrev pub IsEmptyIfTold : Option (List ℕ) → Type 0
IsEmptyIfTold None = Unit {0}
IsEmptyIfTold (Some bytes) = bytes ≡ []

-- a wire that was not used yet
pub record IsUnused (a : WireState) : Type 0 where
  pub under : a.under ≡ 0
  pub given : IsEmptyIfTold a.given
  pub taken : IsEmptyIfTold a.taken
  pub held : IsEmptyIfTold a.held
