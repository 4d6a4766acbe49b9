-- What bent connections do. Each list of bends is that of one connection but for a plan's.
use Rattle.std.specs.Prelude.{◌≡◌, ◌+◌, ◌-◌, ◌^◌, ◌==◌, ◌&&◌, if◌then◌else◌, ℕ, Bool, IsTrue, true, false, not, min, nat_lt, bit_xor, List, [], ◌∷◌, ◌++◌, length, take, drop, filter, fold, Option, Some, None, Result, Ok, Err}
use Rattle.std.specs.List.{list_any}
use Rattle.pr_wires.specs.Calls.{WireState}
use Rattle.pr_wires.specs.Counters.{ends_after, more_by, one_more}
use Rattle.pr_wires.specs.declared.bend.Bend.{Bend}
use Rattle.pr_wires.specs.declared.bend.Bend.TheVariants.{NoConnect, Fail, End, Flip, Again}

-- ---- one bend

-- the number of the connection that a bend names
abbrev pub nth_of : Bend → ℕ
nth_of (NoConnect nth) = nth
nth_of (Fail nth call) = nth
nth_of (End nth after) = nth
nth_of (Flip nth at) = nth
nth_of (Again nth at) = nth

-- a bend names the connection of this number
abbrev pub names : ℕ → Bend → Bool
names k bend = nth_of bend == k

-- the connection is refused
abbrev pub refuses : Bend → Bool
refuses (NoConnect nth) = true
refuses other = false

-- the call of this number fails
abbrev pub fails : ℕ → Bend → Bool
fails n (Fail nth call) = call == n
fails n other = false

-- how many of so many bytes come before the wire ends, after so many were taken
abbrev pub ends_by : ℕ → ℕ → Bend → ℕ
ends_by taken len (End nth after) = min len (after - taken)
ends_by taken len other = len

-- the byte of this number is given with its lowest bit changed
abbrev pub flips : ℕ → Bend → Bool
flips n (Flip nth at) = at == n
flips n other = false

-- the byte of this number is given twice
abbrev pub repeats : ℕ → Bend → Bool
repeats n (Again nth at) = at == n && nat_lt n (2 ^ 64 - 1)
repeats n other = false

-- ---- the bends of a connection

-- those of a plan that name the connection of this number
abbrev pub bends_of : List Bend → ℕ → List Bend
bends_of plan k = filter (names k) plan

-- a connection that no bend of the plan names
abbrev pub is_unbent : List Bend → ℕ → Bool
is_unbent plan k = not (list_any (names k) plan)

-- how many of so many bytes come before the wire ends
abbrev pub left : ℕ → List Bend → ℕ → ℕ
left taken bends len = fold (ends_by taken) len bends

-- what comes out for the byte of this number
abbrev pub bytes_for : List Bend → ℕ → ℕ → List ℕ
bytes_for bends n byte =
    let given = (if list_any (flips n) bends then bit_xor byte 1 else byte) in
    (if list_any (repeats n) bends then given ∷ given ∷ [] else given ∷ [])

-- what comes out for these bytes, of which the first has this number
abbrev pub bent : List Bend → ℕ → List ℕ → List ℕ
bent bends n [] = []
bent bends n (byte ∷ bytes) = bytes_for bends n byte ++ bent bends (one_more n) bytes

-- ---- a bent wire

-- a wire's bends; its calls so far, the bytes put and the bytes taken; the bytes under way, as its calls answered
-- them; the bytes that come out if all are taken; and how often it has failed, and ended
pub record Bent : Type 0 where
  pub bends : List Bend
  pub calls : ℕ
  pub put : ℕ
  pub taken : ℕ
  pub under : ℕ
  pub coming : List ℕ
  pub faults : ℕ
  pub ends : ℕ

abbrev pub new_bent : List Bend → Bent
new_bent bends = record { bends = bends; calls = 0; put = 0; taken = 0; under = 0; coming = []; faults = 0; ends = 0 }

-- a wire without a bend tells what comes out, and is sound
abbrev pub told : List Bend → List ℕ → Option (List ℕ)
told [] coming = Some coming
told (bend ∷ bends) coming = None

abbrev pub is_sound : List Bend → Bool
is_sound [] = true
is_sound (bend ∷ bends) = false

abbrev pub bent_state : Bent → WireState
bent_state a = record {
  faults = a.faults;
  ends = a.ends;
  under = a.under;
  given = None;
  taken = None;
  held = told a.bends a.coming;
  sound = is_sound a.bends;
}

-- the next call fails
abbrev pub fails_next : Bent → Bool
fails_next a = list_any (fails (one_more a.calls)) a.bends

-- a call is counted
abbrev pub called : Bent → Bent
called a = record a { calls = one_more a.calls }

-- a call that failed
abbrev pub failed : Bent → Bent
failed a = record a { calls = one_more a.calls; faults = one_more a.faults }

-- a call fails just where a bend says so, and else moves all that was asked for, or none once the wire has ended
abbrev pub AnswersPut : {E : Type 0} → Bent → ℕ → Result ℕ E → Type 0
AnswersPut a len (Ok n) = (fails_next a ≡ false) × (n ≡ (if left a.taken a.bends len == 0 then 0 else len))
AnswersPut a len (Err e) = IsTrue (fails_next a)

-- a call fails just where a bend says so, and else moves what comes before the wire ends
abbrev pub AnswersTake : {E : Type 0} → Bent → ℕ → Result ℕ E → Type 0
AnswersTake a len (Ok n) = (fails_next a ≡ false) × (n ≡ left a.taken a.bends len)
AnswersTake a len (Err e) = IsTrue (fails_next a)

-- these bytes were put: what comes out for them comes last
abbrev pub put_in : Bent → List ℕ → Bent
put_in a bytes = record a { put = more_by a.put (length bytes); under = a.under + length bytes; coming = a.coming ++ bent a.bends a.put bytes }

-- so many bytes were taken
abbrev pub taken_off : Bent → ℕ → Bent
taken_off a n = record a { taken = more_by a.taken n; under = a.under - n; coming = drop n a.coming }

-- a call that was asked for so many bytes moved so many
abbrev pub noted : Bent → ℕ → ℕ → Bent
noted a n len = record a { ends = ends_after a.ends n len }

-- a wire after a put, and after a take
abbrev pub after_put : {E : Type 0} → Bent → List ℕ → Result ℕ E → Bent
after_put a piece (Ok n) = noted (put_in (called a) (take n piece)) n (length piece)
after_put a piece (Err e) = failed a

abbrev pub after_take : {E : Type 0} → Bent → ℕ → Result ℕ E → Bent
after_take a len (Ok n) = noted (taken_off (called a) n) n len
after_take a len (Err e) = failed a

-- ---- the room that bytes given twice take

-- a byte before this number is given twice
abbrev pub repeats_before : ℕ → Bend → Bool
repeats_before n (Again nth at) = nat_lt at n
repeats_before n other = false

-- how many bends give a byte before this number twice
abbrev pub extra : ℕ → List Bend → ℕ
extra n [] = 0
extra n (bend ∷ bends) = (if repeats_before n bend then 1 else 0) + extra n bends

-- ---- a maker of bent wires

pub record Plan : Type 0 where
  pub bends : List Bend
  pub made : ℕ
  pub out : ℕ
  pub faults : ℕ
