-- The message of a number, and the newest one.
use Rattle.std.specs.Prelude.{ℕ, List, ◌∷◌, ◌≡◌, ◌⊎◌, ◌≤◌, ◌<◌, ◌-◌, Option, Some, None, length, get_or, reverse}
use Rattle.pr_inval.specs.declared.msg.Msg.{Msg}
use Rattle.pr_node.specs.Stored.{Stored, means}
use Rattle.pr_story.specs.declared.entry.Entry.{Entry}
use Rattle.pr_story.specs.declared.event.Event.TheVariants.{Sent}
use Rattle.pr_story.specs.Places.{SendsAt}

-- of these places, that of the message of this number
abbrev pub IsPlace : List ℕ → ℕ → Option ℕ → Type 0
IsPlace places number None = (number ≡ 0) ⊎ (length places < number)
IsPlace places number (Some at) = (1 ≤ number) × (number ≤ length places) × (at ≡ get_or places (number - 1) 0)

-- the newest entry of the journal sends it
abbrev pub SendsLast : List Entry → Msg → Type 0
SendsLast j msg = (e : Entry) × (older : List Entry) × (j ≡ e ∷ older) × (e.event ≡ Sent msg)

-- that of the node's journal does
abbrev pub IsSentLast : List (Option Stored) → ℕ → Msg → Type 0
IsSentLast nodes n msg = (m : Stored) × (get_or nodes n None ≡ Some m) × SendsLast (means m).journal msg

-- the node's journal has it there
abbrev pub IsSentAt : List (Option Stored) → ℕ → ℕ → Msg → Type 0
IsSentAt nodes n place msg = (m : Stored) × (get_or nodes n None ≡ Some m) × SendsAt (reverse (means m).journal) place msg
