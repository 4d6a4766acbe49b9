-- Why a settle ends: how much is left to send falls with each message that is sent.
use Rattle.std.specs.Prelude.{ℕ, List, [], ◌∷◌, ◌⊎◌, ◌+◌, ◌-◌, zero, suc, cond, Bool, Contains}
use Rattle.pr_stamps.specs.Point.{Point}
use Rattle.pr_vectors.specs.Vector.{clock_of, Le}
use Rattle.pr_story.specs.declared.event.Event.{Event}
use Rattle.pr_story.specs.declared.event.Event.TheVariants.{Wrote, Attached, Sent}
use Rattle.pr_story.specs.History.{Plan, NodeEntry, journal, current_clock}
use Rattle.pr_story.specs.Knowledge.{cuts_of}
use Rattle.pr_story.specs.Turns.{position, has_sent}
use Rattle.pr_story.specs.Commands.{IsNoCheckpoint}

-- the sum of f over the numbers below n
abbrev pub sum_below : (ℕ → ℕ) → ℕ → ℕ
sum_below f zero = 0
sum_below f (suc n) = sum_below f n + f n

-- how far the stream's position lies behind the writers
abbrev pub lag : List NodeEntry → ℕ → ℕ
lag h s = sum_below (λ w. current_clock (journal h w) w - clock_of (position h s) w) 32

abbrev pub counts_unsent : Event → (List ℕ → Point → Bool) → ℕ
counts_unsent (Wrote client write body after) sent = cond (sent write.name write.stamp) 0 1
counts_unsent _ sent = 0

-- how many of the writes have a body that was not sent
abbrev pub unsent : List NodeEntry → (List ℕ → Point → Bool) → ℕ
unsent [] sent = 0
unsent (e ∷ h) sent = unsent h sent + counts_unsent e.entry.event sent

-- how much these streams may still send, while nothing is written and none is attached
abbrev pub left_to_send : List NodeEntry → List ℕ → ℕ
left_to_send h [] = 0
left_to_send h (s ∷ streams) = left_to_send h streams + (lag h s + unsent h (has_sent h s))

abbrev pub IsNoStart : Event → Type 0
IsNoStart (Wrote client write body after) = ⊥
IsNoStart (Attached stream at) = ⊥
IsNoStart _ = Unit {0}

-- a message of one of the streams: that of its turn, or a checkpoint where it is stale
abbrev pub SendsOn : Plan → List NodeEntry → List ℕ → Event → Type 0
SendsOn plan h streams (Sent msg) =
    Contains streams msg.stream × (IsNoCheckpoint msg.kind ⊎ ¬ Le (cuts_of (journal h (plan.stream msg.stream).source)) (position h msg.stream))
SendsOn plan h streams event = ⊥
