-- What the source of a stream sends next, by its stores: before any journal is named.
use Rattle.std.specs.Prelude.{ℕ, List, [], ◌≡◌, ◌⊎◌, ◌+◌, Option, None, Some}
use Rattle.pr_names.specs.Span.{Span}
use Rattle.pr_sets.specs.Spans.{IsSetOf}
use Rattle.pr_log.specs.Many.{HasMany}
use Rattle.pr_vectors.specs.Vector.{IsVector}
use Rattle.pr_inval.specs.declared.kind.Kind.{Kind}
use Rattle.pr_inval.specs.declared.kind.Kind.TheVariants.{Imprecise, Body}
use Rattle.pr_inval.specs.declared.step.Step.{Step}
use Rattle.pr_inval.specs.declared.step.Step.TheVariants as step
use Rattle.pr_inval.specs.Standing.{Standing, SessionMeaning}
use Rattle.pr_inval.specs.Targets.{IsTargetFor}
use Rattle.pr_story.specs.declared.entry.Entry.{Entry}
use Rattle.pr_story.specs.declared.event.Event.{Event}
use Rattle.pr_story.specs.declared.event.Event.TheVariants.{Sent, Idle, Stale}
use Rattle.pr_story.specs.Ranges.{IsKind, IsMsg}
use Rattle.pr_story.specs.Sending.{HasBody}
use Rattle.pr_story.specs.Turns.{IsNextBody, IsTurn, StaleTurn, IdleTurn, SendTurn}
use Rattle.pr_node.specs.declared.ahead.Withheld.{Withheld}
use Rattle.pr_node.specs.declared.answers.turned.Turned.{Turned}
use Rattle.pr_node.specs.declared.answers.turned.Turned.TheVariants as turned

-- the set's names are those that meet the condition; or nothing is dark, and more than 16 intervals hold these names, as
-- more hold the set's, which are some of them
abbrev pub IsOmittedSet : List Span → List Span → (List ℕ → Type 0) → Type 0
IsOmittedSet dark set test = IsSetOf set test ⊎ ((dark ≡ []) × HasMany 16 set test)

-- an imprecise message between the vectors, whose target is made of what is withheld
abbrev pub IsImpreciseOf : Withheld → List Span → List ℕ → List ℕ → Kind → Type 0
IsImpreciseOf found names v w (Imprecise from to target) = (from ≡ v) × (to ≡ w) × IsTargetFor found.omitted found.dark names target
IsImpreciseOf found names v w _ = ⊥

-- the body that is sent next, if there is one
abbrev pub IsNextBodyOf : List Entry → Standing → Option Kind → Type 0
IsNextBodyOf j session None = (o : List ℕ) → ¬ HasBody j session o
IsNextBodyOf j session (Some (Body o t bytes)) = IsNextBody j session o t bytes
IsNextBodyOf j session (Some _) = ⊥

abbrev pub IsKindOrNone : Option Kind → Type 0
IsKindOrNone None = Unit {0}
IsKindOrNone (Some kind) = IsKind kind

-- the session's next message at this time is sent, of a kind that meets the test
abbrev pub IsSentOf : (Kind → Type 0) → SessionMeaning → ℕ → Event → Type 0
IsSentOf meets session time (Sent msg) =
    (msg.stream ≡ session.stream) × (msg.number ≡ session.standing.number + 1) × (msg.time ≡ time) × meets msg.kind
IsSentOf meets session time _ = ⊥

-- the body that is next is sent at this time, if there is one
abbrev pub IsBodyTurn : List Entry → SessionMeaning → ℕ → Event → Type 0
IsBodyTurn j session time (Sent msg) = IsSentOf (λ kind. IsNextBodyOf j session.standing (Some kind)) session time (Sent msg)
IsBodyTurn j session time (Idle stream) = (stream ≡ session.stream) × IsNextBodyOf j session.standing None
IsBodyTurn j session time _ = ⊥

-- the turn of a session at this time
abbrev pub IsNextTurn : ℕ → List Entry → SessionMeaning → ℕ → Event → Type 0
IsNextTurn n j session time (Sent msg) = IsSentOf (λ kind. IsTurn n j session.standing (SendTurn kind)) session time (Sent msg)
IsNextTurn n j session time (Idle stream) = (stream ≡ session.stream) × IsTurn n j session.standing IdleTurn
IsNextTurn n j session time (Stale stream cut) = (stream ≡ session.stream) × IsTurn n j session.standing (StaleTurn cut)
IsNextTurn n j session time _ = ⊥

-- the event is a turn of the stream
abbrev pub IsTurnOf : ℕ → Event → Type 0
IsTurnOf s (Sent msg) = msg.stream ≡ s
IsTurnOf s (Idle stream) = stream ≡ s
IsTurnOf s (Stale stream cut) = stream ≡ s
IsTurnOf s _ = ⊥

-- it is a turn of this kind
abbrev pub IsOfKind : Turned → Event → Type 0
IsOfKind turned.Sent (Sent msg) = Unit {0}
IsOfKind turned.Idle (Idle stream) = Unit {0}
IsOfKind turned.Stale (Stale stream cut) = Unit {0}
IsOfKind _ _ = ⊥

-- what the step tells is in range
abbrev pub IsStepInRange : Step → Type 0
IsStepInRange (step.Sent msg) = IsMsg msg
IsStepInRange step.Idle = Unit {0}
IsStepInRange (step.Stale cut) = IsVector cut
