-- A turn is one lawful entry, and its session goes on by it.
use Rattle.std.proofs.Common.{◌≡◌, ◌<◌, ℕ, ◌+◌, ◌^◌, inl, List, refl, ◌∙◌, ap, subst, reverse}
use Rattle.std.specs.Prelude.{true, IsTrue}
use Rattle.pr_names.specs.Span.{Span}
use Rattle.pr_inval.specs.declared.kind.Kind.{Kind}
use Rattle.pr_inval.specs.declared.kind.Kind.TheVariants.{Precise, Imprecise, Checkpoint, Body}
use Rattle.pr_inval.specs.declared.step.Step.{Step}
use Rattle.pr_inval.specs.declared.step.Step.TheVariants as step
use Rattle.pr_inval.specs.Standing.{SessionMeaning, Standing, IsSameSession}
use Rattle.pr_story.specs.declared.entry.Entry.{Entry}
use Rattle.pr_story.specs.declared.event.Event.{Event}
use Rattle.pr_story.specs.declared.event.Event.TheVariants.{Sent, Idle, Stale}
use Rattle.pr_story.specs.Lawful.{heard_time}
use Rattle.pr_story.specs.Ranges.{IsInRange}
use Rattle.pr_story.specs.Turns.{IsTurn, SendTurn, IdleTurn, StaleTurn, event_of}
use Rattle.pr_node.specs.declared.answers.turned.Turned.{Turned}
use Rattle.pr_node.specs.declared.answers.turned.Turned.TheVariants as turned
use Rattle.pr_node.specs.declared.stores.Stores.{Stores}
use Rattle.pr_node.specs.Calls.{IsStep, IsTurned}
use Rattle.pr_node.specs.Grammar.{IsStepSpelled}
use Rattle.pr_node.specs.Quiet.{IsQuiet}
use Rattle.pr_node.specs.Sending.{IsNextTurn, IsOfKind, IsStepInRange, IsTurnOf}
use Rattle.pr_node.specs.Ties.{IsTied}
use Rattle.pr_node.proofs.Adding.{IsReady}
use Rattle.pr_story.specs.Sessions.{HasGoneOn, IsAfter}
use Rattle.pr_story.specs.Commands.{IsNoCheckpoint}

-- ---- what stays

-- what is so by the tie to a journal, is so by the tie to the same journal
pub tied_so : (n : ℕ) (old entries : List Entry) (s : Stores) (P : List Entry → Type 0) → entries ≡ old → (IsTied n (reverse entries) s → P (reverse entries)) → IsTied n (reverse old) s → P (reverse old)
tied_so n old entries s P is so = subst (λ (x : List Entry). IsTied n (reverse x) s → P (reverse x)) is so

-- a session whose room alone has changed
pub turn_at : (n : ℕ) (j : List Entry) (a b : SessionMeaning) (time : ℕ) (s : Step) → IsSameSession a b → IsNextTurn n j b time (event_of b.stream s) → IsNextTurn n j a time (event_of a.stream s)
turn_at n j a b time (step.Sent msg) same so = (
  so.0 ∙ same.stream,
  subst (λ (x : Standing). msg.number ≡ x.number + 1) same.standing so.1,
  so.2,
  subst (λ (x : Standing). IsTurn n j x (SendTurn msg.kind)) same.standing so.3,
)
turn_at n j a b time step.Idle same so = (refl, subst (λ (x : Standing). IsTurn n j x IdleTurn) same.standing so.1)
turn_at n j a b time (step.Stale cut) same so = (refl, subst (λ (x : Standing). IsTurn n j x (StaleTurn cut)) same.standing so.1)

pub has_gone_on : (a m b : SessionMeaning) (e : Entry) → IsSameSession a m → IsTrue a.attached → HasGoneOn m b m.attached e → HasGoneOn a b true e
has_gone_on a m b e same attached so = record {
  stream = so.stream ∙ same.stream;
  is_attached = so.is_attached ∙ same.attached ∙ attached;
  after = subst (λ (x : Standing). IsAfter a.stream e x b.standing) same.standing (subst (λ (k : ℕ). IsAfter k e m.standing b.standing) same.stream so.after);
}

-- ---- the entry

pub turn_of : (n : ℕ) (j : List Entry) (a : SessionMeaning) (time : ℕ) (event : Event) → IsNextTurn n j a time event → IsTurnOf a.stream event
turn_of n j a time (Sent msg) so = so.0
turn_of n j a time (Idle stream) so = so.0
turn_of n j a time (Stale stream cut) so = so.0
turn_of n j a time _ so = absurd so

pub turn_ready : (needs : ℕ → List ℕ) (n : ℕ) (j : List Entry) (sets : List (List Span)) (a : SessionMeaning) (time caller : ℕ) (event : Event)
    → IsInRange event → IsNextTurn n j a time event → IsReady (λ x. a.standing) needs n j sets (record { time = time; caller = caller; event = event })
turn_ready needs n j sets a time caller (Sent msg) range so = record { in_range = range; may_come = (so.1, so.2, inl so.3) }
turn_ready needs n j sets a time caller (Idle stream) range so = record { in_range = range; may_come = so.1 }
turn_ready needs n j sets a time caller (Stale stream cut) range so = record { in_range = range; may_come = so.1 }
turn_ready needs n j sets a time caller _ range so = absurd so

pub step_in_range : (stream : ℕ) (s : Step) → stream < 2 ^ 32 → IsStepInRange s → IsInRange (event_of stream s)
step_in_range stream (step.Sent msg) lt range = range
step_in_range stream step.Idle lt range = lt
step_in_range stream (step.Stale cut) lt range = (lt, range)

pub turn_heard : (n : ℕ) (j : List Entry) (a : SessionMeaning) (time : ℕ) (event : Event) → IsNextTurn n j a time event → a.standing.time ≡ heard_time (λ x. a.standing) event
turn_heard n j a time (Sent msg) so = refl
turn_heard n j a time (Idle stream) so = refl
turn_heard n j a time (Stale stream cut) so = refl
turn_heard n j a time _ so = absurd so

pub turn_quiet : (n : ℕ) (j : List Entry) (a : SessionMeaning) (time : ℕ) (event : Event) → IsNextTurn n j a time event → IsQuiet event
turn_quiet n j a time (Sent msg) so = tt
turn_quiet n j a time (Idle stream) so = tt
turn_quiet n j a time (Stale stream cut) so = tt
turn_quiet n j a time _ so = absurd so

-- ---- the answer

no_checkpoint : (n : ℕ) (j : List Entry) (st : Standing) (kind : Kind) → IsTurn n j st (SendTurn kind) → IsNoCheckpoint kind
no_checkpoint n j st (Precise from to write) so = tt
no_checkpoint n j st (Imprecise from to target) so = tt
no_checkpoint n j st (Checkpoint to target floor rows) so = absurd so
no_checkpoint n j st (Body name stamp bytes) so = tt

pub turn_is : (n : ℕ) (j : List Entry) (a : SessionMeaning) (time caller stream : ℕ) (s : Step) → stream ≡ a.stream → IsNextTurn n j a time (event_of stream s) → IsStep a.stream s (record { time = time; caller = caller; event = event_of stream s })
turn_is n j a time caller stream (step.Sent msg) is so = (refl, so.0, no_checkpoint n j a.standing msg.kind so.3)
turn_is n j a time caller stream step.Idle is so = ap (λ (k : ℕ). Idle k) is
turn_is n j a time caller stream (step.Stale cut) is so = ap (λ (k : ℕ). Stale k cut) is

pub turn_told : (n : ℕ) (j : List Entry) (a : SessionMeaning) (time caller stream : ℕ) (t : Turned) (s : Step) → IsOfKind t (event_of stream s) → stream ≡ a.stream → IsNextTurn n j a time (event_of stream s) → IsStepSpelled s
    → IsTurned a.stream t (record { time = time; caller = caller; event = event_of stream s })
turn_told n j a time caller stream turned.Sent (step.Sent msg) kind is so good = (msg, turn_is n j a time caller stream (step.Sent msg) is so, good)
turn_told n j a time caller stream turned.Idle step.Idle kind is so good = turn_is n j a time caller stream step.Idle is so
turn_told n j a time caller stream turned.Stale (step.Stale cut) kind is so good = (cut, turn_is n j a time caller stream (step.Stale cut) is so)
turn_told n j a time caller stream _ _ kind is so good = absurd kind
