-- What a line says may give its event.
use Rattle.std.proofs.Common.{◌≡◌, ℕ, Bool, true, false, cond, IsTrue, List, [], refl}
use Rattle.pr_inval.specs.declared.kind.Kind.{Kind}
use Rattle.pr_inval.specs.declared.kind.Kind.TheVariants.{Precise, Imprecise, Checkpoint, Body}
use Rattle.pr_story.specs.Commands.{Gives}
use Rattle.pr_story.specs.declared.event.Event.TheVariants.{Wrote, Attached, Sent, Idle, Stale, Accepted, Gapped, Missing, Down, Answered, Behind, Moved, Cut, Dropped, Conflicts, State}
use Rattle.pr_text.specs.Plain.{asked_seen}
use Rattle.pr_check.specs.Said.{AreGiven, sending_of}

no_body : (g : Bool) (body : List ℕ) → (IsTrue g → body ≡ []) → body ≡ cond g [] body
no_body true body h = h refl
no_body false body h = refl

sent : (n time stream number : ℕ) (kind : Kind) → Gives (asked_seen (sending_of stream kind)) n (Sent (record { time = time; stream = stream; number = number; kind = kind }))
sent n time stream number (Precise from to write) = (refl, tt)
sent n time stream number (Imprecise from to target) = (refl, tt)
sent n time stream number (Checkpoint to target floor rows) = (refl, tt)
sent n time stream number (Body name stamp bytes) = (refl, tt)

pub given : AreGiven
given n (Wrote client write body after) h = (refl, refl, no_body write.gone body h, refl)
given n (Attached stream at) h = refl
given n (Sent msg) h = sent n msg.time msg.stream msg.number msg.kind
given n (Idle stream) h = refl
given n (Stale stream cut) h = refl
given n (Accepted msg at) h = (refl, refl)
given n (Gapped msg has) h = (refl, refl)
given n (Missing stream number) h = (refl, refl)
given n (Down stream cause) h = (refl, refl)
given n (Answered client name reply at) h = (refl, refl)
given n (Behind client needs has) h = (needs, has, refl)
given n (Moved client) h = (refl, refl)
given n (Cut at) h = refl
given n (Dropped name) h = (refl, refl)
given n (Conflicts name found) h = (refl, refl)
given n (State at cut floor precise) h = refl
