-- How a settle goes on.
use Rattle.std.specs.Prelude.{ℕ, List, [], ◌∷◌, ◌++◌, ◌≡◌, ◌≤◌, ◌<◌, Bool, true, false, IsTrue, Result, Ok, Err, filter, reverse}
use Rattle.pr_inval.specs.declared.node_fault.NodeFault.{NodeFault}
use Rattle.pr_story.specs.declared.event.Event.{Event}
use Rattle.pr_story.specs.declared.event.Event.TheVariants.{Accepted}
use Rattle.pr_inval.specs.declared.msg.Msg.{Msg}
use Rattle.pr_story.specs.History.{NodeEntry}
use Rattle.pr_story.specs.Remaining.{left_to_send}
use Rattle.pr_story.specs.Scripts.{AreAttaches, AreRounds, AreSettled, HasSent, events_of}
use Rattle.pr_story.specs.Settling.{IsInTime, IsSettled}
use Rattle.pr_sim.specs.Commands.{ForEachRun, Grows, IsCause, attached_of}
use Rattle.pr_sim.specs.Running.{IsRunning, Tells, below}
use Rattle.pr_story.specs.Counts.{Declared}
use Rattle.pr_sim.specs.declared.engine.Engine.{Engine}

-- ---- streams in time

-- the destination of each attached stream has all that it was told
abbrev pub AreInTime : Declared → (ℕ → Bool) → List NodeEntry → Type 0
AreInTime d attached h = (s : ℕ) → s < d.counts.streams → IsTrue (attached s) → IsInTime d.plan h s

-- the engine runs, and its attached streams are in time
abbrev pub IsSettling : Engine → Type 0
IsSettling e = (d : Declared) × (attached : ℕ → Bool) × (h : List NodeEntry) × IsRunning d attached h e × AreInTime d attached h

-- P holds of each history that the engine has run, where the attached streams are in time
abbrev pub ForEachInTime : Engine → (Declared → (ℕ → Bool) → List NodeEntry → Type 0) → Type 0
ForEachInTime e P = ForEachRun e (λ d attached h. AreInTime d attached h → P d attached h)

-- each attached stream has nothing to send, and its destination has its source's vector
abbrev pub AreAtRest : Declared → (ℕ → Bool) → List NodeEntry → Type 0
AreAtRest d attached h = (s : ℕ) → s < d.counts.streams → IsTrue (attached s) → IsSettled d.plan h s

-- ---- what a part of a settle makes

-- whether something was sent
abbrev pub SaysSent : Bool → List Event → Type 0
SaysSent true events = HasSent events
SaysSent false events = ¬ HasSent events

-- these streams have no more left to send, and less where something was sent
abbrev pub Lessens : List ℕ → List NodeEntry → Bool → List NodeEntry → Type 0
Lessens streams h true later = left_to_send later streams < left_to_send h streams
Lessens streams h false later = left_to_send later streams ≤ left_to_send h streams

-- by the new entries, of which the newest is the first, a settle goes on
pub record SettlesOn (d : Declared) (h new : List NodeEntry) (sent : Bool) : Type 0 where
  pub says : SaysSent sent (events_of (reverse new))
  pub in_time : (s : ℕ) → IsInTime d.plan h s → IsInTime d.plan (new ++ h) s
  pub less : Lessens (below d.counts.streams) h sent (new ++ h)

-- events of which P holds, cut off anywhere
abbrev pub IsCutOff : (Bool → List Event → Type 0) → List Event → Type 0
IsCutOff P events = (rest : List Event) × (sent : Bool) × P sent (events ++ rest)

-- P holds of what was made, and whether something was sent is answered; or it is the start of that, for this cause
abbrev pub MakesPart : (Bool → List Event → Type 0) → Declared → (ℕ → Bool) → List NodeEntry → Engine → Result Bool NodeFault → Type 0
MakesPart P d attached h e (Ok sent) = (new : List NodeEntry) × IsRunning d attached (new ++ h) e × P sent (events_of (reverse new)) × SettlesOn d h new sent
MakesPart P d attached h e (Err fault) = (new : List NodeEntry) × Tells d (new ++ h) e × IsCutOff P (events_of (reverse new)) × IsCause (new ++ h) fault

-- ---- the parts

-- with these events before it, what settles the stream settles it
abbrev pub LeadsToRest : ℕ → List Event → Type 0
LeadsToRest s events = (more : List Event) → AreSettled s more → AreSettled s (events ++ more)

-- a turn of the stream and what follows it at once: more of its turns are to come, or that one was idle
abbrev pub IsAdvance : ℕ → Bool → List Event → Type 0
IsAdvance s true events = LeadsToRest s events
IsAdvance s false events = AreSettled s events

-- the message was taken
abbrev pub IsAcceptOf : Msg → NodeEntry → Type 0
IsAcceptOf msg made = (at : List ℕ) × (made.entry.event ≡ Accepted msg at)

-- the stream of this number, where it is attached
abbrev pub just : (ℕ → Bool) → ℕ → List ℕ
just attached s = filter attached (s ∷ [])

-- these streams were attached
abbrev pub AttachesAnew : List ℕ → Declared → (ℕ → Bool) → List NodeEntry → Engine → Result (Unit {0}) NodeFault → Type 0
AttachesAnew streams d attached h e r =
    Grows (λ done es. AreAttaches streams (events_of es)) (λ es. (rest : List Event) × AreAttaches streams (events_of es ++ rest)) d attached h e r

-- rounds of the attached streams came to an end
abbrev pub HasRounds : Declared → (ℕ → Bool) → List NodeEntry → Engine → Result (Unit {0}) NodeFault → Type 0
HasRounds d attached h e r =
    Grows (λ done es. (rounds : ℕ) × AreRounds (attached_of d attached) rounds (events_of es))
    (λ es. (rest : List Event) × (rounds : ℕ) × AreRounds (attached_of d attached) rounds (events_of es ++ rest)) d attached h e r
