-- What the lines of a script give. Entries and events stand here in order, the oldest first.
use Rattle.std.specs.Prelude.{ℕ, List, [], ◌∷◌, ◌++◌, ◌≡◌, ◌≢◌, ◌⊎◌, ◌≤◌, ◌<◌, ◌+◌, ◌-◌, zero, suc, cond, nat_eq, not, Bool, false, ◌&&◌, ◌||◌, Option, Some, None, All, AllPairs, filter, reverse}
use Rattle.pr_inval.specs.declared.msg.Msg.{Msg}
use Rattle.pr_story.specs.declared.event.Event.{Event}
use Rattle.pr_story.specs.declared.event.Event.TheVariants.{Attached, Sent, Idle, Stale, Accepted, Gapped, Down}
use Rattle.pr_story.specs.declared.cause.Cause.TheVariants.{Failed, Gap}
use Rattle.pr_story.specs.History.{NodeEntry}
use Rattle.pr_story.specs.Commands.{Command, ToAttach, IsCheckpoint, IsNoCheckpoint, Gives}

-- ---- lines

-- a job of a phase: the commands of one client, or so many turns of a stream
pub data Job : Type 0 where
  ClientJob : List Command → Job
  FlowJob : ℕ → ℕ → Job

-- a line is a command that gives one event, an expectation of the read before it, the end of a stream's attachment,
-- so many turns of a stream, a settle, or a phase with its jobs in order
pub data Line : Type 0 where
  Single : Command → Line
  Expect : Line
  Detach : ℕ → Line
  Flow : ℕ → ℕ → Line
  Settle : Line
  Phase : List Job → Line

-- the streams that are attached after the line
abbrev pub attached_after : Line → (ℕ → Bool) → ℕ → Bool
attached_after (Single (ToAttach t)) attached s = nat_eq t s || attached s
attached_after (Detach t) attached s = not (nat_eq t s) && attached s
attached_after line attached s = attached s

-- ---- flows

-- the events of so many turns of stream s; under way is a message that was sent and not yet taken
abbrev pub AreTurns : ℕ → Option Msg → ℕ → List Event → Type 0
AreTurns s None turns [] = turns ≡ 0
AreTurns s None turns (Idle t ∷ events) = (1 ≤ turns) × (t ≡ s) × AreTurns s None (turns - 1) events
AreTurns s None turns (Stale t cut ∷ events) = (1 ≤ turns) × (t ≡ s) × (events ≡ [])
AreTurns s None turns (Sent msg ∷ events) = (1 ≤ turns) × (msg.stream ≡ s) × IsNoCheckpoint msg.kind × AreTurns s (Some msg) (turns - 1) events
AreTurns s (Some sent) turns (Accepted msg at ∷ events) = (msg ≡ sent) × AreTurns s None turns events
AreTurns s (Some sent) turns (Gapped msg has ∷ events) = (msg ≡ sent) × (events ≡ Down s Gap ∷ [])
AreTurns s (Some sent) turns (Down t cause ∷ events) = (t ≡ s) × (cause ≢ Gap) × (events ≡ [])
AreTurns s under_way turns _ = ⊥

-- a flow gives its turns, and fewer only where the last one is stale or goes down; or there was no connection
abbrev pub IsFlow : ℕ → ℕ → List Event → Type 0
IsFlow s turns events = AreTurns s None turns events ⊎ (events ≡ Down s Failed ∷ [])

-- the same, cut off anywhere
abbrev pub IsFlowBegun : ℕ → ℕ → List Event → Type 0
IsFlowBegun s turns events = (rest : List Event) × IsFlow s turns (events ++ rest)

-- ---- settles

abbrev pub AreAttaches : List ℕ → List Event → Type 0
AreAttaches [] events = events ≡ []
AreAttaches (s ∷ streams) (Attached t at ∷ events) = (t ≡ s) × AreAttaches streams events
AreAttaches (s ∷ streams) _ = ⊥

-- the turns of stream s up to its first idle one; where it is stale, a checkpoint is sent and taken
abbrev pub AreSettled : ℕ → List Event → Type 0
AreSettled s (Idle t ∷ []) = t ≡ s
AreSettled s (Sent msg ∷ (Accepted taken at ∷ events)) = (msg.stream ≡ s) × IsNoCheckpoint msg.kind × (taken ≡ msg) × AreSettled s events
AreSettled s (Stale t cut ∷ (Sent msg ∷ (Accepted taken at ∷ events))) = (t ≡ s) × (msg.stream ≡ s) × IsCheckpoint msg.kind × (taken ≡ msg) × AreSettled s events
AreSettled s _ = ⊥

-- the turns of each of the streams in order
abbrev pub AreRound : List ℕ → List Event → Type 0
AreRound [] events = events ≡ []
AreRound (s ∷ streams) events =
    (turns : List Event) × (rest : List Event) × (events ≡ turns ++ rest) × AreSettled s turns × AreRound streams rest

abbrev pub HasSent : List Event → Type 0
HasSent [] = ⊥
HasSent (Sent msg ∷ events) = Unit {0}
HasSent (event ∷ events) = HasSent events

-- so many rounds in which something was sent, and a last one in which nothing was
abbrev pub AreRounds : List ℕ → ℕ → List Event → Type 0
AreRounds streams zero events = AreRound streams events × ¬ HasSent events
AreRounds streams (suc rounds) events =
    (round : List Event) × (rest : List Event) × (events ≡ round ++ rest) × AreRound streams round × HasSent round
    × AreRounds streams rounds rest

-- each of the streams is attached anew, and then rounds follow
abbrev pub IsSettle : List ℕ → List Event → Type 0
IsSettle streams events =
    (attaches : List Event) × (rest : List Event) × (rounds : ℕ) × (events ≡ attaches ++ rest) × AreAttaches streams attaches
    × AreRounds streams rounds rest

-- ---- phases

abbrev pub events_of : List NodeEntry → List Event
events_of [] = []
events_of (e ∷ es) = e.entry.event ∷ events_of es

-- an event of each command in order
abbrev pub AreOfCommands : List Command → List NodeEntry → Type 0
AreOfCommands [] es = es ≡ []
AreOfCommands (command ∷ commands) [] = ⊥
AreOfCommands (command ∷ commands) (e ∷ es) = Gives command e.node e.entry.event × AreOfCommands commands es

abbrev pub JobGives : Job → List NodeEntry → Type 0
JobGives (ClientJob commands) es = AreOfCommands commands es
JobGives (FlowJob s turns) es = IsFlow s turns (events_of es)

abbrev pub JobBegins : Job → List NodeEntry → Type 0
JobBegins job es = (rest : List NodeEntry) × JobGives job (es ++ rest)

-- an entry of a phase, with the number of its job
pub record JobEntry : Type 0 where
  pub job : ℕ
  pub made : NodeEntry

abbrev pub made_of : List JobEntry → List NodeEntry
made_of [] = []
made_of (x ∷ xs) = x.made ∷ made_of xs

abbrev pub of_job : List JobEntry → ℕ → List NodeEntry
of_job [] k = []
of_job (x ∷ xs) k = cond (nat_eq x.job k) (x.made ∷ of_job xs k) (of_job xs k)

-- each job, the first one with number k, gives its entries, and there are no others
abbrev pub EachJob : (Job → List NodeEntry → Type 0) → List Job → ℕ → List JobEntry → Type 0
EachJob P [] k xs = All (λ (x : JobEntry). x.job < k) xs
EachJob P (job ∷ jobs) k xs = P job (of_job xs k) × EachJob P jobs (k + 1) xs

-- the order of a phase's entries: job after job, as one thread runs them; or by time and then node, where threads run
-- beside each other
pub data Order : Type 0 where
  JobAfterJob : Order
  ByTime : Order

abbrev pub Precedes : Order → JobEntry → JobEntry → Type 0
Precedes JobAfterJob x y = x.job ≤ y.job
Precedes ByTime x y =
    (x.made.entry.time < y.made.entry.time)
    ⊎ ((x.made.entry.time ≡ y.made.entry.time) × (x.made.node < y.made.node))

-- the entries are those of the jobs, each job's own in its order, in the order of the phase
abbrev pub IsPhase : (Job → List NodeEntry → Type 0) → Order → List Job → List NodeEntry → Type 0
IsPhase P order jobs es =
    (xs : List JobEntry) × (made_of xs ≡ es) × EachJob P jobs 0 xs × AllPairs (Precedes order) xs

-- ---- scripts

-- what the line gives, where these are the streams that are attached, in order of declaration
abbrev pub LineGives : Order → List ℕ → Line → List NodeEntry → Type 0
LineGives order attached (Single command) es = AreOfCommands (command ∷ []) es
LineGives order attached Expect es = es ≡ []
LineGives order attached (Detach s) es = es ≡ []
LineGives order attached (Flow s turns) es = IsFlow s turns (events_of es)
LineGives order attached Settle es = IsSettle attached (events_of es)
LineGives order attached (Phase jobs) es = IsPhase JobGives order jobs es

-- the same, cut off anywhere; in a phase each job may be
abbrev pub LineBegins : Order → List ℕ → Line → List NodeEntry → Type 0
LineBegins order attached (Phase jobs) es = IsPhase JobBegins order jobs es
LineBegins order attached line es = (rest : List NodeEntry) × LineGives order attached line (es ++ rest)

-- the entries are those of the lines, line after line; of all streams some are attached
abbrev pub AreOfLines : Order → List ℕ → (ℕ → Bool) → List Line → List NodeEntry → Type 0
AreOfLines order streams attached [] es = es ≡ []
AreOfLines order streams attached (line ∷ lines) es =
    (first : List NodeEntry) × (rest : List NodeEntry) × (es ≡ first ++ rest)
    × LineGives order (filter attached streams) line first
    × AreOfLines order streams (attached_after line attached) lines rest

-- the same, cut off in some line
abbrev pub AreBegun : Order → List ℕ → (ℕ → Bool) → List Line → List NodeEntry → Type 0
AreBegun order streams attached [] es = es ≡ []
AreBegun order streams attached (line ∷ lines) es =
    LineBegins order (filter attached streams) line es
    ⊎ ((first : List NodeEntry) × (rest : List NodeEntry) × (es ≡ first ++ rest)
    × LineGives order (filter attached streams) line first
    × AreBegun order streams (attached_after line attached) lines rest)

-- the history, newest first, is that of a script with these streams and lines
abbrev pub IsOfScript : Order → List ℕ → List Line → List NodeEntry → Type 0
IsOfScript order streams lines h = AreOfLines order streams (λ s. false) lines (reverse h)

-- it is that of a run of the script that came to an end at some place
abbrev pub IsBegunOf : Order → List ℕ → List Line → List NodeEntry → Type 0
IsBegunOf order streams lines h = AreBegun order streams (λ s. false) lines (reverse h)
