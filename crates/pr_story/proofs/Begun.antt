-- Runs that may be cut off: a whole one is, and one of which nothing came to be.
use Rattle.std.proofs.Common.{◌≡◌, ℕ, ◌+◌, List, [], ◌∷◌, ◌++◌, arith, ap, subst, sym, inl, inr, refl, reverse}
use Rattle.std.specs.Prelude.{Bool, false, filter}
use Rattle.pr_inval.specs.declared.kind.Kind.TheVariants.{Checkpoint}
use Rattle.pr_story.specs.declared.cause.Cause.TheVariants.{Failed}
use Rattle.pr_story.specs.declared.event.Event.{Event}
use Rattle.pr_story.specs.declared.event.Event.TheVariants.{Attached, Sent, Idle, Missing, Down, Behind, Moved, Cut, Dropped, Conflicts, State}
use Rattle.pr_story.specs.declared.found.Found.TheVariants as found
use Rattle.pr_story.specs.History.{NodeEntry}
use Rattle.pr_story.specs.Commands.{Command, Gives, ToWrite, ToRead, ToMove, ToAttach, ToSend, ToCheckpoint, ToDeliver, ToEnd, ToCut, ToDrop, ToFindConflicts, ToTellState}
use Rattle.pr_story.specs.Scripts.{Job, ClientJob, FlowJob, JobBegins, EachJob, Order, Precedes, Line, Single, Expect, Detach, Flow, Settle, Phase, LineBegins, IsSettle, AreAttaches, AreRound, HasSent, AreOfCommands, attached_after, events_of, AreOfLines, AreBegun}
use Rattle.pr_story.specs.Statements.{NothingBegins, WholeIsBegun}
use Rattle.pr_story.proofs.InOrder.{pairs_none}

all_begun : (order : Order) (streams : List ℕ) (attached : ℕ → Bool) (lines : List Line) (es : List NodeEntry) → AreOfLines order streams attached lines es → AreBegun order streams attached lines es
all_begun order streams attached [] es whole = whole
all_begun order streams attached (line ∷ lines) es whole =
    inr (whole.0, whole.1, whole.2, whole.3, all_begun order streams (attached_after line attached) lines whole.1 whole.4)

pub whole_begun : WholeIsBegun
whole_begun order streams lines h whole = all_begun order streams (λ s. false) lines (reverse h) whole

-- ---- each line gives something

abbrev given : ℕ → Event → NodeEntry
given n event = record { node = n; entry = record { time = 0; caller = 0; event = event } }

-- an event that the command may give, and its node
gives_some : (command : Command) → (n : ℕ) × (event : Event) × Gives command n event
gives_some (ToWrite c o body gone) = (0, Behind c [] [], refl)
gives_some (ToRead c o) = (0, Behind c [] [], refl)
gives_some (ToMove c m) = (m, Moved c, (refl, refl))
gives_some (ToAttach s) = (0, Attached s [], refl)
gives_some (ToSend s) = (0, Idle s, refl)
gives_some (ToCheckpoint s) = (0, Sent (record { time = 0; stream = s; number = 0; kind = Checkpoint [] [] [] [] }), (refl, tt))
gives_some (ToDeliver s k) = (0, Missing s k, (refl, refl))
gives_some (ToEnd s cause) = (0, Down s cause, (refl, refl))
gives_some (ToCut m) = (m, Cut [], refl)
gives_some (ToDrop m o) = (m, Dropped o, (refl, refl))
gives_some (ToFindConflicts m o) = (m, Conflicts o (found.Pairs []), (refl, refl))
gives_some (ToTellState m) = (m, State [] [] [] [], refl)

all_give : (commands : List Command) → (es : List NodeEntry) × AreOfCommands commands es
all_give [] = ([], refl)
all_give (command ∷ commands) =
    let some = gives_some command in
    let more = all_give commands in
    (given some.0 some.1 ∷ more.0, (some.2, more.1))

job_begins : (job : Job) → JobBegins job []
job_begins (ClientJob commands) = all_give commands
job_begins (FlowJob s turns) = (given 0 (Down s Failed) ∷ [], inr refl)

-- each stream attached, and then idle
attaches : (streams : List ℕ) → (events : List Event) × AreAttaches streams events
attaches [] = ([], refl)
attaches (s ∷ streams) = let more = attaches streams in (Attached s [] ∷ more.0, (refl, more.1))

all_given : (events : List Event) → (es : List NodeEntry) × (events_of es ≡ events)
all_given [] = ([], refl)
all_given (event ∷ events) = let more = all_given events in (given 0 event ∷ more.0, ap (λ (x : List Event). event ∷ x) more.1)

each_begins : (jobs : List Job) (k : ℕ) → EachJob JobBegins jobs k []
each_begins [] k = λ i d lt. absurd (omega (arith, lt))
each_begins (job ∷ jobs) k = (job_begins job, each_begins jobs (k + 1))

-- one idle turn of each stream
idle_round : (streams : List ℕ) → (events : List Event) × AreRound streams events × ¬ HasSent events
idle_round [] = ([], refl, λ sent. sent)
idle_round (s ∷ streams) = let more = idle_round streams in (Idle s ∷ more.0, (Idle s ∷ [], more.0, refl, refl, more.1), more.2)

settle_gives : (streams : List ℕ) → (events : List Event) × IsSettle streams events
settle_gives streams =
    let first = attaches streams in
    let last = idle_round streams in
    (first.0 ++ last.0, (first.0, last.0, 0, refl, first.1, (last.1, last.2)))

line_begins : (order : Order) (attached : List ℕ) (line : Line) → LineBegins order attached line []
line_begins order attached (Single command) = let some = gives_some command in (given some.0 some.1 ∷ [], (some.2, refl))
line_begins order attached Expect = ([], refl)
line_begins order attached (Detach s) = ([], refl)
line_begins order attached (Flow s turns) = (given 0 (Down s Failed) ∷ [], inr refl)
line_begins order attached Settle =
    let settle = settle_gives attached in
    let es = all_given settle.0 in
    (es.0, subst (λ (x : List Event). IsSettle attached x) (sym es.1) settle.1)
line_begins order attached (Phase jobs) = ([], refl, each_begins jobs 0, pairs_none (Precedes order))

lines_begin : (order : Order) (streams : List ℕ) (attached : ℕ → Bool) (lines : List Line) → AreBegun order streams attached lines []
lines_begin order streams attached [] = refl
lines_begin order streams attached (line ∷ lines) = inl (line_begins order (filter attached streams) line)

pub nothing_begins : NothingBegins
nothing_begins = record { line = line_begins; job = job_begins; lines = lines_begin }
