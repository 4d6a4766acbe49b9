-- What is promised of valid histories and of the histories of scripts. Each is the statement of a law.
use Rattle.std.specs.Prelude.{ℕ, List, [], ◌∷◌, ◌++◌, ◌≡◌, ◌⊎◌, ◌≤◌, ◌<◌, Bool, true, Contains, All, reverse, ◌+◌, ◌*◌, IsTrue, length}
use Rattle.pr_stamps.specs.Point.{Point}
use Rattle.pr_vectors.specs.Vector.{Covers, Le, join_of}
use Rattle.pr_sets.specs.Spans.{has, Within, IsSetOf}
use Rattle.pr_inval.specs.declared.kind.Kind.{Kind}
use Rattle.pr_inval.specs.declared.msg.Msg.{Msg}
use Rattle.pr_inval.specs.Points.{from_of, to_of}
use Rattle.pr_story.specs.declared.event.Event.TheVariants.{Attached, Sent, Accepted}
use Rattle.pr_story.specs.History.{Plan, NodeEntry, Sends, IsClosed, journal, current_vector, SomeEvent, WasWritten, entries}
use Rattle.pr_story.specs.Told.{all_sets, IsTold, IsDarkBetween}
use Rattle.pr_story.specs.Messages.{IsHonest}
use Rattle.pr_story.specs.Lawful.{Valid, IsPlaced, HasCause, IsOwnLawful}
use Rattle.pr_story.specs.Reading.{AllReadSo}
use Rattle.pr_story.specs.Counts.{Counts, IsHistory, AllNamed}
use Rattle.pr_story.specs.Merging.{New, plain, of_node, of_job, IsNodeRun, IsJobRun, AreApart}
use Rattle.pr_story.specs.Scripts.{Job, JobGives, JobBegins, Order, JobAfterJob, IsPhase, Line, LineBegins, AreBegun, IsSettle, IsOfScript, IsBegunOf, events_of}
use Rattle.pr_story.specs.Settling.{IsSettled, IsInTime, AllSendLit, HasName, IsNameless}
use Rattle.pr_story.specs.Remaining.{left_to_send, IsNoStart, SendsOn}
use Rattle.pr_story.specs.OneThread.{IsUndisturbed}
use Rattle.pr_story.specs.Phases.{AreApartJobs, IsApartJob, EachBegins, AreStanding, IsPhaseAs, IsBegunAs}
use Rattle.pr_names.specs.Span.{Span}
use Rattle.pr_inval.specs.Standing.{Standing}
use Rattle.pr_inval.specs.declared.imprecise.Imprecise.{Imprecise as Invalidation}
use Rattle.pr_inval.specs.declared.write_rec.WriteRec.{WriteRec}
use Rattle.pr_inval.specs.Targets.{IsTargetFor}
use Rattle.pr_inval.specs.Merging.{AreAdjacent, IsMerged, Rises}
use Rattle.pr_story.specs.declared.entry.Entry.{Entry}
use Rattle.pr_story.specs.declared.reply.Reply.{Reply}
use Rattle.pr_story.specs.Clients.{is_with_needs, client_vector}
use Rattle.pr_story.specs.Turns.{Turn, IsTurn, IsTarget, IsOmitted, IsWriteToSend, is_with_session, position}
use Rattle.pr_story.specs.Ranges.{IsWrite}
use Rattle.pr_story.specs.Laws.{StandsFor, Moves, IsLate, IsAnswerOf, AreAlike, IsHonestInvalidation}
use Rattle.pr_story.specs.Commands.{AreOfSameCommands}
use Rattle.pr_story.specs.Lines.{HaveSameLines, without_callers}
use Rattle.pr_story.specs.Economy.{IsQuiet, IsAmong, invalidations}

-- ---- valid histories

-- what the node's own journal allows, at its node and with its cause, is lawful
abbrev pub OneMore : Type 0
OneMore =
    (plan : Plan) (h : List NodeEntry) (e : NodeEntry) (sessions : ℕ → Standing) (seen : ℕ → List ℕ) → Valid plan h
    → ((s : ℕ) → IsTrue (is_with_session e.entry.event s) → StandsFor plan h s (sessions s))
    → ((c : ℕ) → IsTrue (is_with_needs e.entry.event c) → seen c ≡ client_vector h c)
    → e.node < 32 → IsPlaced plan h e.node e.entry.event → HasCause h e.node e.entry.event
    → IsOwnLawful sessions seen (plan.sets e.node) e.node (journal h e.node) e.entry
    → Valid plan (e ∷ h)

-- the entries of jobs that are apart, in any order that keeps that of each node and of each job, keep a history valid
abbrev pub Merges : Type 0
Merges =
    (plan : Plan) (h : List NodeEntry) (new : List New) (streams clients : ℕ → ℕ) → Valid plan h
    → ((n : ℕ) → IsNodeRun plan h n (of_node new n)) → ((k : ℕ) → IsJobRun plan h (of_job new k)) → AreApart streams clients new
    → Valid plan (plain new ++ h)

-- a client that never moves is never behind: its node knows at least what it has seen
abbrev pub NeverBehind : Type 0
NeverBehind =
    (plan : Plan) (h : List NodeEntry) (c : ℕ) → Valid plan h → ¬ SomeEvent (λ event. Moves event c) (entries h)
    → Le (client_vector h c) (current_vector (journal h (plan.home c))) × ¬ SomeEvent (λ event. IsLate event c) (entries h)

-- what two nodes with equal vectors may answer is alike, at any two places
abbrev pub NodesAnswerAlike : Type 0
NodesAnswerAlike =
    (plan : Plan) (h later : List NodeEntry) (n m : ℕ) (o : List ℕ) (a b : Reply) → Valid plan (later ++ h)
    → current_vector (journal h n) ≡ current_vector (journal (later ++ h) m)
    → IsAnswerOf plan h n o a → IsAnswerOf plan (later ++ h) m o b → AreAlike a b

-- ---- reads and messages

-- each read says what is so at its place
abbrev pub ReadsAreSo : Type 0
ReadsAreSo = (plan : Plan) (h : List NodeEntry) → Valid plan h → AllReadSo plan h

-- a closed vector that holds the start of an honest message, joined with its end, is closed; the history need not be valid
abbrev pub HonestKeepsClosed : Type 0
HonestKeepsClosed =
    (h : List NodeEntry) (v : List ℕ) (k : Kind) → IsClosed h v → IsHonest h k → Le (from_of k) v → IsClosed h (join_of v (to_of k))

-- what two honest imprecise invalidations merge into, of which one ends where the other starts, is honest; the history
-- need not be valid, only its writes have names and stamps
abbrev pub MergesAreHonest : Type 0
MergesAreHonest =
    (h : List NodeEntry) (a b merged : Invalidation) → ((x : WriteRec) (body dep : List ℕ) → WasWritten h x body dep → IsWrite x)
    → AreAdjacent a b → Rises a → Rises b → IsMerged a b merged
    → IsHonestInvalidation h a → IsHonestInvalidation h b → IsHonestInvalidation h merged

-- where the list has all the writes that the stream has to send, at most twice as many invalidations and one more are sent
abbrev pub FewInvalidations : Type 0
FewInvalidations =
    (plan : Plan) (h later : List NodeEntry) (s : ℕ) (ws : List WriteRec) → Valid plan (later ++ h) → IsQuiet (plan.stream s).source s later
    → ((x : WriteRec) → IsWriteToSend (journal h (plan.stream s).source) (plan.stream s).names (position h s) x → IsAmong x ws)
    → invalidations later s ≤ 2 * length ws + 1

-- a stream has one turn
abbrev pub OneTurn : Type 0
OneTurn = (plan : Plan) (h : List NodeEntry) (n : ℕ) (session : Standing) (a b : Turn) → Valid plan h → IsTurn n (journal h n) session a → IsTurn n (journal h n) session b → a ≡ b

-- the target that is made of the dark names and the omitted ones is this target
abbrev pub TargetsMeet : Type 0
TargetsMeet =
    (n : ℕ) (j : List Entry) (names : List Span) (v w : List ℕ) (dark omitted target : List Span)
    → IsSetOf dark (IsDarkBetween n j v w) → IsSetOf omitted (IsOmitted j names v w)
    → IsTargetFor omitted dark names target → IsTarget n j names v w target

-- all that a history names is declared, in its stamps and vectors too
abbrev pub HistoriesName : Type 0
HistoriesName = (plan : Plan) (k : Counts) (h : List NodeEntry) → IsHistory plan k h → AllNamed k h

-- ---- settles

-- a stream is in time once it is attached; each entry but a message of its own keeps it so, and so does such a message
-- that is taken next; while it is in time, what it sends leaves no gap
pub record StaysInTime (plan : Plan) (s : ℕ) : Type 0 where
  pub attached : (h : List NodeEntry) (e : NodeEntry) (at : List ℕ) → Valid plan (e ∷ h) → e.entry.event ≡ Attached s at → IsInTime plan (e ∷ h) s
  pub other : (h : List NodeEntry) (e : NodeEntry) → Valid plan (e ∷ h) → ((msg : Msg) → Sends e.entry.event msg → ¬ (msg.stream ≡ s))
      → IsInTime plan h s → IsInTime plan (e ∷ h) s
  pub taken : (h : List NodeEntry) (sent took : NodeEntry) (msg : Msg) (at : List ℕ) → Valid plan (took ∷ (sent ∷ h)) → sent.entry.event ≡ Sent msg
      → took.entry.event ≡ Accepted msg at → IsInTime plan h s → IsInTime plan (took ∷ (sent ∷ h)) s
  pub no_gap : (h : List NodeEntry) (e : NodeEntry) (msg : Msg) → Valid plan (e ∷ h) → e.entry.event ≡ Sent msg → msg.stream ≡ s
      → IsInTime plan h s → Le (from_of msg.kind) (current_vector (journal h (plan.stream s).destination))

-- after a settle of these streams each of them is settled; later has the settle's entries, the newest first
abbrev pub SettlesSettle : Type 0
SettlesSettle =
    (plan : Plan) (h later : List NodeEntry) (streams : List ℕ) → Valid plan (later ++ h) → IsSettle streams (events_of (reverse later))
    → (s : ℕ) → Contains streams s → IsSettled plan (later ++ h) s

-- a set without names is told at each point that the vector covers
abbrev pub NamelessIsTold : Type 0
NamelessIsTold =
    (plan : Plan) (h : List NodeEntry) (n : ℕ) (set : List ℕ → Bool) → Valid plan h → IsNameless set
    → (p : Point) → Covers (current_vector (journal h n)) p → IsTold n (journal h n) set p

-- where in a settle a stream sent no checkpoint, and at each of its invalidations all its names were lit for the source,
-- each of the destination's sets that has names of the stream alone is told at every point of the source's vector
abbrev pub SettlesTell : Type 0
SettlesTell =
    (plan : Plan) (h later : List NodeEntry) (streams : List ℕ) → Valid plan (later ++ h) → IsSettle streams (events_of (reverse later))
    → (s : ℕ) → Contains streams s → AllSendLit plan h s later
    → (set : List ℕ → Bool) → Contains (all_sets (plan.sets (plan.stream s).destination)) set
    → Within set (has (plan.stream s).names) → HasName set ⊎ IsNameless set
    → (p : Point) → Covers (current_vector (journal (later ++ h) (plan.stream s).source)) p
    → IsTold (plan.stream s).destination (journal (later ++ h) (plan.stream s).destination) set p

-- what is left to send grows by writes and attaches alone, and falls with each message of the streams: that of a turn, or
-- a checkpoint where the stream is stale
abbrev pub LessIsLeft : Type 0
LessIsLeft =
    (plan : Plan) (h : List NodeEntry) (e : NodeEntry) (streams : List ℕ) → Valid plan (e ∷ h) → IsNoStart e.entry.event
    → (left_to_send (e ∷ h) streams ≤ left_to_send h streams)
    × (SendsOn plan h streams e.entry.event → left_to_send (e ∷ h) streams < left_to_send h streams)

-- ---- scripts

-- a line of which nothing at all came to be has begun, and so have a job and the lines of a script
pub record NothingBegins : Type 0 where
  pub line : (order : Order) (attached : List ℕ) (line : Line) → LineBegins order attached line []
  pub job : (job : Job) → JobBegins job []
  pub lines : (order : Order) (streams : List ℕ) (attached : ℕ → Bool) (lines : List Line) → AreBegun order streams attached lines []

-- what a whole run gives, a run that may be cut off gives too
abbrev pub WholeIsBegun : Type 0
WholeIsBegun = (order : Order) (streams : List ℕ) (lines : List Line) (h : List NodeEntry) → IsOfScript order streams lines h → IsBegunOf order streams lines h

-- what one command gives at its place is one event, so entry by entry the commands determine a valid history
abbrev pub CommandsDetermine : Type 0
CommandsDetermine = (plan : Plan) (h g : List NodeEntry) → Valid plan h → Valid plan g → AreOfSameCommands h g → h ≡ g

-- the lines of a valid history determine it, but for the callers' numbers
abbrev pub LinesDetermine : Type 0
LinesDetermine = (plan : Plan) (h g : List NodeEntry) → Valid plan h → Valid plan g → HaveSameLines h g → without_callers h ≡ without_callers g

-- two valid histories of one script by one thread, of which no flow went down for its wire, are the same
abbrev pub ScriptDetermines : Type 0
ScriptDetermines =
    (plan : Plan) (streams : List ℕ) (lines : List Line) (caller : ℕ) (h g : List NodeEntry) → Valid plan h → Valid plan g
    → IsUndisturbed caller h → IsUndisturbed caller g → IsOfScript JobAfterJob streams lines h → IsOfScript JobAfterJob streams lines g → h ≡ g

-- ---- phases

-- jobs of a phase that are apart, in any order that keeps that of each node and of each job, keep a history valid
abbrev pub PhaseJobsMerge : Type 0
PhaseJobsMerge =
    (plan : Plan) (h : List NodeEntry) (new : List New) (jobs : List Job) (streams clients : ℕ → ℕ) → Valid plan h
    → AreApartJobs h streams clients jobs 0 → EachBegins jobs 0 new
    → ((n : ℕ) → IsNodeRun plan h n (of_node new n)) → ((k : ℕ) → AreStanding plan h (of_job new k))
    → Valid plan (plain new ++ h)

-- one job's own entries, the oldest first, are a run of the job, and it is apart
abbrev pub JobsAreRuns : Type 0
JobsAreRuns =
    (plan : Plan) (h : List NodeEntry) (streams clients : ℕ → ℕ) (k : ℕ) (job : Job) (own : List New) → IsApartJob h streams clients k job
    → JobBegins job (plain own) → All (λ (x : New). x.job ≡ k) own → AreStanding plan h (reverse own)
    → IsJobRun plan h (reverse own) × AreApart streams clients own

-- a phase of which all jobs are marked whole is a phase, and any marked one has begun
pub record MarkedPhases : Type 0 where
  pub all : (order : Order) (jobs : List Job) (es : List NodeEntry) → IsPhaseAs (λ k. true) order jobs es → IsPhase JobGives order jobs es
  pub of_all : (order : Order) (jobs : List Job) (es : List NodeEntry) → IsPhase JobGives order jobs es → IsPhaseAs (λ k. true) order jobs es
  pub begun : (whole : ℕ → Bool) (order : Order) (jobs : List Job) (es : List NodeEntry) → IsPhaseAs whole order jobs es → IsPhase JobBegins order jobs es

-- a run that ended in a phase with marked jobs is one that came to an end at some place
abbrev pub MarkedIsBegun : Type 0
MarkedIsBegun =
    (whole : ℕ → Bool) (order : Order) (streams : List ℕ) (lines : List Line) (h : List NodeEntry) → IsBegunAs whole order streams lines h → IsBegunOf order streams lines h
