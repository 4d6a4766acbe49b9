-- The jobs of a phase, beside each other, each whole or cut off.
use Rattle.std.specs.Prelude.{ℕ, List, [], ◌∷◌, ◌++◌, ◌≡◌, ◌<◌, ◌+◌, ◌⊎◌, Bool, true, false, IsTrue, All, AllPairs, reverse, filter}
use Rattle.pr_story.specs.History.{Plan, NodeEntry}
use Rattle.pr_story.specs.Clients.{is_with_needs, client_vector}
use Rattle.pr_story.specs.Turns.{IsAttached, is_with_session}
use Rattle.pr_story.specs.Commands.{Command, ToWrite, ToRead}
use Rattle.pr_story.specs.Scripts as scripts
use Rattle.pr_story.specs.Scripts.{Job, ClientJob, FlowJob, JobGives, JobBegins, JobEntry, made_of, EachJob, Order, Precedes, IsPhase, Line, Single, Expect, Detach, Flow, Settle, Phase, LineGives, LineBegins, attached_after, IsBegunOf}
use Rattle.pr_story.specs.Lawful.{IsPlaced}
use Rattle.pr_story.specs.Laws.{StandsFor}
use Rattle.pr_story.specs.Merging.{New, plain, of_job}

-- ---- the premises that the shapes of jobs leave

abbrev pub IsCommandOf : ℕ → Command → Type 0
IsCommandOf c (ToWrite client o body gone) = client ≡ c
IsCommandOf c (ToRead client o) = client ≡ c
IsCommandOf c _ = ⊥

-- the commands are writes, deletes and reads of client c
abbrev pub AreCommandsOf : ℕ → List Command → Type 0
AreCommandsOf c [] = Unit {0}
AreCommandsOf c (command ∷ commands) = IsCommandOf c command × AreCommandsOf c commands

-- job k has a client of its own, or a stream of its own that is attached in h
abbrev pub IsApartJob : List NodeEntry → (ℕ → ℕ) → (ℕ → ℕ) → ℕ → Job → Type 0
IsApartJob h streams clients k (ClientJob commands) = (c : ℕ) × AreCommandsOf c commands × (clients c ≡ k)
IsApartJob h streams clients k (FlowJob s turns) = IsAttached h s × (streams s ≡ k)

abbrev pub AreApartJobs : List NodeEntry → (ℕ → ℕ) → (ℕ → ℕ) → List Job → ℕ → Type 0
AreApartJobs h streams clients [] k = Unit {0}
AreApartJobs h streams clients (job ∷ jobs) k = IsApartJob h streams clients k job × AreApartJobs h streams clients jobs (k + 1)

-- each job, the first one with number k, gives a beginning of its entries, and there are no others; new is newest first
abbrev pub EachBegins : List Job → ℕ → List New → Type 0
EachBegins [] k new = All (λ (x : New). x.job < k) new
EachBegins (job ∷ jobs) k new = JobBegins job (plain (reverse (of_job new k))) × EachBegins jobs (k + 1) new

-- each entry of a job is at its node by h, and its stream stands and its client has seen as h and the job say
abbrev pub AreStanding : Plan → List NodeEntry → List New → Type 0
AreStanding plan h [] = Unit {0}
AreStanding plan h (x ∷ t) =
    ((x.made.node < 32) × IsPlaced plan h x.made.node x.made.entry.event
    × ((s : ℕ) → IsTrue (is_with_session x.made.entry.event s) → StandsFor plan (plain t ++ h) s x.session)
    × ((c : ℕ) → IsTrue (is_with_needs x.made.entry.event c) → x.needs ≡ client_vector (plain t ++ h) c))
    × AreStanding plan h t

-- ---- a phase whose jobs are marked

-- the job gives all its entries where it is whole, and else a beginning of them
abbrev pub JobGivesAs : Bool → Job → List NodeEntry → Type 0
JobGivesAs true job es = JobGives job es
JobGivesAs false job es = JobBegins job es

abbrev pub EachJobAs : (ℕ → Bool) → List Job → ℕ → List JobEntry → Type 0
EachJobAs whole [] k xs = All (λ (x : JobEntry). x.job < k) xs
EachJobAs whole (job ∷ jobs) k xs = JobGivesAs (whole k) job (scripts.of_job xs k) × EachJobAs whole jobs (k + 1) xs

-- a phase in which just these jobs are known to be whole
abbrev pub IsPhaseAs : (ℕ → Bool) → Order → List Job → List NodeEntry → Type 0
IsPhaseAs whole order jobs es =
    (xs : List JobEntry) × (made_of xs ≡ es) × EachJobAs whole jobs 0 xs × AllPairs (Precedes order) xs

-- what the line gives, cut off anywhere; of a phase's jobs some are known to be whole
abbrev pub LineBeginsAs : (ℕ → Bool) → Order → List ℕ → Line → List NodeEntry → Type 0
LineBeginsAs whole order attached (Phase jobs) es = IsPhaseAs whole order jobs es
LineBeginsAs whole order attached line es = (rest : List NodeEntry) × LineGives order attached line (es ++ rest)

abbrev pub AreBegunAs : (ℕ → Bool) → Order → List ℕ → (ℕ → Bool) → List Line → List NodeEntry → Type 0
AreBegunAs whole order streams attached [] es = es ≡ []
AreBegunAs whole order streams attached (line ∷ lines) es =
    LineBeginsAs whole order (filter attached streams) line es
    ⊎ ((first : List NodeEntry) × (rest : List NodeEntry) × (es ≡ first ++ rest)
    × LineGives order (filter attached streams) line first
    × AreBegunAs whole order streams (attached_after line attached) lines rest)

-- the history is that of a run that came to an end at some place, where these jobs of the phase at its end are whole
abbrev pub IsBegunAs : (ℕ → Bool) → Order → List ℕ → List Line → List NodeEntry → Type 0
IsBegunAs whole order streams lines h = AreBegunAs whole order streams (λ s. false) lines (reverse h)
