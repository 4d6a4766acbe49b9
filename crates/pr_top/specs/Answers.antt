-- When the answers of the top call come, and what each leaves.
use Rattle.std.specs.Prelude.{◌≡◌, ◌⊎◌, ◌≤◌, ◌<◌, ℕ, Bool, List, [], Option, Some, None, IfSome, codes, take}
use Rattle.std.specs.Io.KnownBytes.{Appends}
use Rattle.pr_check.specs.Texts.{judgement_line}
use Rattle.pr_check.specs.declared.judgement.Judgement.{Judgement}
use Rattle.pr_check.specs.declared.judgement.Judgement.TheVariants as judgements
use Rattle.pr_ports.specs.Faults.{HasRisen}
use Rattle.pr_gen.specs.Workload.{workload}
use Rattle.pr_script.specs.Labels.{number_among}
use Rattle.pr_script.specs.declared.kind.Kind.TheVariants as kinds
use Rattle.pr_script.specs.declared.script.Script.{Script}
use Rattle.pr_story.specs.Scripts.{JobAfterJob}
use Rattle.pr_text.specs.Endings.{bad_cause, error_line}
use Rattle.pr_words.specs.declared.job.Job.{Job}
use Rattle.pr_words.specs.declared.job.Job.TheVariants as jobs
use Rattle.pr_top.specs.Reading.{HasBadLine, HasScript}
use Rattle.pr_serve.specs.Sinks.{sink}
use Rattle.pr_top.specs.Asked.{HasAsked}
use Rattle.pr_top.specs.Carrying.{HasRunOver}
use Rattle.pr_top.specs.Checked.{HasJudged, IsTooLong}
use Rattle.pr_top.specs.Fronts.{HasBadFront, HasFront, HasLargeFront}
use Rattle.pr_top.specs.Outlived.{HasRunUntil}
use Rattle.pr_top.specs.Pulled.{EndsPull}
use Rattle.pr_top.specs.Served.{HasServed}
use Rattle.pr_top.specs.Generated.{HasGenerated}
use Rattle.pr_top.specs.Runs.{HasRun, WritesLine, all_sound}
use Rattle.pr_top.specs.Sizes.{IsTooLarge}
use Rattle.pr_top.specs.declared.reading.ReadError.{ReadError}
use Rattle.pr_top.specs.declared.reading.ReadError.TheVariants as errors
use Rattle.pr_top.specs.declared.status.Status.{Status}
use Rattle.pr_top.specs.declared.status.Status.TheVariants as status

-- the source and the sink at some moment: the bytes that are left and those that were written, where they are told, and
-- the counts of faults
pub record Ports : Type 0 where
  pub left : Option (List ℕ)
  pub read_faults : ℕ
  pub text : Option (List ℕ)
  pub write_faults : ℕ

abbrev pub ports_of : {S K : Type 0} → (S → Option (List ℕ)) → (S → ℕ) → (K → Option (List ℕ)) → (K → ℕ) → S → K → Ports
ports_of left read_faults text write_faults source sink = record {
  left = left source;
  read_faults = read_faults source;
  text = text sink;
  write_faults = write_faults sink;
}

-- the line that alone is written where there is no run
abbrev pub fault_line : Status → Option (List ℕ)
fault_line (status.BadScript line why) = Some (error_line (bad_cause line why))
fault_line status.ReadFault = Some (error_line (codes "read"))
fault_line status.TooLarge = Some (error_line (codes "too large"))
fault_line _ = None

-- the status is one of a run; want of memory may also come before there is one
abbrev pub IsOfRun : Status → Type 0
IsOfRun status.Ok = Unit {0}
IsOfRun (status.Unmet line) = Unit {0}
IsOfRun (status.Worn at) = Unit {0}
IsOfRun status.WriteFault = Unit {0}
IsOfRun (status.Lied stream number sent got) = Unit {0}
IsOfRun _ = ⊥

-- the status is one that reading a script and running it can come to
abbrev pub IsOfScript : Status → Type 0
IsOfScript status.Usage = ⊥
IsOfScript (status.No line why) = ⊥
IsOfScript (status.BadBytes at) = ⊥
IsOfScript status.NoNode = ⊥
IsOfScript _ = Unit {0}

-- a script was read, and run with this status in one thread, over wires that are sound
abbrev pub RunsScript : Ports → Ports → Status → Type 0
RunsScript a b result =
    (s : Script) × HasScript a.left b.left s × HasRun JobAfterJob all_sound result s (HasRisen a.write_faults b.write_faults) a.text b.text

-- a script was read, and run with this status over connections of which these are sound; this was told of those closed
-- before, and that afterwards
abbrev pub RunsOver : (ℕ → Bool) → Option (List (List ℕ)) → Option (List (List ℕ)) → Ports → Ports → Status → Type 0
RunsOver sound carried carried_now a b result =
    (s : Script) × HasScript a.left b.left s × HasRunOver sound carried carried_now result s (HasRisen a.write_faults b.write_faults) a.text b.text

-- a script was read, and run with this status on a disk that answers so many calls
abbrev pub RunsUntil : ℕ → Ports → Ports → Status → Type 0
RunsUntil stop a b result =
    (s : Script) × HasScript a.left b.left s × HasRunUntil stop result s (HasRisen a.write_faults b.write_faults) a.text b.text

-- the line alone was written
abbrev pub Writes : Ports → Ports → List ℕ → Type 0
Writes a b line = WritesLine (HasRisen a.write_faults b.write_faults) line a.text b.text

-- the answer to words that are not accepted, unless memory ran out
abbrev pub IsUnaccepted : Ports → Ports → Status → Type 0
IsUnaccepted a b status.Usage = Writes a b (error_line (codes "usage"))
IsUnaccepted a b status.NoMemory = Writes a b (error_line (codes "no memory"))
IsUnaccepted a b _ = ⊥

-- the answer where a script is to be read and run, of which it is told what it comes to with each status
pub record AnswersRun (Runs : Status → Type 0) (a b : Ports) (result : Status) : Type 0 where
  pub only : IsOfScript result
  -- a fault only where the object's own count rose
  pub read_fault : result ≡ status.ReadFault → HasRisen a.read_faults b.read_faults
  pub write_fault : result ≡ status.WriteFault → HasRisen a.write_faults b.write_faults
  -- the script is too large, or it was read to its end and this is its first bad line
  pub too_large : result ≡ status.TooLarge → IfSome a.left IsTooLarge
  pub bad_script : (line why : ℕ) → result ≡ status.BadScript line why → HasBadLine a.left b.left line why
  -- where there is no run, the fault's line alone is written
  pub fault : IfSome (fault_line result) (λ line. Writes a b line)
  -- where there is one, the script was read to its end, and the transcript is as the headline says
  pub run : IsOfRun result → Runs result
  pub no_memory : result ≡ status.NoMemory → Runs result ⊎ Writes a b (error_line (codes "no memory"))

-- it is run in one thread
abbrev pub AnswersScript : Ports → Ports → Status → Type 0
AnswersScript a b result = AnswersRun (RunsScript a b) a b result

-- it is run with the jobs of its phases beside each other, over connections of which these are sound
abbrev pub AnswersOver : (ℕ → Bool) → Option (List (List ℕ)) → Option (List (List ℕ)) → Ports → Ports → Status → Type 0
AnswersOver sound carried carried_now a b result = AnswersRun (RunsOver sound carried carried_now a b) a b result

-- it is run in one thread, and each entry kept on a disk that answers so many calls before its line is written
abbrev pub AnswersKept : ℕ → Ports → Ports → Status → Type 0
AnswersKept stop a b result = AnswersRun (RunsUntil stop a b) a b result

-- a script was not read, for this error, and its line alone is written
abbrev pub IsUnreadFor : ReadError → Status → Type 0 → Option (List ℕ) → Option (List ℕ) → Type 0
IsUnreadFor errors.Failed result failed before now = (result ≡ status.ReadFault) × WritesLine failed (error_line (codes "read")) before now
IsUnreadFor errors.TooLarge result failed before now = (result ≡ status.TooLarge) × WritesLine failed (error_line (codes "too large")) before now
IsUnreadFor (errors.Bad line why) result failed before now =
    ((result ≡ status.BadScript line why) × WritesLine failed (error_line (bad_cause line why)) before now)
    ⊎ ((result ≡ status.NoMemory) × WritesLine failed (error_line (codes "no memory")) before now)
IsUnreadFor errors.NoMemory result failed before now = (result ≡ status.NoMemory) × WritesLine failed (error_line (codes "no memory")) before now

-- the answer where a script is generated and run: nothing is read, and the summary is that of a history as the headline
-- says; or memory ran out before there was a run
pub record AnswersGenerated (s : Script) (a b : Ports) (result : Status) : Type 0 where
  pub unread : (b.left ≡ a.left) × (b.read_faults ≡ a.read_faults)
  pub run : HasGenerated result s (HasRisen a.write_faults b.write_faults) a.text b.text
      ⊎ ((result ≡ status.NoMemory) × Writes a b (error_line (codes "no memory")))

-- nothing was written
abbrev pub WritesNothing : Ports → Ports → Type 0
WritesNothing a b = Appends a.text b.text []

-- the answer where a node asks for its streams: no line tells a fault
abbrev pub AnswersAsk : List ℕ → Ports → Ports → Status → Type 0
AnswersAsk label a b status.ReadFault = HasRisen a.read_faults b.read_faults × WritesNothing a b
AnswersAsk label a b status.TooLarge = IfSome a.left IsTooLarge × WritesNothing a b
AnswersAsk label a b (status.BadScript line why) = HasBadLine a.left b.left line why × WritesNothing a b
AnswersAsk label a b status.NoNode =
    (s : Script) × HasScript a.left b.left s × (number_among kinds.Node s.decls.list label ≡ None) × WritesNothing a b
AnswersAsk label a b status.NoMemory = WritesNothing a b
AnswersAsk label a b result =
    (s : Script) × (n : ℕ) × HasScript a.left b.left s × (number_among kinds.Node s.decls.list label ≡ Some n)
    × HasAsked result s n (HasRisen a.write_faults b.write_faults) a.text b.text

-- the answer where a text is judged: that comes once it was read to its end, and its line alone is written
abbrev pub AnswersCheck : Ports → Ports → Status → Type 0
AnswersCheck a b status.Ok =
    (lines : ℕ) × HasJudged a.left b.left (judgements.Yes lines) × Appends a.text b.text (judgement_line (judgements.Yes lines))
AnswersCheck a b (status.No line why) =
    HasJudged a.left b.left (judgements.No line why) × Appends a.text b.text (judgement_line (judgements.No line why))
AnswersCheck a b status.WriteFault =
    HasRisen a.write_faults b.write_faults × ((j : Judgement) × HasJudged a.left b.left j × ((n : ℕ) × Appends a.text b.text (take n (judgement_line j))))
AnswersCheck a b status.ReadFault = HasRisen a.read_faults b.read_faults × Writes a b (error_line (codes "read"))
AnswersCheck a b status.TooLarge = IfSome a.left IsTooLong × Writes a b (error_line (codes "too large"))
AnswersCheck a b status.NoMemory = Writes a b (error_line (codes "no memory"))
AnswersCheck a b _ = ⊥

-- why no script was run, where a byte 0 ends it
abbrev pub IsRefused : List ℕ → Ports → Ports → Status → Type 0
IsRefused label a b status.ReadFault = HasRisen a.read_faults b.read_faults
IsRefused label a b status.TooLarge = HasLargeFront a.left
IsRefused label a b (status.BadScript line why) = HasBadFront a.left line why
IsRefused label a b status.NoNode =
    (s : Script) × (behind : Option (List ℕ)) × HasFront a.left behind s × (number_among kinds.Node s.decls.list label ≡ None)
IsRefused label a b status.NoMemory = Unit {0}
IsRefused label a b _ = ⊥

-- the line that tells it
abbrev pub refusal_line : Status → List ℕ
refusal_line (status.BadScript line why) = error_line (bad_cause line why)
refusal_line status.ReadFault = error_line (codes "read")
refusal_line status.TooLarge = error_line (codes "too large")
refusal_line status.NoNode = error_line (codes "no node")
refusal_line _ = error_line (codes "no memory")

-- the node with this label of the script serves the asks behind it
pub record ServesBehind (label : List ℕ) (a b : Ports) (result : Status) : Type 0 where
  pub script : Script
  pub node : ℕ
  pub behind : Option (List ℕ)
  pub front : HasFront a.left behind script
  pub node_is : number_among kinds.Node script.decls.list label ≡ Some node
  pub serves : HasServed result script node behind a.read_faults (sink a.text a.write_faults) b.left b.read_faults (sink b.text b.write_faults)

-- it pulls the messages behind it
pub record PullsBehind (label : List ℕ) (a b : Ports) (result : Status) : Type 0 where
  pub script : Script
  pub node : ℕ
  pub behind : Option (List ℕ)
  pub front : HasFront a.left behind script
  pub node_is : number_among kinds.Node script.decls.list label ≡ Some node
  pub pulls : EndsPull result script node behind a.read_faults b.left b.read_faults (HasRisen a.write_faults b.write_faults) a.text b.text

-- the answer where a node serves: no line tells a fault
abbrev pub AnswersServe : List ℕ → Ports → Ports → Status → Type 0
AnswersServe label a b result = (IsRefused label a b result × WritesNothing a b) ⊎ ServesBehind label a b result

-- the answer where a node pulls
abbrev pub AnswersPull : List ℕ → Ports → Ports → Status → Type 0
AnswersPull label a b result = (IsRefused label a b result × Writes a b (refusal_line result)) ⊎ PullsBehind label a b result

-- memory ran out before the words were read
abbrev pub IsUnread : Ports → Ports → Status → Type 0
IsUnread a b result = (result ≡ status.NoMemory) × Writes a b (error_line (codes "no memory"))

-- the call's answer, by the job that the words ask for. `sim` and `kept` run the jobs of a phase one after the other, over
-- wires that are sound, and `run` beside each other, over connections of which these are sound; this was told of those
-- closed before the call, and that after it
abbrev pub Answers : Option Job → (ℕ → Bool) → Option (List (List ℕ)) → Option (List (List ℕ)) → Ports → Ports → Status → Type 0
Answers (Some jobs.Sim) sound carried carried_now a b result = AnswersScript a b result
Answers (Some jobs.Run) sound carried carried_now a b result = AnswersOver sound carried carried_now a b result
Answers (Some (jobs.Gen seed size)) sound carried carried_now a b result =
    (size ≤ 90000 → AnswersGenerated (workload seed size) a b result) × (90000 < size → IsUnaccepted a b result)
Answers (Some jobs.Check) sound carried carried_now a b result = AnswersCheck a b result
Answers (Some (jobs.Kept None)) sound carried carried_now a b result = AnswersScript a b result
Answers (Some (jobs.Kept (Some stop))) sound carried carried_now a b result =
    (2 ≤ stop → stop ≤ 1000000000 → AnswersKept stop a b result) × ((stop < 2) ⊎ (1000000000 < stop) → IsUnaccepted a b result)
Answers (Some (jobs.Ask node)) sound carried carried_now a b result = AnswersAsk node a b result ⊎ IsUnread a b result
Answers (Some (jobs.Serve node)) sound carried carried_now a b result = AnswersServe node a b result ⊎ IsUnread a b result
Answers (Some (jobs.Pull node)) sound carried carried_now a b result = AnswersPull node a b result ⊎ IsUnread a b result
Answers _ sound carried carried_now a b result = IsUnaccepted a b result

-- the exit status of a process
abbrev pub number_of : Status → ℕ
number_of status.Ok = 0
number_of status.Usage = 1
number_of (status.BadScript line why) = 2
number_of status.ReadFault = 3
number_of status.WriteFault = 4
number_of status.TooLarge = 5
number_of (status.Lied stream number sent got) = 6
number_of status.NoMemory = 7
number_of (status.Unmet line) = 8
number_of (status.Worn at) = 9
number_of (status.No line why) = 10
number_of (status.BadBytes at) = 11
number_of status.NoNode = 12
