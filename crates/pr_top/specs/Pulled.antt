-- What comes of a call that pulls the messages behind a script.
use Rattle.std.specs.Prelude.{◌≡◌, ◌⊎◌, ◌≤◌, ◌+◌, ◌++◌, ℕ, List, Option, Result, Ok, Err, IfOk, codes, decimal, length, map, take}
use Rattle.std.specs.Io.KnownBytes.{Appends}
use Rattle.pr_inval.specs.declared.msg.Msg.{Msg}
use Rattle.pr_node.specs.Stored.{NodeMeaning}
use Rattle.pr_script.specs.declared.script.Script.{Script}
use Rattle.pr_serve.specs.Laws.{AreHonest, IsGoodWith, StaysClosed, WereSentTo, with_entries}
use Rattle.pr_serve.specs.Pulling.{AreTakenBy, Pull, PullsSo, after}
use Rattle.pr_serve.specs.declared.serve_fault.ServeFault.{ServeFault}
use Rattle.pr_serve.specs.declared.serve_fault.ServeFault.TheVariants as faults
use Rattle.pr_story.specs.declared.entry.Entry.{Entry}
use Rattle.pr_story.specs.History.{NodeEntry, Plan, journal}
use Rattle.pr_story.specs.Lawful.{Valid}
use Rattle.pr_story.specs.Scripts.{JobAfterJob}
use Rattle.pr_text.specs.Endings.{error_line, ok_line}
use Rattle.pr_text.specs.Histories.{HasBegun, IsHistoryOf, transcript_text}
use Rattle.pr_text.specs.Numbers.{counts_of, nodes_of}
use Rattle.pr_text.specs.Transcripts.{plan_of}
use Rattle.pr_top.specs.Asked.{streams_to}
use Rattle.pr_top.specs.Headline.{Headline}
use Rattle.pr_top.specs.Runs.{IsLine, WritesLine, told_text}
use Rattle.pr_top.specs.Served.{node_after, status_of}
use Rattle.pr_top.specs.declared.status.Status.{Status}
use Rattle.pr_top.specs.declared.status.Status.TheVariants as status

-- ---- what the node takes in

-- the entries are those that node n makes of messages, one for each, wherever the messages come from: in each valid history
-- with the node's journal, where they were sent to the node, the history with the entries is valid and its vectors are
-- closed; and where they are honest, the node's vector stays closed
pub record HasTakenIn (plan : Plan) (h : List NodeEntry) (n : ℕ) (es : List Entry) : Type 0 where
  pub messages : List Msg
  pub taken : AreTakenBy (plan.sets n) n (journal h n) messages es
  pub sent : (g : List NodeEntry) → Valid plan g → journal g n ≡ journal h n → WereSentTo plan g n messages → IsGoodWith plan g n es
  pub honest : (g : List NodeEntry) → Valid plan g → journal g n ≡ journal h n → AreHonest g messages → StaysClosed g (journal h n) es

-- ---- what is written

-- the cause of a byte where none of what may stand there does
abbrev pub bytes_cause : ℕ → List ℕ
bytes_cause at = codes "bytes " ++ decimal at

-- the cause that the last line tells
abbrev pub cause_of : ServeFault → List ℕ
cause_of (faults.BadBytes at) = bytes_cause at
cause_of faults.ReadFault = codes "read"
cause_of faults.WriteFault = codes "write"
cause_of faults.TooLarge = codes "too large"
cause_of (faults.Worn at) = codes "worn"
cause_of faults.NoMemory = codes "no memory"

-- the run of the script stopped: what is written is a run's
abbrev pub IsStoppedText : Status → Type 0 → Script → List NodeEntry → List ℕ → Type 0
IsStoppedText (status.Worn at) failed s h text =
    (at ≡ 4611686018427387903) × (4611686018427387903 ≤ length h)
    × ((last : List ℕ) × IsLine failed (error_line (codes "worn")) last × (text ≡ told_text s h ++ last))
IsStoppedText status.NoMemory failed s h text =
    (last : List ℕ) × IsLine failed (error_line (codes "no memory")) last × ((count : ℕ) × (text ≡ take count (told_text s h) ++ last))
IsStoppedText status.WriteFault failed s h text = failed × ((count : ℕ) × (text ≡ take count (told_text s h)))
IsStoppedText _ failed s h text = ⊥

-- the pull ended so, behind this history, which has the entries of what was pulled: its lines are written, and then `ok N` or
-- the line of a fault
abbrev pub IsPulledText : Result ℕ ServeFault → Type 0 → Script → List NodeEntry → List ℕ → Type 0
IsPulledText (Ok count) failed s g text = text ≡ transcript_text s.decls.list g
IsPulledText (Err fault) failed s g text =
    (last : List ℕ) × IsLine failed (error_line (cause_of fault)) last × (text ≡ told_text s g ++ last)

-- the status is that of the pull; or the sink failed, or memory ran out, as the lines were written
abbrev pub IsPulled : Status → Result ℕ ServeFault → Type 0 → Script → List NodeEntry → List ℕ → Type 0
IsPulled status.WriteFault end failed s g text =
    failed × ((count : ℕ) × ((text ≡ take count (told_text s g)) ⊎ (text ≡ take count (transcript_text s.decls.list g))))
IsPulled status.NoMemory end failed s g text =
    (last : List ℕ) × IsLine failed (error_line (codes "no memory")) last × ((count : ℕ) × (text ≡ take count (told_text s g) ++ last))
IsPulled result end failed s g text = (result ≡ status_of end) × IsPulledText end failed s g text

-- ---- the call

abbrev pub pull_at : Option (List ℕ) → ℕ → NodeMeaning → Pull
pull_at left faults node = record { left = left; faults = faults; node = node }

-- node n, as the history left it, pulls what the source has left: it makes these entries, and ends so
pub record Pulls (s : Script) (h : List NodeEntry) (n : ℕ) (left : Option (List ℕ)) (faults : ℕ) (left_now : Option (List ℕ)) (faults_now : ℕ) (then : NodeMeaning) (es : List Entry) (end : Result ℕ ServeFault) : Type 0 where
  pub pulls : PullsSo (nodes_of s.decls.list) (streams_to s.decls.list n) (pull_at left faults (node_after (plan_of s.decls.list) h n)) (pull_at left_now faults_now then) end
  pub journal_is : then.journal ≡ after es (journal h n)
  pub took_in : HasTakenIn (plan_of s.decls.list) h n es
  pub count_is : IfOk end (λ count. count ≡ length es)

-- the script was run: its history is as promised, node n pulls, and the transcript is that of the history with what was
-- pulled
pub record HasPulled (result : Status) (s : Script) (n : ℕ) (left : Option (List ℕ)) (read_faults : ℕ) (left_now : Option (List ℕ)) (read_faults_now : ℕ) (failed : Type 0) (before now : Option (List ℕ)) : Type 0 where
  pub h : List NodeEntry
  pub headline : Headline (plan_of s.decls.list) (counts_of s.decls.list) h
  pub whole : IsHistoryOf JobAfterJob s h
  pub then : NodeMeaning
  pub entries : List Entry
  pub end : Result ℕ ServeFault
  pub pulls : Pulls s h n left read_faults left_now read_faults_now then entries end
  pub text : List ℕ
  pub written : IsPulled result end failed s (with_entries n entries h) text
  pub told : Appends before now text

-- or the run stopped
pub record HasStoppedShort (result : Status) (s : Script) (failed : Type 0) (before now : Option (List ℕ)) : Type 0 where
  pub h : List NodeEntry
  pub headline : Headline (plan_of s.decls.list) (counts_of s.decls.list) h
  pub begun : HasBegun JobAfterJob s h
  pub text : List ℕ
  pub written : IsStoppedText result failed s h text
  pub told : Appends before now text

-- the whole script was run and its node pulls, or the run stopped
abbrev pub EndsPull : Status → Script → ℕ → Option (List ℕ) → ℕ → Option (List ℕ) → ℕ → Type 0 → Option (List ℕ) → Option (List ℕ) → Type 0
EndsPull result s n left read_faults left_now read_faults_now failed before now =
    HasPulled result s n left read_faults left_now read_faults_now failed before now ⊎ HasStoppedShort result s failed before now

-- ---- within

-- the entries of node n, as a history has them
abbrev pub entries_at : ℕ → List Entry → List NodeEntry
entries_at n es = map (λ (e : Entry). record { node = n; entry = e }) es

-- what comes of a pull that was given this node
abbrev pub PullsFrom : Script → ℕ → Option (List ℕ) → ℕ → Option (List ℕ) → ℕ → NodeMeaning → NodeMeaning → Result ℕ ServeFault → Type 0
PullsFrom s n left faults left_now faults_now node then end =
    (h : List NodeEntry) → node ≡ node_after (plan_of s.decls.list) h n → (es : List Entry) × Pulls s h n left faults left_now faults_now then es end

-- the last line of a pull that ended so, behind so many lines
abbrev pub IsLastLine : Result ℕ ServeFault → Type 0 → ℕ → List ℕ → Type 0
IsLastLine (Ok count) failed lines last = last ≡ ok_line (lines + count)
IsLastLine (Err fault) failed lines last = IsLine failed (error_line (cause_of fault)) last

-- what comes of writing an `ok` line
abbrev pub IsOkTold : Status → ℕ → Type 0 → Option (List ℕ) → Option (List ℕ) → Type 0
IsOkTold status.Ok lines failed before now = Appends before now (ok_line lines)
IsOkTold status.WriteFault lines failed before now = failed × ((count : ℕ) × Appends before now (take count (ok_line lines)))
IsOkTold status.NoMemory lines failed before now = WritesLine failed (error_line (codes "no memory")) before now
IsOkTold _ lines failed before now = ⊥

-- what comes of writing the last line
abbrev pub IsClosed : Status → Result ℕ ServeFault → Type 0 → ℕ → Option (List ℕ) → Option (List ℕ) → Type 0
IsClosed status.WriteFault end failed lines before now = (n : ℕ) × (end ≡ Ok n) × IsOkTold status.WriteFault (lines + n) failed before now
IsClosed status.NoMemory end failed lines before now = WritesLine failed (error_line (codes "no memory")) before now
IsClosed result end failed lines before now =
    (result ≡ status_of end) × ((last : List ℕ) × IsLastLine end failed lines last × Appends before now last)
