-- Which lists of lines are transcripts, and what the first bad line breaks. Lines stand without their ends.
use Rattle.std.specs.Prelude.{ℕ, ◌≡◌, ◌≢◌, ◌⊎◌, List, [], ◌∷◌, ◌++◌, IsTrue, codes, decimal, length, nat_eq}
use Rattle.std.specs.List.{starts_with}
use Rattle.pr_script.specs.declared.decl.Decl.{Decl}
use Rattle.pr_script.specs.Printing.{decl_lines}
use Rattle.pr_story.specs.Counts.{IsHistory}
use Rattle.pr_story.specs.History.{NodeEntry}
use Rattle.pr_text.specs.Lines.{sentence}
use Rattle.pr_text.specs.Numbers.{counts_of}
use Rattle.pr_text.specs.Transcripts.{plan_of}
use Rattle.pr_check.specs.Heads.{AreAccepted, IsHead, begins_head}
use Rattle.pr_check.specs.Lines.{IsEventLine}

-- the history is valid and of what is declared; no script is known
abbrev pub IsAlone : List Decl → List NodeEntry → Type 0
IsAlone ds h = IsHistory (plan_of ds) (counts_of ds) h

-- ---- lines

-- a line for each entry, the oldest first
abbrev pub event_lines : List Decl → List NodeEntry → List (List ℕ)
event_lines ds [] = []
event_lines ds (e ∷ h) = event_lines ds h ++ sentence ds e.node e.entry.event ∷ []

-- the head lines, and those of the entries
abbrev pub told_lines : List Decl → List NodeEntry → List (List ℕ)
told_lines ds h = decl_lines [] ds ++ event_lines ds h

-- the last line, behind so many
abbrev pub end_line : ℕ → List ℕ
end_line n = codes "ok " ++ decimal n

-- all lines of a transcript
abbrev pub whole_lines : List Decl → List NodeEntry → List (List ℕ)
whole_lines ds h = told_lines ds h ++ end_line (length (told_lines ds h)) ∷ []

-- ---- transcripts

-- the lines are a beginning of head lines that a script may have
abbrev pub BeginsHeads : List (List ℕ) → Type 0
BeginsHeads lines = (ds : List Decl) × AreAccepted ds × ((rest : List (List ℕ)) × (lines ++ rest ≡ decl_lines [] ds))

-- they are head lines, and the lines of a history of what these declare
abbrev pub TellsHistory : List (List ℕ) → Type 0
TellsHistory lines = (ds : List Decl) × AreAccepted ds × ((h : List NodeEntry) × IsAlone ds h × (lines ≡ told_lines ds h))

-- they are that, and the last line
abbrev pub IsTranscript : List (List ℕ) → Type 0
IsTranscript lines = (ds : List Decl) × AreAccepted ds × ((h : List NodeEntry) × IsAlone ds h × (lines ≡ whole_lines ds h))

abbrev pub BeginsTranscript : List (List ℕ) → Type 0
BeginsTranscript lines = BeginsHeads lines ⊎ (TellsHistory lines ⊎ IsTranscript lines)

-- the first lines of what begins a transcript begin one
abbrev pub BeginLineByLine : Type 0
BeginLineByLine = (lines more : List (List ℕ)) → BeginsTranscript (lines ++ more) → BeginsTranscript lines

-- ---- the first bad line

abbrev pub BeginsOk : List ℕ → Type 0
BeginsOk line = IsTrue (starts_with nat_eq line (codes "ok"))

-- the lines so far are head lines alone
abbrev pub AreHeads : List (List ℕ) → Type 0
AreHeads lines = (ds : List Decl) × AreAccepted ds × (lines ≡ decl_lines [] ds)

-- the lines so far declare this
abbrev pub AreBehind : List Decl → List (List ℕ) → Type 0
AreBehind ds lines = AreAccepted ds × ((h : List NodeEntry) × IsAlone ds h × ((lines ≡ told_lines ds h) ⊎ (lines ≡ whole_lines ds h)))

-- a line that begins as a head line, behind head lines alone
abbrev pub IsAsHead : List (List ℕ) → List ℕ → Type 0
IsAsHead lines line = AreHeads lines × IsTrue (begins_head line)

-- and it is the head line of no declaration more
abbrev pub IsNoHead : List Decl → List (List ℕ) → List ℕ → Type 0
IsNoHead ds lines line = IsAsHead lines line × ((d : Decl) → ¬ IsHead ds line d)

-- it is neither a head line, nor an event's, nor a last one
abbrev pub IsNoLine : List Decl → List (List ℕ) → List ℕ → Type 0
IsNoLine ds lines line = ¬ IsTranscript lines × ¬ IsAsHead lines line × ¬ IsEventLine ds line × ¬ BeginsOk line

-- a history has the lines so far, behind which no entry with this line may come
abbrev pub MayNotCome : List Decl → List (List ℕ) → List ℕ → Type 0
MayNotCome ds lines line =
    (h : List NodeEntry) × IsAlone ds h × (lines ≡ told_lines ds h) × ((e : NodeEntry) → IsAlone ds (e ∷ h) → sentence ds e.node e.entry.event ≢ line)

-- it is the line of an event that may not come there
abbrev pub IsOfEvent : List Decl → List (List ℕ) → List ℕ → Type 0
IsOfEvent ds lines line = ¬ IsTranscript lines × IsEventLine ds line × MayNotCome ds lines line

-- it is behind the last line, or it is to be a last one and is not the right one
abbrev pub IsAtEnd : List Decl → List (List ℕ) → List ℕ → Type 0
IsAtEnd ds lines line = IsTranscript lines ⊎ (¬ IsEventLine ds line × BeginsOk line × (line ≢ end_line (length lines)))

-- the number that tells which of these a bad line is, behind lines with these declarations
abbrev pub Breaks : List Decl → List (List ℕ) → List ℕ → ℕ → Type 0
Breaks ds lines line why =
    ((why ≡ 1) × IsNoHead ds lines line)
    ⊎ (((why ≡ 2) × IsNoLine ds lines line)
    ⊎ (((why ≡ 3) × IsOfEvent ds lines line)
    ⊎ ((why ≡ 4) × IsAtEnd ds lines line)))

-- with what the lines so far declare, this line breaks that
pub record IsBroken (lines : List (List ℕ)) (line : List ℕ) (why : ℕ) : Type 0 where
  pub ds : List Decl
  pub behind : AreBehind ds lines
  pub breaks : Breaks ds lines line why
