-- What comes of a call that judges a transcript.
use Rattle.std.specs.Prelude.{◌≡◌, ◌⊎◌, ◌+◌, ◌<◌, ℕ, List, Option, IfSome, Result, Ok, Err, length, take, codes}
use Rattle.std.specs.Io.KnownBytes.{Appends, IsAtEnd}
use Rattle.pr_check.specs.Heads.{AreAccepted}
use Rattle.pr_check.specs.Texts.{EndsEarly, HasFirstBad, IsJudged, judgement_line}
use Rattle.pr_check.specs.declared.judgement.Judgement.{Judgement}
use Rattle.pr_check.specs.declared.judgement.Judgement.TheVariants as judgements
use Rattle.pr_ports.specs.Faults.{HasRisen}
use Rattle.pr_script.specs.declared.decl.Decl.{Decl}
use Rattle.pr_story.specs.History.{NodeEntry}
use Rattle.pr_text.specs.Endings.{error_line}
use Rattle.pr_text.specs.Histories.{transcript_text}
use Rattle.pr_text.specs.Numbers.{counts_of}
use Rattle.pr_text.specs.Transcripts.{plan_of}
use Rattle.pr_top.specs.Headline.{Headline}
use Rattle.pr_top.specs.Runs.{WritesLine}
use Rattle.pr_top.specs.declared.checking.CheckError.{CheckError}
use Rattle.pr_top.specs.declared.checking.CheckError.TheVariants as errors
use Rattle.pr_top.specs.declared.status.Status.{Status}
use Rattle.pr_top.specs.declared.status.Status.TheVariants as status

-- ---- what is read

-- there are more than 67,108,864 bytes
abbrev pub IsTooLong : List ℕ → Type 0
IsTooLong bytes = 67108864 < length bytes

-- the source was read to its end, these are all its bytes, and they are not too many
pub record IsReadWhole (left left_now : Option (List ℕ)) (bytes : List ℕ) : Type 0 where
  pub all : IfSome left (λ known. known ≡ bytes)
  pub ended : IsAtEnd left_now
  pub fits : ¬ IsTooLong bytes

-- ---- what it is

-- the bytes are the transcript of a history of what their head lines declare, with so many lines before the last, and
-- all of the headline holds of that
pub record TellsHistory (bytes : List ℕ) (lines : ℕ) : Type 0 where
  pub ds : List Decl
  pub accepted : AreAccepted ds
  pub h : List NodeEntry
  pub headline : Headline (plan_of ds) (counts_of ds) h
  pub whole : bytes ≡ transcript_text ds h
  pub count : lines ≡ length ds + length h

-- they are such a transcript; or they have a first bad line, or end too early for one
abbrev pub IsFound : List ℕ → Judgement → Type 0
IsFound bytes (judgements.Yes lines) = TellsHistory bytes lines
IsFound bytes (judgements.No line why) = HasFirstBad bytes line why ⊎ EndsEarly bytes line why

-- the whole text was read, and this is what it is
pub record HasJudged (left left_now : Option (List ℕ)) (judgement : Judgement) : Type 0 where
  pub bytes : List ℕ
  pub read : IsReadWhole left left_now bytes
  pub found : IsFound bytes judgement

-- ---- within

abbrev pub IsJudgedSo : Option (List ℕ) → Option (List ℕ) → ℕ → ℕ → Result Judgement CheckError → Type 0
IsJudgedSo left left_now faults faults_now (Ok judgement) = HasJudged left left_now judgement
IsJudgedSo left left_now faults faults_now (Err errors.Failed) = HasRisen faults faults_now
IsJudgedSo left left_now faults faults_now (Err errors.TooLarge) = IfSome left IsTooLong
IsJudgedSo left left_now faults faults_now (Err errors.NoMemory) = Unit {0}

-- these are all the bytes
abbrev pub IsFoundAtEnd : List ℕ → Result Judgement CheckError → Type 0
IsFoundAtEnd bytes (Ok judgement) = IsJudged bytes judgement
IsFoundAtEnd bytes (Err errors.NoMemory) = Unit {0}
IsFoundAtEnd bytes (Err error) = ⊥

-- the judgement's line was written, or a beginning of it where the sink failed; or memory ran out before
abbrev pub IsSaid : Judgement → Type 0 → Option (List ℕ) → Option (List ℕ) → Status → Type 0
IsSaid j failed before now status.Ok = (lines : ℕ) × (j ≡ judgements.Yes lines) × Appends before now (judgement_line j)
IsSaid j failed before now (status.No line why) = (j ≡ judgements.No line why) × Appends before now (judgement_line j)
IsSaid j failed before now status.WriteFault = failed × ((n : ℕ) × Appends before now (take n (judgement_line j)))
IsSaid j failed before now status.NoMemory = WritesLine failed (error_line (codes "no memory")) before now
IsSaid j failed before now _ = ⊥
