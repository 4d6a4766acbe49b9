-- What comes of the top call.
use Rattle.std.specs.Prelude.{◌≡◌, ◌⊎◌, ◌<◌, ℕ, List, Option, Result, Ok, Err, IfSome, codes, take}
use Rattle.std.specs.Io.KnownBytes.{Appends}
use Rattle.pr_check.specs.Texts.{IsJudged, IsTranscriptOf, judgement_line}
use Rattle.pr_check.specs.declared.judgement.Judgement.TheVariants as judgements
use Rattle.pr_ports.specs.Faults.{HasRisen}
use Rattle.pr_text.specs.Endings.{error_line}
use Rattle.pr_top.specs.Answers.{Ports, Writes}
use Rattle.pr_top.specs.Checked.{IsReadWhole, IsTooLong}
use Rattle.pr_top.specs.Runs.{WritesLine}
use Rattle.pr_top.specs.declared.checking.CheckError.{CheckError}
use Rattle.pr_top.specs.declared.checking.CheckError.TheVariants as errors
use Rattle.pr_top.specs.declared.status.Status.{Status}
use Rattle.pr_top.specs.declared.status.Status.TheVariants as status
use Rattle.pr_draw.specs.Pictures.{HasPicture}
use Rattle.pr_draw.specs.Xml.{IsDocument}

-- the text is a transcript, and this is its picture, which is well-formed
pub record IsPictureOf (text picture : List ℕ) : Type 0 where
  pub lines : ℕ
  pub transcript : IsTranscriptOf text lines
  pub shows : HasPicture text picture
  pub document : IsDocument picture

-- what is to be written of a text: the picture of a transcript, or the line that tells why it is none
abbrev pub IsToWrite : List ℕ → List ℕ → Type 0
IsToWrite text written =
    IsPictureOf text written ⊎ ((line : ℕ) × (why : ℕ) × IsJudged text (judgements.No line why) × (written ≡ judgement_line (judgements.No line why)))

-- what was written of a text, and with which status; where the sink failed it has a beginning
abbrev pub IsDrawn : List ℕ → Type 0 → Option (List ℕ) → Option (List ℕ) → Status → Type 0
IsDrawn text failed before now status.Ok = (picture : List ℕ) × IsPictureOf text picture × Appends before now picture
IsDrawn text failed before now (status.No line why) =
    IsJudged text (judgements.No line why) × Appends before now (judgement_line (judgements.No line why))
IsDrawn text failed before now status.WriteFault = failed × ((all : List ℕ) × IsToWrite text all × ((n : ℕ) × Appends before now (take n all)))
IsDrawn text failed before now status.NoMemory = WritesLine failed (error_line (codes "no memory")) before now
IsDrawn text failed before now _ = ⊥

-- the answer of the call, where so many words were given
abbrev pub AnswersDraw : ℕ → Ports → Ports → Status → Type 0
AnswersDraw words a b status.Usage = (0 < words) × Writes a b (error_line (codes "usage"))
AnswersDraw words a b status.ReadFault = (words ≡ 0) × HasRisen a.read_faults b.read_faults × Writes a b (error_line (codes "read"))
AnswersDraw words a b status.TooLarge = (words ≡ 0) × IfSome a.left IsTooLong × Writes a b (error_line (codes "too large"))
AnswersDraw words a b status.NoMemory = (words ≡ 0) × Writes a b (error_line (codes "no memory"))
AnswersDraw words a b result =
    (words ≡ 0) × ((text : List ℕ) × IsReadWhole a.left b.left text × IsDrawn text (HasRisen a.write_faults b.write_faults) a.text b.text result)

-- ---- within

-- all bytes of a source
abbrev pub AreBytes : Option (List ℕ) → Option (List ℕ) → ℕ → ℕ → Result (List ℕ) CheckError → Type 0
AreBytes left left_now faults faults_now (Ok bytes) = IsReadWhole left left_now bytes
AreBytes left left_now faults faults_now (Err errors.Failed) = HasRisen faults faults_now
AreBytes left left_now faults faults_now (Err errors.TooLarge) = IfSome left IsTooLong
AreBytes left left_now faults faults_now (Err errors.NoMemory) = Unit {0}
