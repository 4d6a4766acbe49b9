-- Which texts are transcripts, and what a judge of a text finds.
use Rattle.std.specs.Prelude.{◌≡◌, ◌⊎◌, ◌+◌, ℕ, Bool, false, true, List, [], ◌∷◌, ◌++◌, codes, decimal, length}
use Rattle.std.specs.List.{AllByRecursion, flat_map}
use Rattle.pr_script.specs.declared.decl.Decl.{Decl}
use Rattle.pr_script.specs.Reading.{HasNoEnd, IsCut, ended}
use Rattle.pr_story.specs.History.{NodeEntry}
use Rattle.pr_sim.specs.Making.{declared_of}
use Rattle.pr_sim.specs.Running.{Tells}
use Rattle.pr_text.specs.Histories.{transcript_text}
use Rattle.pr_check.specs.Heads.{AreAccepted}
use Rattle.pr_check.specs.Judging.{BeginsTranscript, IsAlone, IsBroken, IsTranscript}
use Rattle.pr_check.specs.Standing.{HasLines, Judges}
use Rattle.pr_check.specs.declared.finding.Finding.{Finding}
use Rattle.pr_check.specs.declared.finding.Finding.TheVariants as findings
use Rattle.pr_check.specs.declared.judge.Judge.{Judge}
use Rattle.pr_check.specs.declared.judgement.Judgement.{Judgement}
use Rattle.pr_check.specs.declared.judgement.Judgement.TheVariants as judgements
use Rattle.pr_check.specs.declared.reading.Reading.{Reading}
use Rattle.pr_check.specs.declared.reading.Reading.TheVariants as readings
use Rattle.pr_check.specs.declared.text_judge.TextJudge.{TextJudge}
use Rattle.pr_check.specs.declared.transcript.Transcript.{Transcript}

-- ---- texts

-- the text is the transcript of a history that is valid and of what its head lines declare, with so many lines before its
-- last
pub record IsTranscriptOf (text : List ℕ) (n : ℕ) : Type 0 where
  pub ds : List Decl
  pub accepted : AreAccepted ds
  pub h : List NodeEntry
  pub alone : IsAlone ds h
  pub whole : text ≡ transcript_text ds h
  pub count : n ≡ length ds + length h

-- the text is no transcript
abbrev pub IsNone : List ℕ → Type 0
IsNone text = (n : ℕ) → ¬ IsTranscriptOf text n

-- the line of this number, counted from 1, is the text's first bad one: those before it begin a transcript, and with it
-- they begin none; it breaks what `why` tells. Anything may follow it, and the text is none
pub record HasFirstBad (text : List ℕ) (number why : ℕ) : Type 0 where
  pub lines : List (List ℕ)
  pub line : List ℕ
  pub rest : List ℕ
  pub whole : text ≡ flat_map ended (lines ++ line ∷ []) ++ rest
  pub each : AllByRecursion HasNoEnd (lines ++ line ∷ [])
  pub place : number ≡ length lines + 1
  pub begins : BeginsTranscript lines
  pub first : ¬ BeginsTranscript (lines ++ line ∷ [])
  pub broken : IsBroken lines line why
  pub none : IsNone text

-- all lines of the text begin a transcript, and it is none; the number is one past the last line
pub record EndsEarly (text : List ℕ) (number why : ℕ) : Type 0 where
  pub lines : List (List ℕ)
  pub rest : List ℕ
  pub cut : IsCut text lines rest
  pub place : number ≡ length lines + 1
  pub begins : BeginsTranscript lines
  pub none : IsNone text
  pub end : why ≡ 4

-- ---- what is answered

-- the nodes have made this history of what is declared, and the text is its transcript
pub record IsTextOf (t : Transcript) (h : List NodeEntry) (text : List ℕ) : Type 0 where
  pub accepted : AreAccepted t.decls.list
  pub alone : IsAlone t.decls.list h
  pub made : Tells (declared_of t.decls.list) h t.engine
  pub whole : text ≡ transcript_text t.decls.list h

-- the text is the transcript of what the nodes have made; or it is none
abbrev pub IsRead : List ℕ → Reading → Type 0
IsRead text (readings.Transcript t) = (h : List NodeEntry) × IsTextOf t h text
IsRead text (readings.No number why) = HasFirstBad text number why ⊎ EndsEarly text number why

abbrev pub IsJudged : List ℕ → Judgement → Type 0
IsJudged text (judgements.Yes n) = IsTranscriptOf text n
IsJudged text (judgements.No number why) = HasFirstBad text number why ⊎ EndsEarly text number why

abbrev pub judgement_line : Judgement → List ℕ
judgement_line (judgements.Yes n) = codes "yes " ++ (decimal n ++ 10 ∷ [])
judgement_line (judgements.No number why) = codes "no " ++ (decimal number ++ (codes " why " ++ (decimal why ++ 10 ∷ [])))

-- the lines are those of a transcript, and nothing stands behind them; or one is missing, or a last one has no end
abbrev pub IsReadAt : List (List ℕ) → Bool → Reading → Type 0
IsReadAt lines whole (readings.Transcript t) = HasLines t lines × (whole ≡ true)
IsReadAt lines whole (readings.No number why) =
    (¬ IsTranscript lines ⊎ (whole ≡ false)) × BeginsTranscript lines × (number ≡ length lines + 1) × (why ≡ 4)

-- ---- what a judge keeps

-- the text's lines, all of them good, and the line under way; or its first bad line
abbrev pub HasFound : Finding → Judge → List ℕ → ℕ → List ℕ → Type 0
HasFound findings.Good judge under n text =
    (lines : List (List ℕ)) × IsCut text lines under × Judges judge lines × (n ≡ length lines)
HasFound (findings.Bad number why) judge under n text = HasFirstBad text number why
HasFound findings.Spent judge under n text = ⊥

-- the judge was given this text
abbrev pub HasRead : TextJudge → List ℕ → Type 0
HasRead t text = HasFound t.finding t.judge t.under t.lines text
