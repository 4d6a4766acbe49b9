-- The answers of the top call.
use Rattle.std.proofs.Common.{◌≡◌, ◌+◌, ℕ, List, Option, inr, refl, subst, length}
use Rattle.std.specs.Io.KnownBytes.{Appends}
use Rattle.pr_check.specs.Texts.{IsJudged, IsRead, IsTextOf, IsTranscriptOf, judgement_line}
use Rattle.pr_check.specs.declared.judgement.Judgement.{Judgement}
use Rattle.pr_check.specs.declared.judgement.Judgement.TheVariants as judgements
use Rattle.pr_check.specs.declared.reading.Reading.{Reading}
use Rattle.pr_check.specs.declared.reading.Reading.TheVariants as readings
use Rattle.pr_check.specs.declared.transcript.Transcript.{Transcript}
use Rattle.pr_ports.specs.Faults.{HasRisen}
use Rattle.pr_top.specs.Answers.{Ports}
use Rattle.pr_top.specs.Checked.{IsReadWhole, IsSaid}
use Rattle.pr_top.specs.declared.status.Status.{Status}
use Rattle.pr_top.specs.declared.status.Status.TheVariants as status
use Rattle.pr_draw.specs.Drawn.{AnswersDraw, IsDrawn}

-- ---- what the text is

pub transcript_of : (text : List ℕ) (reading : Reading) (t : Transcript) → reading ≡ readings.Transcript t → IsRead text reading → (lines : ℕ) × IsTranscriptOf text lines
transcript_of text reading t is read = by (subst (λ (r : Reading). IsRead text r) is read)
  where
    by : (h : _) × IsTextOf t h text → (lines : ℕ) × IsTranscriptOf text lines
    by (h, told) = (length t.decls.list + length h, record { ds = t.decls.list; accepted = told.accepted; h = h; alone = told.alone; whole = told.whole; count = refl })

pub judged_none : (text : List ℕ) (reading : Reading) (line why : ℕ) → reading ≡ readings.No line why → IsRead text reading → IsJudged text (judgements.No line why)
judged_none text reading line why is read = subst (λ (r : Reading). IsRead text r) is read

-- ---- what was written

pub said_drawn : (text : List ℕ) (failed : Type 0) (before now : Option (List ℕ)) (line why : ℕ) (r : Status) → IsJudged text (judgements.No line why)
    → IsSaid (judgements.No line why) failed before now r → IsDrawn text failed before now r
said_drawn text failed before now line why status.Ok judged (lines, is, told) = absurd (cc)
said_drawn text failed before now line why (status.No l w) judged (is, told) =
    (subst (λ (j : Judgement). IsJudged text j) is judged, subst (λ (j : Judgement). Appends before now (judgement_line j)) is told)
said_drawn text failed before now line why status.WriteFault judged (fault, cut) = (fault, (judgement_line (judgements.No line why), inr (line, why, judged, refl), cut))
said_drawn text failed before now line why status.NoMemory judged told = told
said_drawn text failed before now line why _ judged told = absurd told

-- ---- the answer

answers : (words : ℕ) (a b : Ports) (text : List ℕ) (r : Status) → words ≡ 0 → IsReadWhole a.left b.left text → IsDrawn text (HasRisen a.write_faults b.write_faults) a.text b.text r → AnswersDraw words a b r
answers words a b text status.Ok none read drawn = (none, (text, read, drawn))
answers words a b text (status.No line why) none read drawn = (none, (text, read, drawn))
answers words a b text status.WriteFault none read drawn = (none, (text, read, drawn))
answers words a b text status.NoMemory none read drawn = (none, drawn)
answers words a b text _ none read drawn = absurd drawn

-- what was read is what was drawn
pub answered : (words : ℕ) (a b : Ports) (text slice : List ℕ) (r : Status) → words ≡ 0 → slice ≡ text → IsReadWhole a.left b.left text → IsDrawn slice (HasRisen a.write_faults b.write_faults) a.text b.text r → AnswersDraw words a b r
answered words a b text slice r none same read drawn =
    answers words a b text r none read (subst (λ (t : List ℕ). IsDrawn t (HasRisen a.write_faults b.write_faults) a.text b.text r) same drawn)
