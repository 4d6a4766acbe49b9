-- What a judge of a text has found, byte by byte and at the end.
use Rattle.std.proofs.Common.{◌≡◌, ◌⊎◌, ◌+◌, ◌<◌, ◌≤◌, ℕ, Bool, true, false, inl, inr, List, [], ◌∷◌, ◌++◌, length, get_or, take, Result, Ok, Err, refl, sym, ap, subst, ◌∙◌, append_assoc, length-append, arith}
use Rattle.std.specs.Prelude.{IfOk, IsTrue, ◌↔◌}
use Rattle.std.specs.List.{flat_map}
use Rattle.std.proofs.lemmas.Grind.{flat_map-append}
use Rattle.std.proofs.lemmas.List.{append-nil, take_all, take_more}
use Rattle.std.proofs.lemmas.List.Concat.{flat_map-cons}
use Rattle.pr_script.specs.declared.decl.Decl.{Decl}
use Rattle.pr_script.specs.Reading.{HasNoEnd, IsCut, ended}
use Rattle.pr_script.proofs.OneCut.{one_cut}
use Rattle.pr_story.specs.History.{NodeEntry}
use Rattle.pr_stamps.specs.declared.no_memory.NoMemory.{NoMemory}
use Rattle.pr_check.specs.Judging.{BeginsTranscript, IsBroken, IsTranscript, end_line, told_lines, whole_lines}
use Rattle.pr_check.specs.Standing.{IsVerdict, Judges, StandsAt}
use Rattle.pr_check.specs.Texts.{HasFirstBad, HasFound, HasRead, IsJudged, IsRead, IsReadAt, IsTranscriptOf}
use Rattle.pr_check.specs.declared.finding.Finding.{Finding}
use Rattle.pr_check.specs.declared.finding.Finding.TheVariants as findings
use Rattle.pr_check.specs.declared.judge.Judge.{Judge}
use Rattle.pr_check.specs.declared.judgement.Judgement.TheVariants as judgements
use Rattle.pr_check.specs.declared.reading.Reading.{Reading}
use Rattle.pr_check.specs.declared.reading.Reading.TheVariants as readings
use Rattle.pr_check.specs.declared.stage.Stage.{Stage}
use Rattle.pr_check.specs.declared.stage.Stage.TheVariants as stages
use Rattle.pr_check.specs.declared.text_judge.TextJudge.{TextJudge}
use Rattle.pr_check.specs.declared.transcript.Transcript.{Transcript}
use Rattle.pr_sim.specs.Making.{declared_of}
use Rattle.pr_sim.specs.Running.{Tells}
use Rattle.pr_check.specs.declared.verdict.Verdict.{Verdict}
use Rattle.pr_check.specs.declared.verdict.Verdict.TheVariants as verdicts
use Rattle.pr_check.specs.Heads.{AreAccepted}
use Rattle.pr_check.proofs.Begun.{many_told}
use Rattle.pr_check.proofs.Fronts.{text_begins}
use Rattle.pr_check.proofs.NoEnds.{all_push, whole_no_ends, whole_text}

-- ---- lines that were found good begin a transcript

begins_at : (ds : List Decl) (lines : List (List ℕ)) (stage : Stage) → AreAccepted ds → StandsAt ds stage lines → BeginsTranscript lines
begins_at ds lines stages.Heads accepted stands = inl (ds, accepted, ([], append-nil lines ∙ stands))
begins_at ds lines (stages.Events e) accepted stands =
    let r = stands.0 in
    inr (inl (ds, accepted, (r.1, record { valid = r.2.stands.valid; declared = r.2.speaks }, r.4)))
begins_at ds lines (stages.Ended e) accepted (h, alone, told, is) = inr (inr (ds, accepted, (h, alone, is)))
begins_at ds lines stages.Spent accepted stands = absurd stands

begins : (judge : Judge) (lines : List (List ℕ)) → Judges judge lines → BeginsTranscript lines
begins judge lines j = begins_at judge.decls.list lines judge.stage j.decls.accepted j.stands

-- ---- cuts

pub cut_none : (under : List ℕ) → under ≡ [] → IsCut [] [] under
cut_none under is = subst (λ (r : List ℕ). IsCut [] [] r) (sym is) (record { whole = refl; each = tt; last = tt })

-- a byte that ends no line
cut_byte : (text under : List ℕ) (lines : List (List ℕ)) (b : ℕ) → (b ≡ 10 → ⊥) → IsCut text lines under → IsCut (text ++ b ∷ []) lines (under ++ b ∷ [])
cut_byte text under lines b other cut = record {
  whole = ap (λ (x : List ℕ). x ++ b ∷ []) cut.whole ∙ append_assoc (flat_map ended lines) under (b ∷ []);
  each = cut.each;
  last = all_push (λ (x : ℕ). x ≡ 10 → ⊥) under b cut.last other;
}

more_text : (text under : List ℕ) (lines : List (List ℕ)) → IsCut text lines under → text ++ 10 ∷ [] ≡ flat_map ended (lines ++ under ∷ []) ++ []
more_text text under lines cut =
    ap (λ (x : List ℕ). x ++ 10 ∷ []) cut.whole
    ∙ append_assoc (flat_map ended lines) under (10 ∷ [])
    ∙ ap (λ (x : List ℕ). flat_map ended lines ++ x) (sym (flat_map-cons ended under [] ∙ append-nil (ended under)))
    ∙ sym (flat_map-append ended lines (under ∷ []))
    ∙ sym (append-nil (flat_map ended (lines ++ under ∷ [])))

-- the end of a line
cut_line : (text under : List ℕ) (lines : List (List ℕ)) → IsCut text lines under → IsCut (text ++ 10 ∷ []) (lines ++ under ∷ []) []
cut_line text under lines cut = record {
  whole = more_text text under lines cut;
  each = all_push HasNoEnd lines under cut.each cut.last;
  last = tt;
}

-- ---- bytes

pub reads_byte : (t now : TextJudge) (text : List ℕ) (b : ℕ) → (b ≡ 10 → ⊥) → t.finding ≡ findings.Good → now.finding ≡ t.finding → now.judge ≡ t.judge → now.lines ≡ t.lines → now.under ≡ t.under ++ b ∷ []
    → HasRead t text → HasRead now (text ++ b ∷ [])
reads_byte t now text b other good f j n u read = rw (f, good, j, n, u) (by (subst (λ (x : Finding). HasFound x t.judge t.under t.lines text) good read))
  where
    by : HasFound findings.Good t.judge t.under t.lines text → HasFound findings.Good t.judge (t.under ++ b ∷ []) t.lines (text ++ b ∷ [])
    by (lines, cut, judges, count) = (lines, cut_byte text t.under lines b other cut, judges, count)

bad_before : (text more : List ℕ) (number why : ℕ) → HasFirstBad text number why → HasFirstBad (text ++ more) number why
bad_before text more number why bad =
    let whole_so : text ++ more ≡ flat_map ended (bad.lines ++ bad.line ∷ []) ++ (bad.rest ++ more) = ap (λ (x : List ℕ). x ++ more) bad.whole ∙ append_assoc (flat_map ended (bad.lines ++ bad.line ∷ [])) bad.rest more in
    record {
      lines = bad.lines;
      line = bad.line;
      rest = bad.rest ++ more;
      whole = whole_so;
      each = bad.each;
      place = bad.place;
      begins = bad.begins;
      first = bad.first;
      broken = bad.broken;
      none = λ n t. bad.first (text_begins (text ++ more) (bad.rest ++ more) (bad.lines ++ bad.line ∷ []) bad.each whole_so n t);
    }

pub reads_past : (t : TextJudge) (text : List ℕ) (b number why : ℕ) → t.finding ≡ findings.Bad number why → HasRead t text → HasRead t (text ++ b ∷ [])
reads_past t text b number why is read =
    subst (λ (x : Finding). HasFound x t.judge t.under t.lines (text ++ b ∷ [])) (sym is)
    (bad_before text (b ∷ []) number why (subst (λ (x : Finding). HasFound x t.judge t.under t.lines text) is read))

-- ---- lines

-- what is known where all lines are good
pub found_good : (t : TextJudge) (text : List ℕ) → t.finding ≡ findings.Good → HasRead t text → HasFound findings.Good t.judge t.under t.lines text
found_good t text good read = subst (λ (x : Finding). HasFound x t.judge t.under t.lines text) good read

pub reads_good : (t : TextJudge) (now : Judge) (under line : List ℕ) (number : ℕ) (text : List ℕ) (f : Finding) → t.finding ≡ findings.Good → f ≡ findings.Good → under ≡ [] → line ≡ t.under → number ≡ t.lines + 1
    → ((lines : List (List ℕ)) → Judges t.judge lines → IsVerdict lines line now (Ok verdicts.Good))
    → HasRead t text → HasFound f now under number (text ++ 10 ∷ [])
reads_good t now under line number text f good is none same count verdict read =
    let found = found_good t text good read in
    let lines = found.0 in
    let judges = subst (λ (l : List ℕ). Judges now (lines ++ l ∷ [])) same (verdict lines found.2).1 in
    let many : length (lines ++ t.under ∷ []) ≡ length lines + 1 = length-append lines (t.under ∷ []) in
    rw (is, none) (lines ++ t.under ∷ [], cut_line text t.under lines found.1, judges, count ∙ ap (λ (n : ℕ). n + 1) found.3 ∙ sym many)

pub reads_bad : (t : TextJudge) (now : Judge) (under line : List ℕ) (n number why : ℕ) (text : List ℕ) (f : Finding) → t.finding ≡ findings.Good → f ≡ findings.Bad number why → line ≡ t.under → number ≡ t.lines + 1
    → ((lines : List (List ℕ)) → Judges t.judge lines → IsVerdict lines line now (Ok (verdicts.Bad why)))
    → HasRead t text → HasFound f now under n (text ++ 10 ∷ [])
reads_bad t now under line n number why text f good is same count verdict read =
    let found = found_good t text good read in
    let lines = found.0 in
    let ends = all_push HasNoEnd lines t.under found.1.each found.1.last in
    let first : BeginsTranscript (lines ++ t.under ∷ []) → ⊥ = subst (λ (l : List ℕ). BeginsTranscript (lines ++ l ∷ []) → ⊥) same (verdict lines found.2).0 in
    rw is (record {
      lines = lines;
      line = t.under;
      rest = [];
      whole = more_text text t.under lines found.1;
      each = ends;
      place = count ∙ ap (λ (k : ℕ). k + 1) found.3;
      begins = begins t.judge lines found.2;
      first = first;
      broken = subst (λ (l : List ℕ). IsBroken lines l why) same (verdict lines found.2).1;
      none = λ m u. first (text_begins (text ++ 10 ∷ []) [] (lines ++ t.under ∷ []) ends (more_text text t.under lines found.1) m u);
    })

-- ---- pieces

pub more_read : (t : TextJudge) (text piece : List ℕ) (i : ℕ) → i < length piece → HasRead t ((text ++ take i piece) ++ get_or piece i 0 ∷ []) → HasRead t (text ++ take (i + 1) piece)
more_read t text piece i lt h =
    let e : (text ++ take i piece) ++ get_or piece i 0 ∷ [] ≡ text ++ take (i + 1) piece = rw (append_assoc, take_more piece i 0 lt) refl in
    subst (λ (x : List ℕ). HasRead t x) e h

pub whole_read : (t : TextJudge) (text piece : List ℕ) (i : ℕ) → length piece ≤ i → HasRead t (text ++ take i piece) → HasRead t (text ++ piece)
whole_read t text piece i le h = subst (λ (x : List ℕ). HasRead t (text ++ x)) (take_all i piece le) h

-- ---- the end

many_whole : (ds : List Decl) (h : List NodeEntry) → length (whole_lines ds h) ≡ (length ds + length h) + 1
many_whole ds h = length-append (told_lines ds h) (end_line (length (told_lines ds h)) ∷ []) ∙ ap (λ (n : ℕ). n + 1) (many_told ds h)

pub many_lines : (lines : List (List ℕ)) → IsTranscript lines → 0 < length lines
many_lines lines (ds, accepted, (h, alone, is)) =
    let many : length lines ≡ (length ds + length h) + 1 = ap (λ (ls : List (List ℕ)). length ls) is ∙ many_whole ds h in
    omega (arith, many)

-- a transcript's lines are those of its text
pub transcript_cut : (text under : List ℕ) (lines : List (List ℕ)) → IsCut text lines under → (n : ℕ) → IsTranscriptOf text n → IsTranscript lines × (under ≡ [])
transcript_cut text under lines cut n t =
    let same = one_cut lines (whole_lines t.ds t.h) under [] cut.each (whole_no_ends t.ds t.accepted t.h t.alone) cut.last tt
    (sym cut.whole ∙ t.whole ∙ sym (whole_text t.ds t.h) ∙ sym (append-nil (flat_map ended (whole_lines t.ds t.h)))) in
    ((t.ds, t.accepted, (t.h, t.alone, same.0)), same.1)

read_so : (text under : List ℕ) (lines : List (List ℕ)) (w : Bool) → IsCut text lines under → (IsTrue w → under ≡ []) → (under ≡ [] → IsTrue w) → (r : Reading) → IsReadAt lines w r → IsRead text r
read_so text under lines w cut none some (readings.Transcript t) (has, whole) =
    let h = has.ended.0 in (
      h,
      record {
        accepted = has.accepted;
        alone = has.ended.1;
        made = has.ended.2;
        whole =
            cut.whole
            ∙ ap (λ (r : List ℕ). flat_map ended lines ++ r) (none whole)
            ∙ append-nil (flat_map ended lines)
            ∙ ap (λ (ls : List (List ℕ)). flat_map ended ls) has.ended.3
            ∙ whole_text t.decls.list h;
      },
    )
read_so text under lines w cut none some (readings.No number why) (missing, begun, place, end) = inr (record {
  lines = lines;
  rest = under;
  cut = cut;
  place = place;
  begins = begun;
  none = λ n t. is_none n t missing;
  end = end;
})
  where
    is_none : (n : ℕ) → IsTranscriptOf text n → (IsTranscript lines → ⊥) ⊎ (w ≡ false) → ⊥
    is_none n t (inl other) = other (transcript_cut text under lines cut n t).0
    is_none n t (inr short) = let full : w ≡ true = some (transcript_cut text under lines cut n t).1 in absurd (cc)

pub read_text : (text under : List ℕ) (lines : List (List ℕ)) (w : Bool) → IsCut text lines under → IsTrue w ↔ (under ≡ []) → (r : Result Reading NoMemory) → IfOk r (IsReadAt lines w) → IfOk r (IsRead text)
read_text text under lines w cut empty (Ok reading) is = read_so text under lines w cut empty.0 empty.1 reading is
read_text text under lines w cut empty (Err fault) is = is

-- a text of good lines that lacks its last, or the end of that
pub none_at : (judge : Judge) (all : List (List ℕ)) (whole : Bool) (n : ℕ) (r : Result Reading NoMemory) → Judges judge all → n ≡ length all → (IsTranscript all → ⊥) ⊎ (whole ≡ false)
    → IfOk r (λ x. x ≡ readings.No (n + 1) 4) → IfOk r (IsReadAt all whole)
none_at judge all whole n (Ok reading) j count missing told =
    subst (λ (x : Reading). IsReadAt all whole x) (sym told) (missing, begins judge all j, ap (λ (k : ℕ). k + 1) count, refl)
none_at judge all whole n (Err fault) j count missing told = told

-- ---- what is said of it

pub judged : (t : Transcript) (n : ℕ) (text : List ℕ) → ((h : List NodeEntry) → Tells (declared_of t.decls.list) h t.engine → n ≡ length t.decls.list + length h) → IsRead text (readings.Transcript t) → IsJudged text (judgements.Yes n)
judged t n text many (h, is) = record { ds = t.decls.list; accepted = is.accepted; h = h; alone = is.alone; whole = is.whole; count = many h is.made }
