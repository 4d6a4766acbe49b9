-- A bad line begins no transcript, behind what is before it.
use Rattle.std.proofs.Common.{◌≡◌, ◌⊎◌, ℕ, true, false, inl, inr, List, [], ◌∷◌, ◌++◌, length, Ok, refl, sym, ap, subst, ◌∙◌, append_assoc}
use Rattle.std.specs.List.{flat_map}
use Rattle.std.proofs.lemmas.List.{append-nil, append_cancel_right}
use Rattle.pr_script.specs.declared.decl.Decl.{Decl}
use Rattle.pr_script.specs.declared.decl.Decl.TheVariants as decls
use Rattle.pr_script.specs.Printing.{decl_lines, decl_text}
use Rattle.pr_script.specs.Reading.{ended}
use Rattle.pr_story.specs.History.{NodeEntry}
use Rattle.pr_story.specs.Lines.{without_callers}
use Rattle.pr_text.specs.Lines.{sentence}
use Rattle.pr_text.specs.Transcripts.{lines_text, plan_of}
use Rattle.pr_text.proofs.Histories.{lines_tell}
use Rattle.pr_check.specs.Heads.{AreAccepted, IsHead, begins_head}
use Rattle.pr_check.specs.Judging.{AreBehind, BeginsTranscript, Breaks, IsAlone, IsBroken, end_line, told_lines, whole_lines}
use Rattle.pr_check.specs.Lines.{IsEventLine}
use Rattle.pr_check.specs.Standing.{IsSpent, IsVerdict}
use Rattle.pr_check.specs.declared.judge.Judge.{Judge}
use Rattle.pr_check.specs.declared.verdict.Verdict.TheVariants as verdicts
use Rattle.pr_check.proofs.Begun.{begins_as_head, end_no_head, end_ok, heads_told, last_two, no_head, no_ok, no_transcript, not_both, not_ended, ok_first, told_more, told_one}
use Rattle.pr_check.proofs.CallersAside.{lawful_same}
use Rattle.pr_check.proofs.Judged.{tellable}
use Rattle.pr_check.proofs.NoEnds.{accepted_labels, events_text, older}
use Rattle.pr_check.proofs.Prefixes.{fewer_accepted}

-- ---- one head line more

-- the lines are the head lines of the first declarations, and the line is that of the next
record HasNext (gs front : List Decl) (lines : List (List ℕ)) (line : List ℕ) : Type 0 where
  before : List Decl
  decl : Decl
  behind : List Decl
  all : gs ≡ before ++ decl ∷ behind
  heads : lines ≡ decl_lines front before
  head : line ≡ decl_text (front ++ before) decl

next_of : (gs front : List Decl) (lines : List (List ℕ)) (line : List ℕ) (rest : List (List ℕ)) → (lines ++ line ∷ []) ++ rest ≡ decl_lines front gs → HasNext gs front lines line
unfolding decl_lines
next_of [] front [] line rest e = absurd cc
next_of [] front (l ∷ lines) line rest e = absurd cc
next_of (g ∷ gs) front [] line rest e =
    let first : line ≡ decl_text front g = cc in
    record { before = []; decl = g; behind = gs; all = refl; heads = refl; head = first ∙ ap (λ (ds : List Decl). decl_text ds g) (sym (append-nil front)) }
next_of (g ∷ gs) front (l ∷ lines) line rest e =
    let first : l ≡ decl_text front g = cc in
    let more : (lines ++ line ∷ []) ++ rest ≡ decl_lines (front ++ g ∷ []) gs = cc in
    let n = next_of gs (front ++ g ∷ []) lines line rest more in
    record {
      before = g ∷ n.before;
      decl = n.decl;
      behind = n.behind;
      all = ap (λ (ds : List Decl). g ∷ ds) n.all;
      heads = ap (λ (x : List ℕ). x ∷ lines) first ∙ ap (λ (xs : List (List ℕ)). decl_text front g ∷ xs) n.heads;
      head = n.head ∙ ap (λ (ds : List Decl). decl_text ds n.decl) (append_assoc front (g ∷ []) n.before);
    }

head_not_ok : (front : List Decl) (d : Decl) → ok_first (decl_text front d) ≡ false
unfolding decl_text
head_not_ok front (decls.Node label sets) = refl
head_not_ok front (decls.Client label node) = refl
head_not_ok front (decls.Stream label source dest sub bodies) = refl

-- ---- lines that tell a history

telling : (ds : List Decl) (h g : List NodeEntry) (e : NodeEntry) → AreAccepted ds → told_lines ds g ≡ told_lines ds h → IsAlone ds h → IsAlone ds (e ∷ g) → IsAlone ds (e ∷ h)
telling ds h g e accepted is a b =
    let older_too = older ds e g b in
    let events = (told_one ds ds g h accepted accepted is).1 in
    let texts : lines_text ds g ≡ lines_text ds h = sym (events_text ds g) ∙ ap (λ (ls : List (List ℕ)). flat_map ended ls) events ∙ events_text ds h in
    let same : without_callers g ≡ without_callers h = lines_tell ds g h (accepted_labels ds accepted) older_too a texts in
    record { valid = (lawful_same (plan_of ds) h g e same b.valid.0, a.valid); declared = (b.declared.0, a.declared) }

module _ (ds : List Decl) (lines : List (List ℕ)) (line : List ℕ) (why : ℕ) (accepted : AreAccepted ds) (h : List NodeEntry)
    (behind : (lines ≡ told_lines ds h) ⊎ (lines ≡ whole_lines ds h)) (breaks : Breaks ds lines line why) where
  no_event_head : IsEventLine ds line → begins_head line ≡ false
  no_event_head (n, event, told) =
      ap begins_head (sym (append_cancel_right (sentence ds n event) line (10 ∷ []) told.1)) ∙ no_head ds n event

  no_event_ok : IsEventLine ds line → ok_first line ≡ false
  no_event_ok (n, event, told) =
      ap ok_first (sym (append_cancel_right (sentence ds n event) line (10 ∷ []) told.1)) ∙ no_ok ds n event

  -- the line is no head line more
  same_told : (us : List Decl) (g : List NodeEntry) → AreAccepted us → lines ≡ told_lines us g → ds ≡ us
  same_told us g other is = by behind
    where
      by : (lines ≡ told_lines ds h) ⊎ (lines ≡ whole_lines ds h) → ds ≡ us
      by (inl told) = (told_one ds us h g accepted other (sym told ∙ is)).0
      by (inr whole) = absurd (not_ended us g (told_lines ds h) (length (told_lines ds h)) (sym is ∙ whole))

  no_more_heads : (us : List Decl) (d : Decl) → AreAccepted us → AreAccepted (us ++ d ∷ []) → lines ≡ decl_lines [] us → line ≡ decl_text us d → ⊥
  no_more_heads us d other more is text = by breaks
    where
      begun : begins_head line ≡ true
      begun = ap begins_head text ∙ begins_as_head us d

      told : lines ≡ told_lines us []
      told = heads_told us lines is

      head : IsHead ds line d
      head = subst (λ (xs : List Decl). IsHead xs line d) (sym (same_told us [] other told)) (record { accepted = more; text = text })

      by : Breaks ds lines line why → ⊥
      by (inl (w, (as_head, none))) = none d head
      by (inr (inl (w, (not_whole, not_head, not_event, not_last)))) = not_head ((us, other, is), begun)
      by (inr (inr (inl (w, (not_whole, event, may_not))))) = not_both (begins_head line) begun (no_event_head event)
      by (inr (inr (inr (w, inl whole)))) = no_transcript us [] lines told whole
      by (inr (inr (inr (w, inr (not_event, last, other_line))))) = not_both (ok_first line) last (ap ok_first text ∙ head_not_ok us d)

  no_heads : (gs : List Decl) (rest : List (List ℕ)) → AreAccepted gs → (lines ++ line ∷ []) ++ rest ≡ decl_lines [] gs → ⊥
  no_heads gs rest more is =
      let n = next_of gs [] lines line rest is in
      no_more_heads n.before n.decl (fewer_accepted n.before (n.decl ∷ n.behind) (subst AreAccepted n.all more))
      (fewer_accepted (n.before ++ n.decl ∷ []) n.behind (subst AreAccepted (n.all ∙ sym (append_assoc n.before (n.decl ∷ []) n.behind)) more)) n.heads n.head

  -- it is the line of no entry that may come
  no_entry : (g : List NodeEntry) (e : NodeEntry) → IsAlone ds (e ∷ g) → lines ≡ told_lines ds g → line ≡ sentence ds e.node e.entry.event → ⊥
  no_entry g e alone is same = by breaks
    where
      is_event : IsEventLine ds line
      is_event = (e.node, e.entry.event, (tellable ds g e alone, ap (λ (xs : List ℕ). xs ++ 10 ∷ []) (sym same)))

      by : Breaks ds lines line why → ⊥
      by (inl (w, (as_head, none))) = not_both (begins_head line) as_head.1 (no_event_head is_event)
      by (inr (inl (w, (not_whole, not_head, not_event, not_last)))) = not_event is_event
      by (inr (inr (inl (w, (not_whole, event, (k, other, told, none)))))) = none e (telling ds k g e accepted (sym is ∙ told) other alone) (sym same)
      by (inr (inr (inr (w, inl whole)))) = no_transcript ds g lines is whole
      by (inr (inr (inr (w, inr (not_event, last, other_line))))) = not_event is_event

  no_told : (gs : List Decl) (g : List NodeEntry) → AreAccepted gs → IsAlone gs g → lines ++ line ∷ [] ≡ told_lines gs g → ⊥
  no_told gs [] more alone is = no_heads gs [] more (append-nil (lines ++ line ∷ []) ∙ is ∙ append-nil (decl_lines [] gs))
  no_told gs (e ∷ g) more alone is =
      let last = last_two lines (told_lines gs g) line (sentence gs e.node e.entry.event) (is ∙ told_more gs e g) in
      let same : gs ≡ ds = sym (same_told gs g more last.0) in
      no_entry g e (subst (λ (xs : List Decl). IsAlone xs (e ∷ g)) same alone) (subst (λ (xs : List Decl). lines ≡ told_lines xs g) same last.0) (subst (λ (xs : List Decl). line ≡ sentence xs e.node e.entry.event) same last.1)

  -- it is not the last line
  no_end : (gs : List Decl) (g : List NodeEntry) → lines ≡ told_lines gs g → line ≡ end_line (length (told_lines gs g)) → ⊥
  no_end gs g is same = by breaks
    where
      ok : ok_first line ≡ true
      ok = ap ok_first same ∙ end_ok (length (told_lines gs g))

      by : Breaks ds lines line why → ⊥
      by (inl (w, (as_head, none))) = not_both (begins_head line) as_head.1 (ap begins_head same ∙ end_no_head (length (told_lines gs g)))
      by (inr (inl (w, (not_whole, not_head, not_event, not_last)))) = not_last ok
      by (inr (inr (inl (w, (not_whole, event, may_not))))) = not_both (ok_first line) ok (no_event_ok event)
      by (inr (inr (inr (w, inl whole)))) = no_transcript gs g lines is whole
      by (inr (inr (inr (w, inr (not_event, last, other_line))))) = other_line (same ∙ ap (λ (ls : List (List ℕ)). end_line (length ls)) (sym is))

  begins_none : BeginsTranscript (lines ++ line ∷ []) → ⊥
  begins_none (inl (gs, more, (rest, is))) = no_heads gs rest more is
  begins_none (inr (inl (gs, more, (g, alone, is)))) = no_told gs g more alone is
  begins_none (inr (inr (gs, more, (g, alone, is)))) =
      let last = last_two lines (told_lines gs g) line (end_line (length (told_lines gs g))) is in
      no_end gs g last.0 last.1

-- what a bad line stands behind, and the line, begin no transcript
pub bad_begins_none : (lines : List (List ℕ)) (line : List ℕ) (why : ℕ) → IsBroken lines line why → BeginsTranscript (lines ++ line ∷ []) → ⊥
bad_begins_none lines line why bad = by bad.behind
  where
    by : AreBehind bad.ds lines → BeginsTranscript (lines ++ line ∷ []) → ⊥
    by (accepted, (h, alone, told)) = begins_none bad.ds lines line why accepted h told bad.breaks

pub bad_verdict : (lines : List (List ℕ)) (line : List ℕ) (why : ℕ) (now : Judge) → IsBroken lines line why → IsSpent now → IsVerdict lines line now (Ok (verdicts.Bad why))
bad_verdict lines line why now bad spent = (bad_begins_none lines line why bad, bad, spent)
