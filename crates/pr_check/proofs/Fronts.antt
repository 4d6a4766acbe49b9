-- Whatever a transcript's lines begin with begins a transcript, and a text with a bad line is none.
use Rattle.std.proofs.Common.{◌≡◌, ◌⊎◌, ℕ, inl, inr, List, [], ◌∷◌, ◌++◌, length, refl, sym, ap, ◌∙◌, append_assoc}
use Rattle.std.specs.List.{flat_map}
use Rattle.std.proofs.lemmas.Grind.{flat_map-append}
use Rattle.std.proofs.lemmas.List.{append-nil}
use Rattle.pr_script.specs.declared.decl.Decl.{Decl}
use Rattle.pr_script.specs.Printing.{decl_lines}
use Rattle.pr_script.specs.Reading.{HasNoEnd, ended}
use Rattle.pr_script.proofs.OneCut.{one_cut, some_meaning}
use Rattle.pr_story.specs.History.{NodeEntry}
use Rattle.pr_text.specs.Lines.{sentence}
use Rattle.pr_check.specs.Heads.{AreAccepted}
use Rattle.pr_check.specs.Judging.{BeginLineByLine, BeginsTranscript, IsAlone, end_line, told_lines, whole_lines}
use Rattle.pr_check.specs.Texts.{IsTranscriptOf}
use Rattle.pr_check.proofs.Begun.{last_two, told_more}
use Rattle.pr_check.proofs.NoEnds.{AllNoEnd, all_append, older, whole_no_ends, whole_text}

-- a list has none, or a last
last_of : {X : Type 0} (xs : List X) → (xs ≡ []) ⊎ ((ys : List X) × (y : X) × (xs ≡ ys ++ y ∷ []))
last_of [] = inl refl
last_of {X = X} (x ∷ xs) = by (last_of xs)
  where
    by : (xs ≡ []) ⊎ ((ys : List X) × (y : X) × (xs ≡ ys ++ y ∷ [])) → (x ∷ xs ≡ []) ⊎ ((ys : List X) × (y : X) × (x ∷ xs ≡ ys ++ y ∷ []))
    by (inl none) = inr ([], x, ap (λ (zs : List X). x ∷ zs) none)
    by (inr (ys, y, is)) = inr (x ∷ ys, y, ap (λ (zs : List X). x ∷ zs) is)

none_more : (us more : List (List ℕ)) → more ≡ [] → us ++ more ≡ us
none_more us more none = ap (λ (ls : List (List ℕ)). us ++ ls) none ∙ append-nil us

one_less : (us more ys ws : List (List ℕ)) (y w : List ℕ) → more ≡ ys ++ y ∷ [] → us ++ more ≡ ws ++ w ∷ [] → us ++ ys ≡ ws
one_less us more ys ws y w is e =
    (last_two (us ++ ys) ws y w (append_assoc us ys (y ∷ []) ∙ ap (λ (ls : List (List ℕ)). us ++ ls) (sym is) ∙ e)).0

front_of_told : (ds : List Decl) → AreAccepted ds → (h : List NodeEntry) → IsAlone ds h → (us more : List (List ℕ)) → us ++ more ≡ told_lines ds h → BeginsTranscript us
front_of_told ds accepted [] alone us more e = inl (ds, accepted, (more, e ∙ append-nil (decl_lines [] ds)))
front_of_told ds accepted (f ∷ h) alone us more e = by (last_of more) (front_of_told ds accepted h (older ds f h alone) us)
  where
    by : (more ≡ []) ⊎ ((ys : List (List ℕ)) × (y : List ℕ) × (more ≡ ys ++ y ∷ [])) → ((ys : List (List ℕ)) → us ++ ys ≡ told_lines ds h → BeginsTranscript us) → BeginsTranscript us
    by (inl none) rest = inr (inl (ds, accepted, (f ∷ h, alone, sym (none_more us more none) ∙ e)))
    by (inr (ys, y, is)) rest = rest ys (one_less us more ys (told_lines ds h) y (sentence ds f.node f.entry.event) is (e ∙ told_more ds f h))

pub front_of_whole : (ds : List Decl) → AreAccepted ds → (h : List NodeEntry) → IsAlone ds h → (us more : List (List ℕ)) → us ++ more ≡ whole_lines ds h → BeginsTranscript us
front_of_whole ds accepted h alone us more e = by (last_of more)
  where
    by : (more ≡ []) ⊎ ((ys : List (List ℕ)) × (y : List ℕ) × (more ≡ ys ++ y ∷ [])) → BeginsTranscript us
    by (inl none) = inr (inr (ds, accepted, (h, alone, sym (none_more us more none) ∙ e)))
    by (inr (ys, y, is)) = front_of_told ds accepted h alone us ys (one_less us more ys (told_lines ds h) y (end_line (length (told_lines ds h))) is e)

pub begin_line_by_line : BeginLineByLine
begin_line_by_line us more (inl (ds, accepted, (rest, is))) = inl (ds, accepted, (more ++ rest, sym (append_assoc us more rest) ∙ is))
begin_line_by_line us more (inr (inl (ds, accepted, (h, alone, is)))) = front_of_told ds accepted h alone us more is
begin_line_by_line us more (inr (inr (ds, accepted, (h, alone, is)))) = front_of_whole ds accepted h alone us more is

-- the lines that a text begins with
pub text_begins : (text rest : List ℕ) (us : List (List ℕ)) → AllNoEnd us → text ≡ flat_map ended us ++ rest → (n : ℕ) → IsTranscriptOf text n → BeginsTranscript us
text_begins text rest us ends is n t =
    let cut = (some_meaning rest).1.2 in
    let lines = (some_meaning rest).1.0 in
    let last = (some_meaning rest).1.1 in
    let joined : flat_map ended (us ++ lines) ++ last ≡ text =
    ap (λ (x : List ℕ). x ++ last) (flat_map-append ended us lines) ∙ append_assoc (flat_map ended us) (flat_map ended lines) last ∙ ap (λ (x : List ℕ). flat_map ended us ++ x) (sym cut.whole) ∙ sym is in
    let same = one_cut (us ++ lines) (whole_lines t.ds t.h) last [] (all_append HasNoEnd us lines ends cut.each) (whole_no_ends t.ds t.accepted t.h t.alone) cut.last tt
    (joined ∙ t.whole ∙ sym (whole_text t.ds t.h) ∙ sym (append-nil (flat_map ended (whole_lines t.ds t.h)))) in
    front_of_whole t.ds t.accepted t.h t.alone us lines same.0
