-- No line of a transcript has a line's end in it, and its text is these lines, each with its end.
use Rattle.std.proofs.Common.{◌≡◌, ◌/◌, ◌%◌, ◌+◌, ℕ, zero, suc, Bool, true, false, cond, List, [], ◌∷◌, ◌++◌, length, Result, Ok, Err, refl, sym, ap, subst, ◌∙◌, append_assoc, arith}
use Rattle.std.specs.Prelude.{codes, decimal, is_some, nat_lt, ◌||◌, ◌==◌}
use Rattle.std.specs.Fmt.{digit_glyph, digits, digits_onto}
use Rattle.std.specs.List.{AllByRecursion, flat_map, list_all}
use Rattle.std.proofs.lemmas.Bool.Decides.{nat_tests}
use Rattle.std.proofs.lemmas.Grind.{flat_map-append}
use Rattle.std.proofs.lemmas.List.{append-nil}
use Rattle.std.proofs.lemmas.List.Concat.{flat_map-cons}
use Rattle.pr_script.specs.declared.decl.Decl.{Decl}
use Rattle.pr_script.specs.declared.item.Item.{Item}
use Rattle.pr_script.specs.declared.item.Item.TheVariants as items
use Rattle.pr_script.specs.declared.script.Script.{Script}
use Rattle.pr_script.specs.Fields.{is_plain}
use Rattle.pr_script.specs.Labels.{AreLabels}
use Rattle.pr_script.specs.Lines.{line_item}
use Rattle.pr_script.specs.Printing.{decl_lines, decl_text}
use Rattle.pr_script.specs.Reading.{HasNoEnd, Sofar, after, all_lines, ended, is_skipped, next, passed, start, told}
use Rattle.pr_script.proofs.Accepted.{have_labels}
use Rattle.pr_script.proofs.LinesAgain.{item_again, item_plain}
use Rattle.pr_script.proofs.Positions.{both}
use Rattle.pr_script.proofs.Visible.{Plain}
use Rattle.pr_script.proofs.WholeScript.{answered, push_decl}
use Rattle.pr_story.specs.History.{NodeEntry}
use Rattle.pr_text.specs.Endings.{ok_line}
use Rattle.pr_text.specs.Heads.{heads_text}
use Rattle.pr_text.specs.Histories.{transcript_text}
use Rattle.pr_text.specs.Lines.{fields_of, sentence, word_of}
use Rattle.pr_text.specs.Transcripts.{lines_text}
use Rattle.pr_text.proofs.Cut.{Lacks}
use Rattle.pr_text.proofs.Fields.{sentence_lacks}
use Rattle.pr_text.proofs.Sentences.{event_closed, word_plain}
use Rattle.pr_check.specs.Heads.{AreAccepted}
use Rattle.pr_check.specs.Judging.{IsAlone, end_line, event_lines, told_lines, whole_lines}
use Rattle.pr_check.specs.Lines.{IsTellableAt}
use Rattle.pr_check.proofs.Begun.{many_told}
use Rattle.pr_check.proofs.Judged.{tellable}

abbrev pub AllNoEnd : List (List ℕ) → Type 0
AllNoEnd lines = AllByRecursion HasNoEnd lines

-- ---- lists

pub all_push : {A : Type 0} (P : A → Type 0) (xs : List A) (x : A) → AllByRecursion P xs → P x → AllByRecursion P (xs ++ x ∷ [])
all_push P [] x all one = (one, tt)
all_push P (y ∷ xs) x all one = (all.0, all_push P xs x all.1 one)

pub all_append : {A : Type 0} (P : A → Type 0) (xs ys : List A) → AllByRecursion P xs → AllByRecursion P ys → AllByRecursion P (xs ++ ys)
all_append P [] ys p q = q
all_append P (x ∷ xs) ys p q = (p.0, all_append P xs ys p.1 q)

lacks_none : (line : List ℕ) → Lacks 10 line → HasNoEnd line
lacks_none [] l = tt
lacks_none (b ∷ bs) l =
    let q = l.0 in
    ((λ (e : b ≡ 10). absurd (grind (arith, nat_tests))), lacks_none bs l.1)

plain_no_end : (bs : List ℕ) → Plain bs → HasNoEnd bs
plain_no_end [] h = tt
plain_no_end (b ∷ bs) h =
    let p = both (is_plain b) (list_all is_plain bs) h in
    let q = p.0 in
    ((λ (e : b ≡ 10). absurd (grind (arith, nat_tests))), plain_no_end bs p.1)

-- ---- head lines

told_no_ends : (f : Sofar) (line : List ℕ) (r : Result Item ℕ) → line_item f.known line ≡ r → AllNoEnd (decl_lines [] f.known.decls) → AllNoEnd (decl_lines [] (told f r).known.decls)
told_no_ends f line (Ok (items.Decl d)) is all =
    let again = (item_again f.known line (items.Decl d) is).0 in
    subst AllNoEnd (sym (push_decl [] f.known.decls d))
    (all_push HasNoEnd (decl_lines [] f.known.decls) (decl_text f.known.decls d) all (plain_no_end (decl_text f.known.decls d) (item_plain f.known (decl_text f.known.decls d) (items.Decl d) again)))
told_no_ends f line (Ok (items.Command c)) is all = all
told_no_ends f line (Err why) is all = all

next_no_ends : (f : Sofar) (line : List ℕ) → AllNoEnd (decl_lines [] f.known.decls) → AllNoEnd (decl_lines [] (next f line).known.decls)
unfolding next
next_no_ends f line all = by (is_some f.fault || is_skipped line)
  where
    by : (b : Bool) → AllNoEnd (decl_lines [] (cond b (passed f) (told f (line_item f.known line))).known.decls)
    by true = all
    by false = told_no_ends f line (line_item f.known line) refl all

after_no_ends : (f : Sofar) (lines : List (List ℕ)) → AllNoEnd (decl_lines [] f.known.decls) → AllNoEnd (decl_lines [] (after f lines).known.decls)
after_no_ends f [] all = all
after_no_ends f (l ∷ ls) all = after_no_ends (next f l) ls (next_no_ends f l all)

none_no_ends : AllNoEnd (decl_lines [] [])
unfolding decl_lines
none_no_ends = tt

pub heads_no_ends : (ds : List Decl) → AreAccepted ds → AllNoEnd (decl_lines [] ds)
heads_no_ends ds (s, (lines, rest, cut, e), is) =
    let f = after start (all_lines lines rest) in
    let a = answered f s f.fault f.known.in_phase refl refl (sym e) in
    subst (λ (xs : List Decl). AllNoEnd (decl_lines [] xs)) (ap (λ (t : Script). t.decls.list) a.2 ∙ is) (after_no_ends start (all_lines lines rest) none_no_ends)

pub accepted_labels : (ds : List Decl) → AreAccepted ds → AreLabels ds
accepted_labels ds (s, means, is) = subst AreLabels is (have_labels (heads_text ds) s means)

-- ---- events' lines

sentence_no_end : (ds : List Decl) → AreLabels ds → (e : NodeEntry) → IsTellableAt ds e.node e.entry.event → HasNoEnd (sentence ds e.node e.entry.event)
sentence_no_end ds a e (node, t) =
    lacks_none (sentence ds e.node e.entry.event)
    (sentence_lacks (word_of e.entry.event) (fields_of ds e.node e.entry.event) (word_plain e.entry.event)
    (event_closed ds a e.node e.entry.event (record { node = node; range = t.range; numbers = t.declared })))

pub older : (ds : List Decl) (e : NodeEntry) (h : List NodeEntry) → IsAlone ds (e ∷ h) → IsAlone ds h
older ds e h alone = record { valid = alone.valid.1; declared = alone.declared.1 }

pub events_no_ends : (ds : List Decl) → AreLabels ds → (h : List NodeEntry) → IsAlone ds h → AllNoEnd (event_lines ds h)
events_no_ends ds a [] alone = tt
events_no_ends ds a (e ∷ h) alone =
    all_push HasNoEnd (event_lines ds h) (sentence ds e.node e.entry.event) (events_no_ends ds a h (older ds e h alone)) (sentence_no_end ds a e (tellable ds h e alone))

-- ---- the last line

glyph_no_end : (d : ℕ) (b : Bool) → cond b (48 + d) (87 + d) ≡ 10 → ⊥
glyph_no_end d true e = omega (arith, e)
glyph_no_end d false e = omega (arith, e)

digits_no_end : (k n : ℕ) (acc : List ℕ) → HasNoEnd acc → HasNoEnd (digits_onto k 10 false n acc)
digits_no_end zero n acc all = all
digits_no_end (suc k) n acc all = by (n / 10 == 0) one (digits_no_end k (n / 10) (digit_glyph false (n % 10) ∷ acc) one)
  where
    one : HasNoEnd (digit_glyph false (n % 10) ∷ acc)
    one = (glyph_no_end (n % 10) (nat_lt (n % 10) 10), all)

    by : (b : Bool) → HasNoEnd (digit_glyph false (n % 10) ∷ acc) → HasNoEnd (digits_onto k 10 false (n / 10) (digit_glyph false (n % 10) ∷ acc))
        → HasNoEnd (cond b (digit_glyph false (n % 10) ∷ acc) (digits_onto k 10 false (n / 10) (digit_glyph false (n % 10) ∷ acc)))
    by true here more = here
    by false here more = more

decimal_no_end : (n : ℕ) → HasNoEnd (decimal n)
unfolding digits
decimal_no_end n = digits_no_end 64 n [] tt

end_no_end : (n : ℕ) → HasNoEnd (end_line n)
end_no_end n = all_append (λ (b : ℕ). b ≡ 10 → ⊥) (codes "ok ") (decimal n) (plain_no_end (codes "ok ") refl) (decimal_no_end n)

-- ---- the whole

pub whole_no_ends : (ds : List Decl) → AreAccepted ds → (h : List NodeEntry) → IsAlone ds h → AllNoEnd (whole_lines ds h)
whole_no_ends ds accepted h alone =
    all_push HasNoEnd (told_lines ds h) (end_line (length (told_lines ds h)))
    (all_append HasNoEnd (decl_lines [] ds) (event_lines ds h) (heads_no_ends ds accepted) (events_no_ends ds (accepted_labels ds accepted) h alone))
    (end_no_end (length (told_lines ds h)))

one_ended : (line : List ℕ) → flat_map ended (line ∷ []) ≡ ended line
one_ended line = flat_map-cons ended line [] ∙ append-nil (ended line)

pub events_text : (ds : List Decl) (h : List NodeEntry) → flat_map ended (event_lines ds h) ≡ lines_text ds h
events_text ds [] = refl
events_text ds (e ∷ h) =
    let line = sentence ds e.node e.entry.event in
    flat_map-append ended (event_lines ds h) (line ∷ [])
    ∙ ap (λ (t : List ℕ). flat_map ended (event_lines ds h) ++ t) (one_ended line)
    ∙ ap (λ (t : List ℕ). t ++ ended line) (events_text ds h)

pub whole_text : (ds : List Decl) (h : List NodeEntry) → flat_map ended (whole_lines ds h) ≡ transcript_text ds h
whole_text ds h =
    let n = length (told_lines ds h) in
    flat_map-append ended (told_lines ds h) (end_line n ∷ [])
    ∙ ap (λ (t : List ℕ). flat_map ended (told_lines ds h) ++ t) (one_ended (end_line n) ∙ append_assoc (codes "ok ") (decimal n) (10 ∷ []))
    ∙ ap (λ (t : List ℕ). t ++ ok_line n) (flat_map-append ended (decl_lines [] ds) (event_lines ds h) ∙ ap (λ (t : List ℕ). heads_text ds ++ t) (events_text ds h))
    ∙ append_assoc (heads_text ds) (lines_text ds h) (ok_line n)
    ∙ ap (λ (k : ℕ). heads_text ds ++ (lines_text ds h ++ ok_line k)) (many_told ds h)
