-- How the lines of a transcript begin, and which of them comes last.
use Rattle.std.proofs.Common.{◌≡◌, ◌+◌, ℕ, Bool, true, false, cond, nat_eq, suc, List, [], ◌∷◌, ◌++◌, length, Result, Ok, refl, sym, ap, subst, ◌∙◌, append_assoc, arith}
use Rattle.std.specs.Prelude.{codes}
use Rattle.std.specs.List.{flat_map, starts_with}
use Rattle.std.proofs.lemmas.List.{append-nil, length-append}
use Rattle.pr_script.specs.declared.decl.Decl.{Decl}
use Rattle.pr_script.specs.declared.decl.Decl.TheVariants as decls
use Rattle.pr_script.specs.declared.script.Script.{Script}
use Rattle.pr_script.specs.Printing.{decl_lines, decl_text}
use Rattle.pr_script.specs.Reading.{Means, ended}
use Rattle.pr_script.proofs.OneCut.{one_meaning}
use Rattle.pr_story.specs.History.{NodeEntry}
use Rattle.pr_story.specs.declared.event.Event.{Event}
use Rattle.pr_story.specs.declared.event.Event.TheVariants.{Wrote, Attached, Sent, Idle, Stale, Accepted, Gapped, Missing, Down, Answered, Behind, Moved, Cut, Dropped, Conflicts, State}
use Rattle.pr_text.specs.Lines.{sentence}
use Rattle.pr_text.specs.Heads.{heads_text}
use Rattle.pr_check.specs.Heads.{AreAccepted, begins_head}
use Rattle.pr_check.specs.Judging.{IsTranscript, end_line, event_lines, told_lines}

-- ---- first words

abbrev pub ok_first : List ℕ → Bool
ok_first line = starts_with nat_eq line (codes "ok")

pub begins_as_head : (front : List Decl) (d : Decl) → begins_head (decl_text front d) ≡ true
unfolding decl_text
begins_as_head front (decls.Node label sets) = refl
begins_as_head front (decls.Client label node) = refl
begins_as_head front (decls.Stream label source dest sub bodies) = refl

wrote_no_head : (gone : Bool) (rest : List ℕ) → begins_head (cond gone (codes "delete") (codes "write") ++ rest) ≡ false
wrote_no_head true rest = refl
wrote_no_head false rest = refl

wrote_no_ok : (gone : Bool) (rest : List ℕ) → ok_first (cond gone (codes "delete") (codes "write") ++ rest) ≡ false
wrote_no_ok true rest = refl
wrote_no_ok false rest = refl

pub no_head : (ds : List Decl) (n : ℕ) (event : Event) → begins_head (sentence ds n event) ≡ false
no_head ds n (Wrote client write body after) = wrote_no_head write.gone _
no_head ds n (Attached stream at) = refl
no_head ds n (Sent msg) = refl
no_head ds n (Idle stream) = refl
no_head ds n (Stale stream cut) = refl
no_head ds n (Accepted msg at) = refl
no_head ds n (Gapped msg has) = refl
no_head ds n (Missing stream number) = refl
no_head ds n (Down stream cause) = refl
no_head ds n (Answered client name reply at) = refl
no_head ds n (Behind client needs has) = refl
no_head ds n (Moved client) = refl
no_head ds n (Cut at) = refl
no_head ds n (Dropped name) = refl
no_head ds n (Conflicts name found) = refl
no_head ds n (State at cut floor precise) = refl

pub no_ok : (ds : List Decl) (n : ℕ) (event : Event) → ok_first (sentence ds n event) ≡ false
no_ok ds n (Wrote client write body after) = wrote_no_ok write.gone _
no_ok ds n (Attached stream at) = refl
no_ok ds n (Sent msg) = refl
no_ok ds n (Idle stream) = refl
no_ok ds n (Stale stream cut) = refl
no_ok ds n (Accepted msg at) = refl
no_ok ds n (Gapped msg has) = refl
no_ok ds n (Missing stream number) = refl
no_ok ds n (Down stream cause) = refl
no_ok ds n (Answered client name reply at) = refl
no_ok ds n (Behind client needs has) = refl
no_ok ds n (Moved client) = refl
no_ok ds n (Cut at) = refl
no_ok ds n (Dropped name) = refl
no_ok ds n (Conflicts name found) = refl
no_ok ds n (State at cut floor precise) = refl

pub end_no_head : (n : ℕ) → begins_head (end_line n) ≡ false
end_no_head n = refl

pub end_ok : (n : ℕ) → ok_first (end_line n) ≡ true
end_ok n = refl

-- ---- the last of two lists

pub last_two : {X : Type 0} (xs ys : List X) (x y : X) → xs ++ x ∷ [] ≡ ys ++ y ∷ [] → (xs ≡ ys) × (x ≡ y)
last_two [] [] x y e = (refl, cc)
last_two [] (b ∷ []) x y e = absurd cc
last_two [] (b ∷ (c ∷ ys)) x y e = absurd cc
last_two (a ∷ []) [] x y e = absurd cc
last_two (a ∷ (c ∷ xs)) [] x y e = absurd cc
last_two {X = X} (a ∷ xs) (b ∷ ys) x y e =
    let first : a ≡ b = cc in
    let rest : xs ++ x ∷ [] ≡ ys ++ y ∷ [] = cc in
    let more = last_two xs ys x y rest in
    (ap (λ (c : X). c ∷ xs) first ∙ ap (λ (zs : List X). b ∷ zs) more.0, more.1)

-- ---- head lines alone

abbrev pub AllHeads : List (List ℕ) → Type 0
AllHeads [] = Unit {0}
AllHeads (l ∷ ls) = (begins_head l ≡ true) × AllHeads ls

pub are_heads : (front ds : List Decl) → AllHeads (decl_lines front ds)
unfolding decl_lines
are_heads front [] = tt
are_heads front (d ∷ ds) = (begins_as_head front d, are_heads (front ++ d ∷ []) ds)

pub last_head : (xs : List (List ℕ)) (x : List ℕ) → AllHeads (xs ++ x ∷ []) → begins_head x ≡ true
last_head [] x all = all.0
last_head (l ∷ ls) x all = last_head ls x all.1

pub first_heads : (xs ys : List (List ℕ)) → AllHeads (xs ++ ys) → AllHeads xs × AllHeads ys
first_heads [] ys all = (tt, all)
first_heads (x ∷ xs) ys all = let more = first_heads xs ys all.1 in ((all.0, more.0), more.1)

pub not_both : {A : Type 0} (b : Bool) → b ≡ true → b ≡ false → A
not_both b p q = absurd cc

pub no_head_last : (gs : List Decl) (xs : List (List ℕ)) (x : List ℕ) → begins_head x ≡ false → xs ++ x ∷ [] ≡ decl_lines [] gs → ⊥
no_head_last gs xs x none e = not_both (begins_head x) (last_head xs x (subst AllHeads (sym e) (are_heads [] gs))) none

-- ---- lines that are no whole transcript

pub told_more : (ds : List Decl) (e : NodeEntry) (h : List NodeEntry) → told_lines ds (e ∷ h) ≡ told_lines ds h ++ sentence ds e.node e.entry.event ∷ []
told_more ds e h = sym (append_assoc (decl_lines [] ds) (event_lines ds h) (sentence ds e.node e.entry.event ∷ []))

pub not_ended : (ds : List Decl) (h : List NodeEntry) (xs : List (List ℕ)) (n : ℕ) → told_lines ds h ≡ xs ++ end_line n ∷ [] → ⊥
not_ended ds [] xs n e = no_head_last ds xs (end_line n) (end_no_head n) (sym e ∙ append-nil (decl_lines [] ds))
not_ended ds (f ∷ h) xs n e =
    let same : sentence ds f.node f.entry.event ≡ end_line n = (last_two (told_lines ds h) xs (sentence ds f.node f.entry.event) (end_line n) (sym (told_more ds f h) ∙ e)).1 in
    not_both (ok_first (end_line n)) (end_ok n) (ap ok_first (sym same) ∙ no_ok ds f.node f.entry.event)

pub no_transcript : (ds : List Decl) (h : List NodeEntry) (lines : List (List ℕ)) → lines ≡ told_lines ds h → IsTranscript lines → ⊥
no_transcript ds h lines is (gs, accepted, (g, alone, whole)) = not_ended ds h (told_lines gs g) (length (told_lines gs g)) (sym is ∙ whole)

pub heads_told : (ds : List Decl) (lines : List (List ℕ)) → lines ≡ decl_lines [] ds → lines ≡ told_lines ds []
heads_told ds lines is = is ∙ sym (append-nil (decl_lines [] ds))

pub one_more_told : (ds : List Decl) (h : List NodeEntry) (e : NodeEntry) (lines : List (List ℕ)) (line : List ℕ) → lines ≡ told_lines ds h → sentence ds e.node e.entry.event ≡ line → lines ++ line ∷ [] ≡ told_lines ds (e ∷ h)
one_more_told ds h e lines line is same =
    ap (λ (ls : List (List ℕ)). ls ++ line ∷ []) is ∙ ap (λ (l : List ℕ). told_lines ds h ++ l ∷ []) (sym same) ∙ sym (told_more ds e h)

-- ---- head lines tell the declarations

pub heads_one : (ds gs : List Decl) → AreAccepted ds → AreAccepted gs → decl_lines [] ds ≡ decl_lines [] gs → ds ≡ gs
heads_one ds gs (s, means, is) (t, meant, are) e =
    let r : (let a : Result Script (ℕ × ℕ) = Ok s in a) ≡ Ok t = one_meaning (heads_text ds) (Ok s) (Ok t) means (subst (λ (x : List ℕ). Means x (Ok t)) (ap (flat_map ended) (sym e)) meant) in
    let same : s ≡ t = cc in
    sym is ∙ ap (λ (x : Script). x.decls.list) same ∙ are

abbrev pub NoHeads : List (List ℕ) → Type 0
NoHeads [] = Unit {0}
NoHeads (l ∷ ls) = (begins_head l ≡ false) × NoHeads ls

pub split_one : (us vs xs ys : List (List ℕ)) → AllHeads us → AllHeads vs → NoHeads xs → NoHeads ys → us ++ xs ≡ vs ++ ys → (us ≡ vs) × (xs ≡ ys)
split_one [] [] xs ys a b c d e = (refl, e)
split_one [] (v ∷ vs) [] ys a b c d e = absurd cc
split_one [] (v ∷ vs) (x ∷ xs) ys a b c d e = let same : x ≡ v = cc in not_both (begins_head v) b.0 (ap begins_head (sym same) ∙ c.0)
split_one (u ∷ us) [] xs [] a b c d e = absurd cc
split_one (u ∷ us) [] xs (y ∷ ys) a b c d e = let same : u ≡ y = cc in not_both (begins_head u) a.0 (ap begins_head same ∙ d.0)
split_one (u ∷ us) (v ∷ vs) xs ys a b c d e =
    let first : u ≡ v = cc in
    let rest : us ++ xs ≡ vs ++ ys = cc in
    let more = split_one us vs xs ys a.1 b.1 c d rest in
    (ap (λ (w : List ℕ). w ∷ us) first ∙ ap (λ (zs : List (List ℕ)). v ∷ zs) more.0, more.1)

no_heads_more : (xs : List (List ℕ)) (x : List ℕ) → NoHeads xs → begins_head x ≡ false → NoHeads (xs ++ x ∷ [])
no_heads_more [] x none is = (is, tt)
no_heads_more (l ∷ ls) x none is = (none.0, no_heads_more ls x none.1 is)

pub events_no_heads : (ds : List Decl) (h : List NodeEntry) → NoHeads (event_lines ds h)
events_no_heads ds [] = tt
events_no_heads ds (e ∷ h) = no_heads_more (event_lines ds h) (sentence ds e.node e.entry.event) (events_no_heads ds h) (no_head ds e.node e.entry.event)

-- the declarations of lines, and their events' lines
pub told_one : (ds gs : List Decl) (h g : List NodeEntry) → AreAccepted ds → AreAccepted gs → told_lines ds h ≡ told_lines gs g → (ds ≡ gs) × (event_lines ds h ≡ event_lines gs g)
told_one ds gs h g a b e =
    let both = split_one (decl_lines [] ds) (decl_lines [] gs) (event_lines ds h) (event_lines gs g) (are_heads [] ds) (are_heads [] gs) (events_no_heads ds h) (events_no_heads gs g) e in
    (heads_one ds gs a b both.0, both.1)

-- ---- how many lines there are

many_heads : (front ds : List Decl) → length (decl_lines front ds) ≡ length ds
unfolding decl_lines
many_heads front [] = refl
many_heads front (d ∷ ds) = ap suc (many_heads (front ++ d ∷ []) ds)

many_events : (ds : List Decl) (h : List NodeEntry) → length (event_lines ds h) ≡ length h
many_events ds [] = refl
many_events ds (e ∷ h) =
    let l : length (event_lines ds h ++ sentence ds e.node e.entry.event ∷ []) ≡ length (event_lines ds h) + 1 = length-append (event_lines ds h) (sentence ds e.node e.entry.event ∷ []) in
    let m : length (event_lines ds h) ≡ length h = many_events ds h in
    let s : length (event_lines ds h) + 1 ≡ suc (length h) = omega arith in
    l ∙ s

pub many_told : (ds : List Decl) (h : List NodeEntry) → length (told_lines ds h) ≡ length ds + length h
many_told ds h =
    length-append (decl_lines [] ds) (event_lines ds h) ∙ ap (λ (n : ℕ). n + length (event_lines ds h)) (many_heads [] ds) ∙ ap (λ (n : ℕ). length ds + n) (many_events ds h)
