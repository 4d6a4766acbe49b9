-- The lines of a history, entry after entry.
use Rattle.std.proofs.Common.{◌≡◌, ℕ, ◌+◌, ◌<◌, ◌≤◌, List, [], ◌∷◌, ◌++◌, Option, Err, refl, sym, ◌∙◌, ap, subst, append_assoc, drop, get_or, length, reverse}
use Rattle.std.specs.Io.KnownBytes.{Appends}
use Rattle.std.proofs.lemmas.List.{append-nil, drop_all, drop_more, length-reverse, reverse-append}
use Rattle.pr_script.specs.declared.decl.Decl.{Decl}
use Rattle.pr_story.specs.History.{NodeEntry}
use Rattle.pr_text.specs.Lines.{line_text}
use Rattle.pr_top.specs.Progress.{Writes, entry_lines}
use Rattle.pr_top.specs.declared.stepping.Halt.{Halt}
use Rattle.pr_top.proofs.Written.{appends_none, appends_then, lines_append, writes_as, writes_front, writes_then}

-- the lines from this place up to that one were written
abbrev pub IsSofar : List Decl → ℕ → ℕ → List NodeEntry → Option (List ℕ) → Option (List ℕ) → Type 0
IsSofar ds told at xs a b = (done : List ℕ) × Appends a b done × (done ++ entry_lines ds (drop at xs) ≡ entry_lines ds (drop told xs))

pub none_sofar : (ds : List Decl) (told : ℕ) (xs : List NodeEntry) (a : Option (List ℕ)) → IsSofar ds told told xs a a
none_sofar ds told xs a = ([], appends_none a, refl)

lines_next : (ds : List Decl) (xs : List NodeEntry) (i : ℕ) (d : NodeEntry) → i < length xs
    → entry_lines ds (drop i xs) ≡ line_text ds (get_or xs i d).node (get_or xs i d).entry.event ++ entry_lines ds (drop (i + 1) xs)
lines_next ds xs i d lt = ap (λ (ys : List NodeEntry). entry_lines ds ys) (drop_more xs i d lt)

pub more_sofar : (ds : List Decl) (told at : ℕ) (xs : List NodeEntry) (d : NodeEntry) (a b c : Option (List ℕ)) → at < length xs → IsSofar ds told at xs a b
    → Appends b c (line_text ds (get_or xs at d).node (get_or xs at d).entry.event) → IsSofar ds told (at + 1) xs a c
more_sofar ds told at xs d a b c lt (done, p, is) q =
    let line : List ℕ = line_text ds (get_or xs at d).node (get_or xs at d).entry.event in (
      done ++ line,
      appends_then a b c done line p q,
      append_assoc done line (entry_lines ds (drop (at + 1) xs)) ∙ ap (λ (t : List ℕ). done ++ t) (sym (lines_next ds xs at d lt)) ∙ is,
    )

pub all_sofar : (ds : List Decl) (told at : ℕ) (xs : List NodeEntry) (a b : Option (List ℕ)) → length xs ≤ at → IsSofar ds told at xs a b → Appends a b (entry_lines ds (drop told xs))
all_sofar ds told at xs a b past (done, p, is) =
    subst (λ (t : List ℕ). Appends a b t) (sym (append-nil done) ∙ ap (λ (ys : List NodeEntry). done ++ entry_lines ds ys) (sym (drop_all at xs past)) ∙ is) p

-- the next line was cut off
pub cut_sofar : (X Y failed now : Type 0) (ds : List Decl) (told at : ℕ) (xs : List NodeEntry) (d : NodeEntry) (a b c : Option (List ℕ)) (halt : Halt) → (failed → now) → at < length xs → IsSofar ds told at xs a b
    → Writes {X = X} (line_text ds (get_or xs at d).node (get_or xs at d).entry.event) failed b c (Err halt) → Writes {X = Y} (entry_lines ds (drop told xs)) now a c (Err halt)
cut_sofar X Y failed now ds told at xs d a b c halt f lt (done, p, is) q =
    let line : List ℕ = line_text ds (get_or xs at d).node (get_or xs at d).entry.event in
    subst (λ (t : List ℕ). Writes {X = Y} t now a c (Err halt)) (ap (λ (t : List ℕ). done ++ t) (sym (lines_next ds xs at d lt)) ∙ is)
    (writes_then Y now a b c done (line ++ entry_lines ds (drop (at + 1) xs)) (Err halt) p
    (writes_front X Y now b c line (entry_lines ds (drop (at + 1) xs)) halt (writes_as X failed now b c line halt f q)))

-- ---- a step's lines

drop_front : {X : Type 0} (xs ys : List X) → drop (length xs) (xs ++ ys) ≡ ys
drop_front [] ys = refl
drop_front (x ∷ xs) ys = drop_front xs ys

-- behind the lines of the history stand those of what the step made
pub lines_split : (ds : List Decl) (h new : List NodeEntry) (told : ℕ) → told ≡ length h
    → entry_lines ds (reverse h) ++ entry_lines ds (drop told (reverse (new ++ h))) ≡ entry_lines ds (reverse (new ++ h))
lines_split ds h new told is =
    let all : reverse (new ++ h) ≡ reverse h ++ reverse new = reverse-append new h in
    let rest : drop told (reverse (new ++ h)) ≡ reverse new =
    ap (λ (xs : List NodeEntry). drop told xs) all ∙ ap (λ (n : ℕ). drop n (reverse h ++ reverse new)) (is ∙ sym (length-reverse h)) ∙ drop_front (reverse h) (reverse new) in
    ap (λ (xs : List NodeEntry). entry_lines ds (reverse h) ++ entry_lines ds xs) rest ∙ sym (lines_append ds (reverse h) (reverse new)) ∙ ap (λ (xs : List NodeEntry). entry_lines ds xs) (sym all)
