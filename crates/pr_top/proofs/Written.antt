-- What is written, piece after piece.
use Rattle.std.proofs.Common.{◌≡◌, ◌⊎◌, ℕ, ◌+◌, ◌<◌, ◌≤◌, List, [], ◌∷◌, ◌++◌, Option, None, Some, Result, Ok, Err, inl, inr, refl, sym, ◌∙◌, ap, subst, append_assoc, length, reverse, take, arith}
use Rattle.std.specs.Io.KnownBytes.{Appends}
use Rattle.std.proofs.lemmas.List.{append-nil, reverse-append, take-append-le, take_all}
use Rattle.std.proofs.lemmas.Bool.{cases_lt}
use Rattle.std.proofs.Math.Seq.{take-append-add}
use Rattle.pr_ports.specs.Faults.{HasRisen}
use Rattle.pr_script.specs.declared.decl.Decl.{Decl}
use Rattle.pr_story.specs.History.{NodeEntry}
use Rattle.pr_text.specs.Lines.{line_text}
use Rattle.pr_text.specs.Transcripts.{lines_text}
use Rattle.pr_top.specs.Progress.{Writes, entry_lines}
use Rattle.pr_top.specs.declared.stepping.Halt.{Halt}
use Rattle.pr_top.specs.declared.stepping.Halt.TheVariants as halts

pub appends_then : (a b c : Option (List ℕ)) (xs ys : List ℕ) → Appends a b xs → Appends b c ys → Appends a c (xs ++ ys)
appends_then None b c xs ys p q = tt
appends_then (Some x) None c xs ys p q = absurd p
appends_then (Some x) (Some y) None xs ys p q = absurd q
appends_then (Some x) (Some y) (Some z) xs ys p q = q ∙ ap (λ (u : List ℕ). u ++ ys) p ∙ append_assoc x xs ys

pub appends_none : (a : Option (List ℕ)) → Appends a a []
appends_none None = tt
appends_none (Some x) = sym (append-nil x)

-- a beginning of a text is one of a longer text
pub front_of : (n : ℕ) (xs ys : List ℕ) → (m : ℕ) × (take n xs ≡ take m (xs ++ ys))
front_of n xs ys = by (cases_lt n (length xs))
  where
    by : (n < length xs) ⊎ (length xs ≤ n) → (m : ℕ) × (take n xs ≡ take m (xs ++ ys))
    by (inl within) = (n, sym (take-append-le n xs ys (omega arith)))
    by (inr past) = (length xs, take_all n xs past ∙ sym (take_all (length xs) xs (omega arith)) ∙ sym (take-append-le (length xs) xs ys (omega arith)))

-- ---- faults of the sink

pub risen_then : (a b c : ℕ) → a ≤ b → HasRisen b c → HasRisen a c
risen_then a b c le (inl up) = inl (omega arith)
risen_then a b c le (inr last) = inr last

pub risen_before : (a b c : ℕ) → a ≤ b → b ≤ c → HasRisen a b → HasRisen a c
risen_before a b c rise le (inl up) = inl (omega arith)
risen_before a b c rise le (inr last) = by (cases_lt a c)
  where
    by : (a < c) ⊎ (c ≤ a) → HasRisen a c
    by (inl up) = inl up
    by (inr down) = inr (omega arith)

-- ---- texts one after the other

pub writes_then : (Y : Type 0) (failed : Type 0) (a b c : Option (List ℕ)) (xs ys : List ℕ) (r : Result Y Halt) → Appends a b xs → Writes ys failed b c r → Writes (xs ++ ys) failed a c r
writes_then Y failed a b c xs ys (Ok y) p q = appends_then a b c xs ys p q
writes_then Y failed a b c xs ys (Err halts.NoMemory) p (n, q) = (length xs + n, subst (λ (t : List ℕ). Appends a c t) (sym (take-append-add xs ys n)) (appends_then a b c xs (take n ys) p q))
writes_then Y failed a b c xs ys (Err halts.WriteFault) p (bad, (n, q)) = (bad, (length xs + n, subst (λ (t : List ℕ). Appends a c t) (sym (take-append-add xs ys n)) (appends_then a b c xs (take n ys) p q)))
writes_then Y failed a b c xs ys (Err (halts.Worn at)) p q = absurd q
writes_then Y failed a b c xs ys (Err (halts.Lied stream number sent got)) p q = absurd q

-- what was cut off of a text, was cut off of a longer one
pub writes_front : (X Y : Type 0) (failed : Type 0) (a b : Option (List ℕ)) (xs ys : List ℕ) (halt : Halt) → Writes {X = X} xs failed a b (Err halt) → Writes {X = Y} (xs ++ ys) failed a b (Err halt)
writes_front X Y failed a b xs ys halts.NoMemory (n, q) = let m = front_of n xs ys in (m.0, subst (λ (t : List ℕ). Appends a b t) m.1 q)
writes_front X Y failed a b xs ys halts.WriteFault (bad, (n, q)) = let m = front_of n xs ys in (bad, (m.0, subst (λ (t : List ℕ). Appends a b t) m.1 q))
writes_front X Y failed a b xs ys (halts.Worn at) q = absurd q
writes_front X Y failed a b xs ys (halts.Lied stream number sent got) q = absurd q

-- ---- the lines of entries

pub lines_append : (ds : List Decl) (xs ys : List NodeEntry) → entry_lines ds (xs ++ ys) ≡ entry_lines ds xs ++ entry_lines ds ys
lines_append ds [] ys = refl
lines_append ds (x ∷ xs) ys = ap (λ (t : List ℕ). line_text ds x.node x.entry.event ++ t) (lines_append ds xs ys) ∙ sym (append_assoc (line_text ds x.node x.entry.event) (entry_lines ds xs) (entry_lines ds ys))

-- those of a history, the oldest entry first
pub lines_are : (ds : List Decl) (h : List NodeEntry) → lines_text ds h ≡ entry_lines ds (reverse h)
lines_are ds [] = refl
lines_are ds (e ∷ h) =
    ap (λ (t : List ℕ). t ++ line_text ds e.node e.entry.event) (lines_are ds h)
    ∙ ap (λ (t : List ℕ). entry_lines ds (reverse h) ++ t) (sym (append-nil (line_text ds e.node e.entry.event)))
    ∙ sym (lines_append ds (reverse h) (e ∷ []))
    ∙ ap (λ (es : List NodeEntry). entry_lines ds es) (sym (reverse-append (e ∷ []) h))

-- ---- results

-- a fault of a part of the call is one of the call
pub writes_as : (X failed now : Type 0) (a b : Option (List ℕ)) (xs : List ℕ) (halt : Halt) → (failed → now) → Writes {X = X} xs failed a b (Err halt) → Writes {X = X} xs now a b (Err halt)
writes_as X failed now a b xs halts.NoMemory f q = q
writes_as X failed now a b xs halts.WriteFault f (bad, q) = (f bad, q)
writes_as X failed now a b xs (halts.Worn at) f q = absurd q
writes_as X failed now a b xs (halts.Lied stream number sent got) f q = absurd q

-- a text that was cut off, as another result
pub cut_as : (X Y : Type 0) (failed : Type 0) (a b : Option (List ℕ)) (xs ys : List ℕ) (r : Result X Halt) (q : Result Y Halt) (halt : Halt)
    → xs ≡ ys → r ≡ Err halt → q ≡ Err halt → Writes {X = X} xs failed a b r → Writes {X = Y} ys failed a b q
cut_as X Y failed a b xs ys r q halt text is same w =
    subst (λ (x : Result Y Halt). Writes {X = Y} ys failed a b x) (sym same)
    (other halt (subst (λ (t : List ℕ). Writes {X = X} t failed a b (Err halt)) text (subst (λ (x : Result X Halt). Writes {X = X} xs failed a b x) is w)))
  where
    other : (x : Halt) → Writes {X = X} ys failed a b (Err x) → Writes {X = Y} ys failed a b (Err x)
    other halts.NoMemory cut = cut
    other halts.WriteFault cut = cut
    other (halts.Worn at) cut = cut
    other (halts.Lied stream number sent got) cut = cut

pub went_as : (X : Type 0) (failed : Type 0) (a b : Option (List ℕ)) (xs ys : List ℕ) (r : Result X Halt) (x : X) → xs ≡ ys → r ≡ Ok x → Writes {X = X} xs failed a b r → Appends a b ys
went_as X failed a b xs ys r x text is w =
    subst (λ (t : List ℕ). Appends a b t) text (subst (λ (y : Result X Halt). Writes {X = X} xs failed a b y) is w)

pub writes_map : (X failed now : Type 0) (a b : Option (List ℕ)) (xs : List ℕ) (r : Result X Halt) → (failed → now) → Writes {X = X} xs failed a b r → Writes {X = X} xs now a b r
writes_map X failed now a b xs (Ok x) f q = q
writes_map X failed now a b xs (Err halt) f q = writes_as X failed now a b xs halt f q
