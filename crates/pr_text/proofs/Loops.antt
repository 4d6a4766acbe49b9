-- What loops have still to write.
use Rattle.std.proofs.Common.{◌≡◌, ℕ, ◌+◌, ◌<◌, ◌≤◌, List, [], ◌∷◌, ◌++◌, cond, Bool, true, false, refl, sym, ap, ◌∙◌, arith, map, drop, length, get_or, append_assoc}
use Rattle.std.specs.Prelude.{nat_eq, ◌==◌, Result, Ok, Err, OnErr, OnOk}
use Rattle.std.specs.List.{flat_map}
use Rattle.std.proofs.lemmas.Bool.Decides.{nat_tests}
use Rattle.std.proofs.lemmas.List.{drop_more, drop_all, append-nil}
use Rattle.pr_script.specs.Printing.{Begins}
use Rattle.pr_script.proofs.Beginnings.{grown}
use Rattle.pr_text.specs.Texts.{between, joined, listed, more}

-- ---- items joined by a byte

-- the items to come, where none was written, or some were
abbrev pub to_come : Bool → ℕ → List (List ℕ) → List ℕ
to_come true b xs = joined b xs
to_come false b xs = more b xs

abbrev pub behind : ℕ → ℕ → List (List ℕ) → List ℕ
behind i b xs = to_come (nat_eq i 0) b xs

one_more : (first : Bool) (b : ℕ) (x : List ℕ) (xs : List (List ℕ)) → to_come first b (x ∷ xs) ≡ cond first [] (b ∷ []) ++ (x ++ more b xs)
one_more true b x xs = refl
one_more false b x xs = refl

not_first : (i : ℕ) → nat_eq (i + 1) 0 ≡ false
not_first i = grind (arith, nat_tests)

pub drop_is : {T : Type 0} (xs : List T) (i : ℕ) (x : T) → i < length xs → x ≡ get_or xs i x → drop i xs ≡ x ∷ drop (i + 1) xs
drop_is xs i x lt is = drop_more xs i x lt ∙ ap (λ y. y ∷ drop (i + 1) xs) (sym is)

pub turn : {T : Type 0} (f : T → List ℕ) (b i : ℕ) (xs : List T) (x : T) (text parted behind_it all : List ℕ)
    → i < length xs → x ≡ get_or xs i x → parted ≡ text ++ between i b → behind_it ≡ parted ++ f x
    → text ++ behind i b (map f (drop i xs)) ≡ all → behind_it ++ behind (i + 1) b (map f (drop (i + 1) xs)) ≡ all
turn f b i xs x text parted behind_it all lt is p q e =
    let rest = map f (drop (i + 1) xs) in
    ap (λ t. behind_it ++ to_come t b rest) (not_first i)
    ∙ ap (λ t. t ++ more b rest) (q ∙ ap (λ t. t ++ f x) p)
    ∙ append_assoc (text ++ between i b) (f x) (more b rest)
    ∙ append_assoc text (between i b) (f x ++ more b rest)
    ∙ ap (λ t. text ++ t) (sym (one_more (nat_eq i 0) b (f x) rest) ∙ ap (λ t. behind i b (map f t)) (sym (drop_is xs i x lt is)))
    ∙ e

none_left : (first : Bool) (b : ℕ) → to_come first b [] ≡ []
none_left true b = refl
none_left false b = refl

pub ended : {T : Type 0} (f : T → List ℕ) (b i : ℕ) (xs : List T) (text all : List ℕ)
    → length xs ≤ i → text ++ behind i b (map f (drop i xs)) ≡ all → text ≡ all
ended f b i xs text all le e =
    sym (append-nil text) ∙ ap (λ t. text ++ t) (sym (none_left (nat_eq i 0) b) ∙ ap (λ t. behind i b (map f t)) (sym (drop_all i xs le))) ∙ e

pub some_listed : {T : Type 0} (f : T → List ℕ) (xs : List T) → (length xs == 0) ≡ false → listed (map f xs) ≡ joined 44 (map f xs)
some_listed f [] e = cc
some_listed f (x ∷ xs) e = refl

-- ---- clocks

-- the items of a list to come, where some were written, or none
abbrev pub list_behind : Bool → List (List ℕ) → List ℕ
list_behind true xs = more 44 xs
list_behind false xs = listed xs

pub one_clock : (some : Bool) (x : List ℕ) (xs : List (List ℕ)) (text new all : List ℕ)
    → new ≡ text ++ (cond some (44 ∷ []) [] ++ x) → text ++ list_behind some (x ∷ xs) ≡ all → new ++ more 44 xs ≡ all
one_clock true x xs text new all p e = ap (λ t. t ++ more 44 xs) p ∙ append_assoc text (44 ∷ x) (more 44 xs) ∙ e
one_clock false x xs text new all p e = ap (λ t. t ++ more 44 xs) p ∙ append_assoc text x (more 44 xs) ∙ e

pub list_ended : (some : Bool) (text new all : List ℕ) → new ≡ text ++ cond some [] (45 ∷ []) → text ++ list_behind some [] ≡ all → new ≡ all
list_ended true text new all p e = p ∙ e
list_ended false text new all p e = p ∙ e

-- ---- fields

pub more_append : (b : ℕ) (xs ys : List (List ℕ)) → more b (xs ++ ys) ≡ more b xs ++ more b ys
more_append b [] ys = refl
more_append b (x ∷ xs) ys = ap (λ t. b ∷ (x ++ t)) (more_append b xs ys) ∙ ap (λ t. b ∷ t) (sym (append_assoc x (more b xs) (more b ys)))

-- what was written first stands in front
pub on_front : {E : Type 0} (r : Result (Unit {0}) E) (t s u a c : List ℕ) → s ≡ u ++ a → OnOk r (t ≡ s ++ c) → OnOk r (t ≡ u ++ (a ++ c))
on_front (Ok x) t s u a c e h = h ∙ ap (λ k. k ++ c) e ∙ append_assoc u a c
on_front (Err x) t s u a c e h = tt

pub field_turn : {T : Type 0} (f : T → List ℕ) (xs : List T) (i : ℕ) (x : T) (text new all : List ℕ)
    → i < length xs → x ≡ get_or xs i x → new ≡ text ++ 32 ∷ f x
    → text ++ more 32 (map f (drop i xs)) ≡ all → new ++ more 32 (map f (drop (i + 1) xs)) ≡ all
field_turn f xs i x text new all lt is p e =
    let rest = more 32 (map f (drop (i + 1) xs)) in
    ap (λ t. t ++ rest) p ∙ append_assoc text (32 ∷ f x) rest ∙ ap (λ t. text ++ more 32 (map f t)) (sym (drop_is xs i x lt is)) ∙ e

pub fields_ended : {T : Type 0} (f : T → List ℕ) (xs : List T) (i : ℕ) (text all : List ℕ)
    → length xs ≤ i → text ++ more 32 (map f (drop i xs)) ≡ all → text ≡ all
fields_ended f xs i text all le e = sym (append-nil text) ∙ ap (λ t. text ++ more 32 (map f t)) (sym (drop_all i xs le)) ∙ e

-- ---- lines

pub line_turn : {T : Type 0} (f : T → List ℕ) (xs : List T) (i : ℕ) (x : T) (text new all : List ℕ)
    → i < length xs → x ≡ get_or xs i x → new ≡ text ++ f x
    → text ++ flat_map f (drop i xs) ≡ all → new ++ flat_map f (drop (i + 1) xs) ≡ all
line_turn f xs i x text new all lt is p e =
    let rest = flat_map f (drop (i + 1) xs) in
    ap (λ t. t ++ rest) p ∙ append_assoc text (f x) rest ∙ ap (λ t. text ++ flat_map f t) (sym (drop_is xs i x lt is)) ∙ e

pub lines_ended : {T : Type 0} (f : T → List ℕ) (xs : List T) (i : ℕ) (text all : List ℕ)
    → length xs ≤ i → text ++ flat_map f (drop i xs) ≡ all → text ≡ all
lines_ended f xs i text all le e = sym (append-nil text) ∙ ap (λ t. text ++ flat_map f t) (sym (drop_all i xs le)) ∙ e

-- ---- what a refusal leaves

-- what begins with more than there was begins with what there was
pub begun_on : {A E : Type 0} (r : Result A E) (new mid old more : List ℕ) → mid ≡ old ++ more → OnErr r (Begins mid new) → OnErr r (Begins old new)
begun_on (Ok x) new mid old more e h = tt
begun_on (Err x) new mid old more e h = grown old more mid new e h
