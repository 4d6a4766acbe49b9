-- What is printed as a field has bytes that a line may have, and no space.
use Rattle.std.proofs.Common.{◌≡◌, ℕ, ◌+◌, ◌/◌, ◌%◌, ◌^◌, ◌<◌, Bool, true, false, not, ◌&&◌, cond, eqb, List, [], ◌∷◌, ◌++◌, length, Option, Some, None, Result, Err, refl, sym, ap, subst, ◌∙◌, arith}
use Rattle.std.specs.Prelude.{is_some, nat_lt, nat_le, decimal, ◌==◌}
use Rattle.std.specs.List.{AllByRecursion, list_all, position, flat_map}
use Rattle.std.specs.Char.{is_ascii_alphanumeric}
use Rattle.std.proofs.lemmas.Bool.Decides.{nat_tests}
use Rattle.std.proofs.lemmas.List.Concat.{flat_map-cons}
use Rattle.std.proofs.lemmas.Fmt.{decimal_by_steps, decimal_nonempty}
use Rattle.pr_names.specs.Byte.{allowed}
use Rattle.pr_names.specs.Name.{Allowed}
use Rattle.pr_names.specs.Read.{unless_bad}
use Rattle.pr_names.specs.declared.name.NameFault.{NameFault}
use Rattle.pr_names.specs.declared.name.NameFault.TheVariants.{Empty, TooLong}
use Rattle.pr_names.proofs.Reading.{none_bad}
use Rattle.pr_script.specs.Fields.{is_plain, name_of, value_of, or_none}
use Rattle.pr_script.specs.Labels.{is_label}
use Rattle.pr_script.specs.Texts.{is_bare}
use Rattle.pr_script.specs.Printing.{hex_digit, spell, quoted}
use Rattle.pr_script.proofs.FieldsAgain.{NoSpace, IsField, is_field}
use Rattle.pr_script.proofs.Positions.{both}

-- ---- tests of all bytes

abbrev pub Plain : List ℕ → Type 0
Plain bs = list_all is_plain bs ≡ true

-- each byte is one that a line may have, and no space
abbrev pub Visible : List ℕ → Type 0
Visible bs = AllByRecursion (λ b. (is_plain b ≡ true) × (eqb b 32 ≡ false)) bs

pub plain_more : (b : ℕ) (bs : List ℕ) → is_plain b ≡ true → Plain bs → Plain (b ∷ bs)
plain_more b bs e h = ap (λ (t : Bool). t && list_all is_plain bs) e ∙ h

pub plain_append : (xs ys : List ℕ) → Plain xs → Plain ys → Plain (xs ++ ys)
plain_append [] ys hx hy = hy
plain_append (x ∷ xs) ys hx hy =
    let p = both (is_plain x) (list_all is_plain xs) hx in
    plain_more x (xs ++ ys) p.0 (plain_append xs ys p.1 hy)

pub visible_plain : (bs : List ℕ) → Visible bs → Plain bs
visible_plain [] h = refl
visible_plain (b ∷ bs) h = plain_more b bs h.0.0 (visible_plain bs h.1)

visible_no_space : (bs : List ℕ) → Visible bs → NoSpace bs
visible_no_space [] h = tt
visible_no_space (b ∷ bs) h = (h.0.1, visible_no_space bs h.1)

pub visible_append : (xs ys : List ℕ) → Visible xs → Visible ys → Visible (xs ++ ys)
visible_append [] ys hx hy = hy
visible_append (x ∷ xs) ys hx hy = (hx.0, visible_append xs ys hx.1 hy)

pub field_of : (bs : List ℕ) → 0 < length bs → Visible bs → IsField bs
field_of [] some h = absurd (omega arith)
field_of (b ∷ bs) some h = is_field b bs h.0.1 (visible_no_space bs h.1)

-- ---- labels

alphanumeric_visible : (b : ℕ) → is_ascii_alphanumeric b ≡ true → (is_plain b ≡ true) × (eqb b 32 ≡ false)
alphanumeric_visible b h = (grind (arith, nat_tests), grind (arith, nat_tests))

all_alphanumeric : (bs : List ℕ) → list_all is_ascii_alphanumeric bs ≡ true → Visible bs
all_alphanumeric [] h = tt
all_alphanumeric (b ∷ bs) h =
    let p = both (is_ascii_alphanumeric b) (list_all is_ascii_alphanumeric bs) h in
    (alphanumeric_visible b p.0, all_alphanumeric bs p.1)

pub label_visible : (f : List ℕ) → is_label f ≡ true → Visible f
label_visible f h =
    let p = both (nat_le 1 (length f) && nat_le (length f) 16) (list_all is_ascii_alphanumeric f) h in
    all_alphanumeric f p.1

-- ---- names

allowed_visible : (b : ℕ) → allowed b ≡ true → (is_plain b ≡ true) × (eqb b 32 ≡ false)
allowed_visible b h = (grind (arith, nat_tests), grind (arith, nat_tests))

pub all_allowed : (bs : List ℕ) → Allowed bs → Visible bs
all_allowed [] h = tt
all_allowed (b ∷ bs) h = (allowed_visible b h.0, all_allowed bs h.1)

abbrev nothing_read : List ℕ → Result (List ℕ) NameFault → Type 0
nothing_read bs r = is_some (value_of r) ≡ true → (Allowed bs × (or_none (value_of r) ≡ bs))

bad_name : (bs : List ℕ) (o : Option ℕ) → o ≡ position (λ b. not (allowed b)) bs → nothing_read bs (unless_bad bs o)
bad_name bs None e h = (none_bad bs e, refl)
bad_name bs (Some at) e h = absurd cc

long_name : (t : Bool) (bs : List ℕ) → nothing_read bs (cond t (Err (TooLong (length bs))) (unless_bad bs (position (λ b. not (allowed b)) bs)))
long_name true bs h = absurd cc
long_name false bs h = bad_name bs (position (λ b. not (allowed b)) bs) refl h

empty_name : (t : Bool) (bs : List ℕ) → nothing_read bs (cond t (Err Empty) (cond (nat_lt 64 (length bs)) (Err (TooLong (length bs))) (unless_bad bs (position (λ b. not (allowed b)) bs))))
empty_name true bs h = absurd cc
empty_name false bs h = long_name (nat_lt 64 (length bs)) bs h

name_allowed : (bs : List ℕ) → is_some (name_of bs) ≡ true → (Allowed bs × (or_none (name_of bs) ≡ bs))
name_allowed bs h = empty_name (length bs == 0) bs h

pub name_visible : (bs : List ℕ) → is_some (name_of bs) ≡ true → Visible bs
name_visible bs h = all_allowed bs (name_allowed bs h).0

pub name_is : (bs : List ℕ) → is_some (name_of bs) ≡ true → or_none (name_of bs) ≡ bs
name_is bs h = (name_allowed bs h).1

-- ---- numbers

digit_visible : (n : ℕ) → n < 10 → (is_plain (48 + n) ≡ true) × (eqb (48 + n) 32 ≡ false)
digit_visible n h = (grind (arith, nat_tests), grind (arith, nat_tests))

pub decimal_visible : (n : ℕ) → n < 2 ^ 64 → Visible (decimal n)
decimal_visible n h =
    decimal_by_steps (λ m ds. Visible ds)
    (λ m lt. (digit_visible m lt, tt))
    (λ m ds le v. visible_append ds ((48 + m % 10) ∷ []) v (digit_visible (m % 10) (omega arith), tt))
    n h

pub decimal_field : (n : ℕ) → n < 2 ^ 64 → IsField (decimal n)
decimal_field n h = field_of (decimal n) (decimal_nonempty n h) (decimal_visible n h)

-- ---- texts

bare_plain : (b : ℕ) → is_bare b ≡ true → is_plain b ≡ true
bare_plain b h = grind (arith, nat_tests)

hex_plain : (n : ℕ) → n < 16 → is_plain (hex_digit n) ≡ true
hex_plain n lt = grind (arith, nat_tests)

spell_if : (t : Bool) (b : ℕ) → b < 256 → is_bare b ≡ t → Plain (cond t (b ∷ []) (92 ∷ hex_digit (b / 16) ∷ hex_digit (b % 16) ∷ []))
spell_if true b lt e = plain_more b [] (bare_plain b e) refl
spell_if false b lt e =
    plain_more 92 (hex_digit (b / 16) ∷ hex_digit (b % 16) ∷ []) refl
    (plain_more (hex_digit (b / 16)) (hex_digit (b % 16) ∷ []) (hex_plain (b / 16) (omega arith))
    (plain_more (hex_digit (b % 16)) [] (hex_plain (b % 16) (omega arith)) refl))

spelled_plain : (t : List ℕ) → AllByRecursion (λ b. b < 256) t → Plain (flat_map spell t)
unfolding spell
spelled_plain [] h = refl
spelled_plain (b ∷ t) h =
    subst (λ (x : List ℕ). Plain x) (sym (flat_map-cons spell b t)) (plain_append (spell b) (flat_map spell t) (spell_if (is_bare b) b h.0 refl) (spelled_plain t h.1))

pub quoted_plain : (t : List ℕ) → AllByRecursion (λ b. b < 256) t → Plain (quoted t)
quoted_plain t h = plain_more 34 (flat_map spell t ++ 34 ∷ []) refl (plain_append (flat_map spell t) (34 ∷ []) (spelled_plain t h) refl)
