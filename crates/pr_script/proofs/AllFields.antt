-- All the fields, one after the other.
use Rattle.std.proofs.Common.{◌≡◌, ℕ, ◌<◌, ◌≤◌, Bool, true, false, cond, eqb, List, [], ◌∷◌, length, Ok, Err, refl, sym, ap, subst, ◌∙◌, arith}
use Rattle.pr_script.specs.Fields.{skip_spaces, before_space, from_space, split_field, field_at, onto, fields_of}
use Rattle.pr_script.proofs.FieldsAgain.{ok_is, front_no_space}

skip_if : (t : Bool) (b : ℕ) (bs s : List ℕ) → eqb b 32 ≡ t → fields_of s ≡ fields_of bs → fields_of (cond t s (b ∷ bs)) ≡ fields_of (b ∷ bs)
unfolding fields_of
skip_if true b bs s e h = rw e h
skip_if false b bs s e h = refl

skipped : (bytes : List ℕ) → fields_of (skip_spaces bytes) ≡ fields_of bytes
skipped [] = refl
skipped (b ∷ bs) = skip_if (eqb b 32) b bs (skip_spaces bs) refl (skipped bs)

first_at : (t : Bool) (b c : ℕ) (bs : List ℕ) → eqb c 32 ≡ t
    → (eqb c 32 ≡ false → fields_of (c ∷ bs) ≡ (c ∷ before_space bs) ∷ fields_of (from_space bs))
    → cond t ((b ∷ []) ∷ fields_of (c ∷ bs)) (onto b (fields_of (c ∷ bs))) ≡ (b ∷ cond t [] (c ∷ before_space bs)) ∷ fields_of (cond t (c ∷ bs) (from_space bs))
first_at true b c bs e h = refl
first_at false b c bs e h = ap (onto b) (h e)

-- the first field, from a byte that is no space
first : (b : ℕ) (bs : List ℕ) → eqb b 32 ≡ false → fields_of (b ∷ bs) ≡ (b ∷ before_space bs) ∷ fields_of (from_space bs)
unfolding fields_of
first b [] e = rw e refl
first b (c ∷ bs) e = rw e (first_at (eqb c 32) b c bs refl (first c bs))

from_if : (t : Bool) (b : ℕ) (bs r : List ℕ) → length r ≤ length bs → length (cond t (b ∷ bs) r) ≤ length (b ∷ bs)
from_if true b bs r h = omega arith
from_if false b bs r h = omega arith

from_shorter : (bs : List ℕ) → length (from_space bs) ≤ length bs
from_shorter [] = omega arith
from_shorter (b ∷ bs) = from_if (eqb b 32) b bs (from_space bs) (from_shorter bs)

skip_one : (t : Bool) (b : ℕ) (bs s : List ℕ) → length s ≤ length bs → length (cond t s (b ∷ bs)) ≤ length (b ∷ bs)
skip_one true b bs s h = omega arith
skip_one false b bs s h = omega arith

skip_shorter : (bs : List ℕ) → length (skip_spaces bs) ≤ length bs
skip_shorter [] = omega arith
skip_shorter (b ∷ bs) = skip_one (eqb b 32) b bs (skip_spaces bs) (skip_shorter bs)

split_first : (s : List ℕ) (x : List ℕ × List ℕ) → ((b : ℕ) (bs : List ℕ) → s ≡ b ∷ bs → eqb b 32 ≡ false) → split_field s ≡ Ok x → (fields_of s ≡ x.0 ∷ fields_of x.1) × (length x.1 < length s)
split_first [] x front e = absurd cc
split_first (b ∷ bs) x front e =
    let n : eqb b 32 ≡ false = front b bs refl in
    let made : (fields_of (b ∷ bs) ≡ before_space (b ∷ bs) ∷ fields_of (from_space (b ∷ bs))) × (length (from_space (b ∷ bs)) < length (b ∷ bs)) =
    (rw n (first b bs n), rw n (let l = from_shorter bs in omega arith)) in
    subst (λ (y : List ℕ × List ℕ). (fields_of (b ∷ bs) ≡ y.0 ∷ fields_of y.1) × (length y.1 < length (b ∷ bs))) (ok_is (before_space (b ∷ bs), from_space (b ∷ bs)) x e) made

pub field_first : (bytes : List ℕ) (x : List ℕ × List ℕ) → field_at bytes ≡ Ok x → (fields_of bytes ≡ x.0 ∷ fields_of x.1) × (length x.1 < length bytes)
unfolding field_at
field_first bytes x e =
    let p = split_first (skip_spaces bytes) x (front_no_space bytes) e in
    let l = skip_shorter bytes in
    (sym (skipped bytes) ∙ p.0, let q = p.1 in omega arith)

none_split : (s : List ℕ) (n : ℕ) → split_field s ≡ Err n → fields_of s ≡ []
unfolding fields_of
none_split [] n e = refl
none_split (b ∷ bs) n e = absurd cc

pub no_field : (bytes : List ℕ) (n : ℕ) → field_at bytes ≡ Err n → fields_of bytes ≡ []
unfolding field_at
no_field bytes n e = sym (skipped bytes) ∙ none_split (skip_spaces bytes) n e
