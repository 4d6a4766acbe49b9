-- Words of bits, one for each line.
use Rattle.std.proofs.Common.{◌≡◌, ℕ, ◌+◌, ◌-◌, ◌*◌, ◌/◌, ◌%◌, ◌^◌, ◌<◌, ◌≤◌, ◌==◌, Bool, true, false, IsTrue, List, [], ◌∷◌, length, subst, drop, get_or, ap, ◌∙◌, add-one, arith, zero, suc, eq-eqb, Contains, sym, refl, inl, inr}
use Rattle.std.specs.Prelude.{if◌then◌else◌}
use Rattle.std.proofs.Math.Nat.{pow-suc, pow-le-pow_right}
use Rattle.std.proofs.lemmas.Bool.Decides.{nat_tests}
use Rattle.std.proofs.lemmas.List.{drop_more, length-drop}
use Rattle.std.proofs.lemmas.Nat.{shr-shr}
use Rattle.pr_stamps.proofs.Places.{below_or}
use Rattle.pr_crew.specs.Lines.{AreSet, IsMarked, bits_of, count_set, is_set}

-- one bit more is looked at
pub count_next : (word k : ℕ) → count_set word (k + 1) ≡ count_set word k + (if is_set word k then 1 else 0)
count_next word k = ap (count_set word) (add-one k)

below_double : (bits n : ℕ) (own : Bool) → bits < n → 2 * bits + (if own then 1 else 0) < n * 2
below_double bits n true small = omega arith
below_double bits n false small = omega arith

-- a line's bits fit as many bits as there are lines
pub bits_below : (lines : List ℕ) (line : ℕ) → bits_of lines line < 2 ^ length lines
bits_below [] line = omega arith
bits_below (own ∷ lines) line = rw pow-suc (below_double (bits_of lines line) (2 ^ length lines) (own == line) (bits_below lines line))

bits_fit : (lines : List ℕ) (line : ℕ) → length lines ≤ 64 → bits_of lines line < 2 ^ 64
bits_fit lines line few =
    let p : 2 ^ length lines ≤ 2 ^ 64 = pow-le-pow_right (omega arith) few in
    let b = bits_below lines line in omega (arith, b, p)

-- one line more, from the last one on
pub bits_next : (lines : List ℕ) (line k d : ℕ) → 0 < k → k ≤ length lines → bits_of (drop (k - 1) lines) line ≡ 2 * bits_of (drop k lines) line + (if get_or lines (k - 1) d == line then 1 else 0)
bits_next lines line k d some within =
    let back : (k - 1) + 1 ≡ k = omega arith in
    ap (λ (xs : List ℕ). bits_of xs line) (drop_more lines (k - 1) d (omega arith))
    ∙ ap (λ (n : ℕ). 2 * bits_of (drop n lines) line + (if get_or lines (k - 1) d == line then 1 else 0)) back

-- and there is room for it
pub bits_room : (lines : List ℕ) (line k d bits bit : ℕ) → bits ≡ bits_of (drop k lines) line → bit ≡ (if get_or lines (k - 1) d == line then 1 else 0) → 0 < k → k ≤ length lines → length lines ≤ 64 → 2 * bits + bit < 2 ^ 64
bits_room lines line k d bits bit are is some within few =
    let next = bits_next lines line k d some within in
    let fit = bits_fit (drop (k - 1) lines) line (omega (arith, length-drop (k - 1) lines)) in
    omega (arith, next, fit, are, is)

-- ---- what the bits say

-- the lowest bit is the one that was added last
lowest : (bits : ℕ) (same : Bool) → is_set (2 * bits + (if same then 1 else 0)) 0 ≡ same
lowest bits true = grind (arith, nat_tests)
lowest bits false = grind (arith, nat_tests)

halved : (bits : ℕ) (same : Bool) → (2 * bits + (if same then 1 else 0)) / 2 ^ 1 ≡ bits
halved bits true = omega arith
halved bits false = omega arith

-- and each other bit has moved up by one
moved : (bits k : ℕ) (same : Bool) → is_set (2 * bits + (if same then 1 else 0)) (suc k) ≡ is_set bits k
moved bits k same =
    let word : ℕ = 2 * bits + (if same then 1 else 0) in
    let e : 1 + k ≡ suc k = omega arith in
    ap (λ (n : ℕ). n % 2 == 1) (ap (λ (m : ℕ). word / 2 ^ m) (sym e) ∙ sym (shr-shr word 1 k) ∙ ap (λ (n : ℕ). n / 2 ^ k) (halved bits same))

pub marked : (lines : List ℕ) (line : ℕ) → IsMarked lines line (bits_of lines line)
marked [] line k within = absurd (omega arith)
marked (own ∷ lines) line zero within = lowest (bits_of lines line) (own == line)
marked (own ∷ lines) line (suc k) within = moved (bits_of lines line) k (own == line) ∙ marked lines line k (omega arith)

count_most : (word n : ℕ) → count_set word n ≤ n
count_most word zero = omega arith
count_most word (suc n) = one (is_set word n) (count_set word n) (count_most word n)
  where
    one : (set : Bool) (count : ℕ) → count ≤ n → count + (if set then 1 else 0) ≤ suc n
    one true count most = omega arith
    one false count most = omega arith

is_full : (set : Bool) (count n : ℕ) → count ≤ n → count + (if set then 1 else 0) ≡ suc n → IsTrue set × (count ≡ n)
is_full true count n most all = (refl, omega arith)
is_full false count n most all = absurd (omega arith)

-- as many bits are set as there are: each is
pub are_all : (word n : ℕ) → count_set word n ≡ n → AreSet word n
are_all word zero all k within = absurd (omega arith)
are_all word (suc n) all k within =
    let full = is_full (is_set word n) (count_set word n) n (count_most word n) all in
    elim (below_or k n (omega arith)) [ inl less ↦ are_all word n full.1 k less | inr same ↦ subst (λ (m : ℕ). IsTrue (is_set word m)) (sym same) full.0 ]

-- and the other way round
pub all_are : (word n : ℕ) → AreSet word n → count_set word n ≡ n
all_are word zero are = refl
all_are word (suc n) are =
    let last : is_set word n ≡ true = are n (omega arith) in
    let before = all_are word n (λ k within. are k (omega arith)) in
    let more = ap (λ (b : Bool). count_set word n + (if b then 1 else 0)) last in
    more ∙ omega (arith, before)

pub same_number : (a b : ℕ) → IsTrue (a == b) → a ≡ b
same_number a b is = grind (arith, nat_tests)

no_double : (bits : ℕ) (same : Bool) → 2 * bits + (if same then 1 else 0) ≡ 0 → (bits ≡ 0) × (same ≡ false)
no_double bits true none = absurd (omega arith)
no_double bits false none = (omega arith, refl)

-- no bit is set of a line that is not there, and only then
pub none_there : (lines : List ℕ) (line k : ℕ) → bits_of lines line ≡ 0 → k < length lines → get_or lines k line ≡ line → ⊥
none_there [] line k none within is = omega arith
none_there (own ∷ lines) line zero none within is =
    let differs = (no_double (bits_of lines line) (own == line) none).1 in
    let same : (own == line) ≡ true = eq-eqb own line is in cc
none_there (own ∷ lines) line (suc k) none within is = none_there lines line k (no_double (bits_of lines line) (own == line) none).0 (omega arith) is

no_bit : (bits : ℕ) (same : Bool) → bits ≡ 0 → same ≡ false → 2 * bits + (if same then 1 else 0) ≡ 0
no_bit bits true none other = absurd (cc)
no_bit bits false none other = omega arith

other_line : (own line : ℕ) (same : Bool) → (own == line) ≡ same → (own ≡ line → ⊥) → (own == line) ≡ false
other_line own line true is differs = absurd (differs (same_number own line is))
other_line own line false is differs = is

pub none_set : (lines : List ℕ) (line : ℕ) → (Contains lines line → ⊥) → bits_of lines line ≡ 0
none_set [] line absent = refl
none_set (own ∷ lines) line absent =
    no_bit (bits_of lines line) (own == line) (none_set lines line (λ (k, within, is). absent (suc k, omega arith, is)))
    (other_line own line (own == line) refl (λ is. absent (0, omega arith, is)))
