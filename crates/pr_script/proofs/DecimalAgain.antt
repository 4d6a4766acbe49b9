-- A printed number is read again.
use Rattle.std.proofs.Common.{◌≡◌, ℕ, ◌+◌, ◌*◌, ◌-◌, ◌/◌, ◌%◌, ◌^◌, ◌<◌, ◌≤◌, Bool, true, false, not, ◌&&◌, cond, List, [], ◌∷◌, ◌++◌, length, get_or, Option, Some, None, refl, ap, ◌∙◌, arith}
use Rattle.std.specs.Prelude.{nat_eq, nat_lt, nat_le, is_some, decimal}
use Rattle.std.proofs.lemmas.Bool.Decides.{nat_tests}
use Rattle.std.proofs.lemmas.Fmt.{decimal_by_steps, decimal_nonempty, first_decimal, decimal_digit}
use Rattle.pr_script.specs.Fields.{is_digit, value_from, is_led, within, number_in, or_zero}

digit_if : (t : Bool) (o : Option ℕ) (v : ℕ) → cond t o None ≡ Some v → (t ≡ true) × (o ≡ Some v)
digit_if true o v e = (refl, e)
digit_if false o v e = absurd cc

value_push : (m : ℕ) (ds : List ℕ) (d v : ℕ) → value_from m ds ≡ Some v → is_digit d ≡ true → value_from m (ds ++ d ∷ []) ≡ Some (v * 10 + (d - 48))
unfolding value_from
value_push m [] d v e h =
    let i : m ≡ v = cc in
    rw (h, i) refl
value_push m (x ∷ ds) d v e h =
    let p = digit_if (is_digit x) (value_from (m * 10 + (x - 48)) ds) v e in
    rw p.0 (value_push (m * 10 + (x - 48)) ds d v p.1 h)

digit_is : (n : ℕ) → n < 10 → is_digit (48 + n) ≡ true
digit_is n h = grind (arith, nat_tests)

one_digit : (n : ℕ) → n < 10 → value_from 0 ((48 + n) ∷ []) ≡ Some n
unfolding value_from
one_digit n h = rw (digit_is n h) (ap (λ (x : ℕ). Some x) (omega arith))

pub decimal_value : (n : ℕ) → n < 2 ^ 64 → value_from 0 (decimal n) ≡ Some n
decimal_value n h =
    decimal_by_steps (λ m ds. value_from 0 ds ≡ Some m) one_digit
    (λ m ds le v. value_push 0 ds (48 + m % 10) (m / 10) v (digit_is (m % 10) (omega arith)) ∙ ap (λ (x : ℕ). Some x) (omega arith))
    n h

led_if : (n len first : ℕ) → 0 < len → (0 < n → 48 < first) → (n ≡ 0 → len ≡ 1) → (nat_lt 0 len && not (nat_lt 1 len && nat_eq first 48)) ≡ true
led_if n len first some f z = grind (arith, nat_tests)

pub decimal_led : (n : ℕ) → n < 2 ^ 64 → is_led (decimal n) ≡ true
decimal_led n h =
    led_if n (length (decimal n)) (get_or (decimal n) 0 0) (decimal_nonempty n h) (λ some. first_decimal n some h)
    (λ z. ap (λ (x : ℕ). length (decimal x)) z ∙ ap length (decimal_digit 0 (omega arith)))

within_ok : (least most n : ℕ) → least ≤ n → n ≤ most → within least most (Some n) ≡ Some n
within_ok least most n lo hi = grind (arith, nat_tests)

pub number_again : (least most n : ℕ) → least ≤ n → n ≤ most → n < 2 ^ 64 → number_in least most (decimal n) ≡ Some n
number_again least most n lo hi h = rw (decimal_led n h, decimal_value n h) (within_ok least most n lo hi)

within_tells : (least most : ℕ) (o : Option ℕ) (n : ℕ) → within least most o ≡ Some n → (least ≤ n) × (n ≤ most)
within_tells least most None n e = absurd cc
within_tells least most (Some m) n e =
    let p = digit_if (nat_le least m && nat_le m most) (Some m) n e in
    let i : m ≡ n = let q = p.1 in cc in
    let r = p.0 in
    (grind (arith, nat_tests), grind (arith, nat_tests))

some_number : (o : Option ℕ) → is_some o ≡ true → o ≡ Some (or_zero o)
some_number None e = absurd cc
some_number (Some n) e = refl

pub number_range : (least most : ℕ) (f : List ℕ) → is_some (number_in least most f) ≡ true → (least ≤ or_zero (number_in least most f)) × (or_zero (number_in least most f) ≤ most)
number_range least most f h =
    let e = some_number (number_in least most f) h in
    let p = digit_if (is_led f) (within least most (value_from 0 f)) (or_zero (number_in least most f)) e in
    within_tells least most (value_from 0 f) (or_zero (number_in least most f)) p.1
