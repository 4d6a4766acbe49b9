-- Where a byte is found in a field.
use Rattle.std.proofs.Common.{◌≡◌, ℕ, ◌+◌, ◌<◌, ◌≤◌, Bool, true, false, cond, List, [], length, take, drop, Some, None, refl, sym, ap, arith}
use Rattle.std.specs.Prelude.{nat_lt}
use Rattle.std.specs.List.{after_first, before_first, position, position_or_len}
use Rattle.std.proofs.Math.ListN.{drop_of_length-le}
use Rattle.std.proofs.lemmas.List.{take_all}
use Rattle.std.proofs.lemmas.Bool.Decides.{nat_tests}

at_if : (t : Bool) (n m : ℕ) → cond t (Some n) None ≡ Some m → (t ≡ true) × (n ≡ m)
at_if true n m e = (refl, cc)
at_if false n m e = absurd cc

none_if : (t : Bool) (n : ℕ) → cond t (Some n) None ≡ None → t ≡ false
none_if true n e = absurd cc
none_if false n e = refl

below : (m n : ℕ) → nat_lt m n ≡ true → m < n
below m n e = grind (arith, nat_tests)

not_below : (m n : ℕ) → nat_lt m n ≡ false → n ≤ m
not_below m n e = grind (arith, nat_tests)

module _ {A : Type 0} (p : A → Bool) (xs : List A) where
  pub place_is : (n : ℕ) → position p xs ≡ Some n → position_or_len p xs ≡ n
  place_is n e = (at_if (nat_lt (position_or_len p xs) (length xs)) (position_or_len p xs) n e).1

  pub place_within : (n : ℕ) → position p xs ≡ Some n → n < length xs
  place_within n e =
      let f = at_if (nat_lt (position_or_len p xs) (length xs)) (position_or_len p xs) n e in
      let l = below (position_or_len p xs) (length xs) f.0 in
      let g = f.1 in omega arith

  pub past_all : position p xs ≡ None → length xs ≤ position_or_len p xs
  past_all e = not_below (position_or_len p xs) (length xs) (none_if (nat_lt (position_or_len p xs) (length xs)) (position_or_len p xs) e)

  pub before_place : (n : ℕ) → position p xs ≡ Some n → take n xs ≡ before_first p xs
  before_place n e = ap (λ (i : ℕ). take i xs) (sym (place_is n e))

  pub after_place : (n : ℕ) → position p xs ≡ Some n → drop (n + 1) xs ≡ after_first p xs
  after_place n e = ap (λ (i : ℕ). drop (i + 1) xs) (sym (place_is n e))

  pub before_none : position p xs ≡ None → xs ≡ before_first p xs
  before_none e = sym (take_all (position_or_len p xs) xs (past_all e))

  pub after_none : position p xs ≡ None → [] ≡ after_first p xs
  after_none e = let l = past_all e in sym (drop_of_length-le xs (omega arith))
