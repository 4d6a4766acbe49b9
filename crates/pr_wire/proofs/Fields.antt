-- A field is a value and the bytes after it: what is read from bytes is spelled at their front, and what is spelled
-- at the front of bytes is read.
use Rattle.std.proofs.Common.{◌≡◌, ℕ, suc, ◌+◌, ◌^◌, ◌<◌, ◌≤◌, Bool, true, false, cond, ltb, List, [], ◌∷◌, ◌++◌, length, get_or, take, drop, Option, Some, None, refl, sym, ap, subst, ◌∙◌, append_assoc, arith, inl, inr}
use Rattle.std.specs.Int.{Width, w32, w64, byte_len, from_be_bytes, to_be_bytes}
use Rattle.std.proofs.lemmas.Bool.{cases_lt, ltb-false, le-ltb}
use Rattle.std.proofs.lemmas.List.{take_at, drop_at, take-append-drop, length-append, length-take, get_or-drop, get_or-take, get_or_past}
use Rattle.std.proofs.lemmas.Nat.{be_bytes_4, be_bytes_8, from_be_bytes-to_be_bytes_4, from_be_bytes-to_be_bytes_8}
use Rattle.pr_wire.specs.Spelling.{eight, four}
use Rattle.pr_wire.specs.Reading.{◌>>=◌, given, byte_at, bytes_at, eight_at, four_at}

abbrev pub IsBytes : List ℕ → Type 0
IsBytes bytes = (i : ℕ) → get_or bytes i 0 < 256

pub IsBytes-drop : (n : ℕ) (bytes : List ℕ) → IsBytes bytes → IsBytes (drop n bytes)
IsBytes-drop n bytes h i = rw get_or-drop (h (n + i))

pub IsBytes-take : (n : ℕ) (bytes : List ℕ) → IsBytes bytes → IsBytes (take n bytes)
IsBytes-take n bytes h i =
    elim (cases_lt i n) [
      | inl lt ↦ rw (get_or-take n bytes i 0 lt) (h i)
      | inr le ↦ rw (get_or_past (take n bytes) i 0 (omega (arith, length-take n bytes))) (omega arith)
    ]

pub IsBytes-rest : (b : ℕ) (bytes : List ℕ) → IsBytes (b ∷ bytes) → IsBytes bytes
IsBytes-rest b bytes h i = h (suc i)

-- the value of a step that did not fail
pub bind_some : {A B : Type 0} (o : Option A) (f : A → Option B) (y : B) → (o >>= f) ≡ Some y → (x : A) × (o ≡ Some x) × (f x ≡ Some y)
bind_some None f y e = absurd cc
bind_some (Some x) f y e = (x, refl, e)

-- a test that did not fail
pub given_some : {A : Type 0} (b : Bool) (x y : A) → given b x ≡ Some y → (b ≡ true) × (x ≡ y)
given_some true x y e = (refl, cc)
given_some false x y e = absurd cc

abbrev found : {A : Type 0} → A → Option A
found x = Some x

pub some_is : {A : Type 0} (x y : A) → found x ≡ found y → x ≡ y
some_is x y e = cc

-- one part behind another
pub glue : (a x b y c : List ℕ) → a ≡ x ++ b → b ≡ y ++ c → a ≡ (x ++ y) ++ c
glue a x b y c p q = p ∙ ap (λ (t : List ℕ). x ++ t) q ∙ sym (append_assoc x y c)

-- what was read from the front of bytes: a value and the rest
pub record Read {A : Type 0} (text : A → List ℕ) (valid : A → Type 0) (bytes : List ℕ) (y : A × List ℕ) : Type 0 where
  pub parts : bytes ≡ text y.0 ++ y.1
  pub fits : IsBytes y.1
  pub holds : valid y.0

pub record IsField {A : Type 0} (at : List ℕ → Option (A × List ℕ)) (text : A → List ℕ) (valid : A → Type 0) : Type 0 where
  pub takes : (bytes : List ℕ) (y : A × List ℕ) → IsBytes bytes → at bytes ≡ Some y → Read text valid bytes y
  pub again : (x : A) (rest : List ℕ) → valid x → at (text x ++ rest) ≡ Some (x, rest)

-- ---- a byte

abbrev pub one_byte : ℕ → List ℕ
one_byte b = b ∷ []

byte_takes : (bytes : List ℕ) (y : ℕ × List ℕ) → IsBytes bytes → byte_at bytes ≡ Some y → Read one_byte (λ b. b < 256) bytes y
byte_takes [] y fits e = absurd cc
byte_takes (b ∷ bytes) y fits e =
    subst (Read one_byte (λ b. b < 256) (b ∷ bytes)) (some_is (b, bytes) y e) (record { parts = refl; fits = IsBytes-rest b bytes fits; holds = fits 0 })

pub byte_field : IsField byte_at one_byte (λ b. b < 256)
byte_field = record { takes = byte_takes; again = λ b rest lt. refl }

-- ---- so many bytes

abbrev pub itself : List ℕ → List ℕ
itself xs = xs

pub refused : {A : Type 0} (b : Bool) (x y : A) → cond b None (Some x) ≡ Some y → (b ≡ false) × (x ≡ y)
refused true x y e = absurd cc
refused false x y e = (refl, cc)

run_takes : (n : ℕ) (bytes : List ℕ) (y : List ℕ × List ℕ) → IsBytes bytes → bytes_at n bytes ≡ Some y → Read itself (λ xs. length xs ≡ n) bytes y
unfolding bytes_at
run_takes n bytes y fits e =
    let g = refused (ltb (length bytes) n) (take n bytes, drop n bytes) y e in
    let long : n ≤ length bytes = ltb-false _ _ g.0 in
    subst (Read itself (λ xs. length xs ≡ n) bytes) g.1 (record {
      parts = sym (take-append-drop n bytes);
      fits = IsBytes-drop n bytes fits;
      holds = omega (arith, length-take n bytes);
    })

run_again : (n : ℕ) (xs rest : List ℕ) → length xs ≡ n → bytes_at n (xs ++ rest) ≡ Some (xs, rest)
unfolding bytes_at
run_again n xs rest len =
    let long : ltb (length (xs ++ rest)) n ≡ false = le-ltb _ _ (omega (arith, length-append xs rest)) in
    rw (long, take_at xs rest n len, drop_at xs rest n len) refl

pub run_field : (n : ℕ) → IsField (bytes_at n) itself (λ xs. length xs ≡ n)
run_field n = record { takes = run_takes n; again = run_again n }

-- ---- numbers

record IsWide (w : Width) (limit : ℕ) : Type 0 where
  pub len : (n : ℕ) → length (to_be_bytes w n) ≡ byte_len w
  pub back : (bytes : List ℕ) → length bytes ≡ byte_len w → IsBytes bytes → to_be_bytes w (from_be_bytes w bytes) ≡ bytes
  pub same : (n : ℕ) → n < limit → from_be_bytes w (to_be_bytes w n) ≡ n
  pub below : (bytes : List ℕ) → IsBytes bytes → from_be_bytes w bytes < limit

wide32 : IsWide w32 (2 ^ 32)
wide32 = record {
  len = λ n. refl;
  back = λ bytes len fits. be_bytes_4 bytes _ len fits refl;
  same = λ n lt. from_be_bytes-to_be_bytes_4 n lt;
  below = λ bytes fits. omega (arith, fits 0, fits 1, fits 2, fits 3);
}

wide64 : IsWide w64 (2 ^ 64)
wide64 = record {
  len = λ n. refl;
  back = λ bytes len fits. be_bytes_8 bytes _ len fits refl;
  same = λ n lt. from_be_bytes-to_be_bytes_8 n lt;
  below = λ bytes fits. omega (arith, fits 0, fits 1, fits 2, fits 3, fits 4, fits 5, fits 6, fits 7);
}

abbrev number_at : Width → List ℕ → Option (ℕ × List ℕ)
number_at w bytes = cond (ltb (length bytes) (byte_len w)) None (Some (from_be_bytes w (take (byte_len w) bytes), drop (byte_len w) bytes))

number_takes : (w : Width) (limit : ℕ) (wide : IsWide w limit) (bytes : List ℕ) (y : ℕ × List ℕ) → IsBytes bytes → number_at w bytes ≡ Some y → Read (to_be_bytes w) (λ n. n < limit) bytes y
number_takes w limit wide bytes y fits e =
    let g = refused (ltb (length bytes) (byte_len w)) (from_be_bytes w (take (byte_len w) bytes), drop (byte_len w) bytes) y e in
    let long : byte_len w ≤ length bytes = ltb-false _ _ g.0 in
    let front : to_be_bytes w (from_be_bytes w (take (byte_len w) bytes)) ≡ take (byte_len w) bytes = wide.back (take (byte_len w) bytes) (omega (arith, length-take (byte_len w) bytes)) (IsBytes-take (byte_len w) bytes fits) in
    subst (Read (to_be_bytes w) (λ n. n < limit) bytes) g.1 (record {
      parts = rw front (sym (take-append-drop (byte_len w) bytes));
      fits = IsBytes-drop (byte_len w) bytes fits;
      holds = wide.below (take (byte_len w) bytes) (IsBytes-take (byte_len w) bytes fits);
    })

number_again : (w : Width) (limit : ℕ) (wide : IsWide w limit) (n : ℕ) (rest : List ℕ) → n < limit → number_at w (to_be_bytes w n ++ rest) ≡ Some (n, rest)
number_again w limit wide n rest lt =
    let len = wide.len n in
    let long : ltb (length (to_be_bytes w n ++ rest)) (byte_len w) ≡ false = le-ltb _ _ (omega (arith, length-append (to_be_bytes w n) rest)) in
    rw (long, take_at (to_be_bytes w n) rest (byte_len w) len, drop_at (to_be_bytes w n) rest (byte_len w) len, wide.same n lt) refl

eight_takes : (bytes : List ℕ) (y : ℕ × List ℕ) → IsBytes bytes → eight_at bytes ≡ Some y → Read eight (λ n. n < 2 ^ 64) bytes y
unfolding eight_at eight
eight_takes bytes y fits e = let r = number_takes w64 (2 ^ 64) wide64 bytes y fits e in record { parts = r.parts; fits = r.fits; holds = r.holds }

eight_again : (n : ℕ) (rest : List ℕ) → n < 2 ^ 64 → eight_at (eight n ++ rest) ≡ Some (n, rest)
unfolding eight_at eight
eight_again n rest lt = number_again w64 (2 ^ 64) wide64 n rest lt

pub eight_field : IsField eight_at eight (λ n. n < 2 ^ 64)
eight_field = record { takes = eight_takes; again = eight_again }

four_takes : (bytes : List ℕ) (y : ℕ × List ℕ) → IsBytes bytes → four_at bytes ≡ Some y → Read four (λ n. n < 2 ^ 32) bytes y
unfolding four_at four
four_takes bytes y fits e = let r = number_takes w32 (2 ^ 32) wide32 bytes y fits e in record { parts = r.parts; fits = r.fits; holds = r.holds }

four_again : (n : ℕ) (rest : List ℕ) → n < 2 ^ 32 → four_at (four n ++ rest) ≡ Some (n, rest)
unfolding four_at four
four_again n rest lt = number_again w32 (2 ^ 32) wide32 n rest lt

pub four_field : IsField four_at four (λ n. n < 2 ^ 32)
four_field = record { takes = four_takes; again = four_again }

pub length-eight : (n : ℕ) → length (eight n) ≡ 8
unfolding eight
length-eight n = refl

pub eight_back : (bytes : List ℕ) → length bytes ≡ 8 → IsBytes bytes → eight (from_be_bytes w64 bytes) ≡ bytes
unfolding eight
eight_back bytes len fits = be_bytes_8 bytes _ len fits refl

pub back_eight : (n : ℕ) → n < 2 ^ 64 → from_be_bytes w64 (eight n) ≡ n
unfolding eight
back_eight n lt = from_be_bytes-to_be_bytes_8 n lt
