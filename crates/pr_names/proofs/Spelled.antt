-- Bytes compared eight at a time.
use Rattle.std.proofs.Common.{◌≡◌, ℕ, zero, suc, ◌+◌, ◌-◌, ◌*◌, ◌^◌, ◌<◌, ◌≤◌, List, [], ◌∷◌, length, take, drop, get_or, refl, ap, sym, ◌∙◌, arith, w64, drop-drop, length-drop, true, false}
use Rattle.std.specs.Prelude.{replicate}
use Rattle.std.proofs.Math.Nat.{pow-suc}
use Rattle.std.proofs.Math.ListN.{drop_of_length-le}
use Rattle.std.proofs.Math.Seq.{get_or-drop}
use Rattle.std.proofs.lemmas.Bool.{false≢true}
use Rattle.std.specs.Cmp.Lexicographic.{slice_cmp}
use Rattle.std.specs.Int.{from_be_bytes}
use Rattle.std.specs.Ordering.{nat_cmp, ordering_then, is_ne}
use Rattle.std.specs.declared.cmp.Ordering.{Ordering}
use Rattle.std.specs.declared.cmp.Ordering.TheVariants.{Less, Equal, Greater}
use Rattle.pr_names.specs.Name.{Allowed}
use Rattle.pr_names.specs.Padded.{IsPadded}
use Rattle.pr_names.proofs.Bytes.{allowed_most}
use Rattle.pr_names.proofs.Place.{place_in, place}
use Rattle.pr_names.proofs.Places.{cmp_place, cmp_step, leads, power_positive}

-- each number is a byte
abbrev Bytes : List ℕ → Type 0
Bytes xs = (i : ℕ) → get_or xs i 0 < 256

spelled_below : (k : ℕ) (xs : List ℕ) → Bytes xs → place_in k xs < 256 ^ k
unfolding place_in
spelled_below zero xs h = omega arith
spelled_below (suc k) [] h = power_positive (suc k)
spelled_below (suc k) (b ∷ xs) h =
    let small : b < 256 = h 0 in
    omega (arith, pow-suc 256 k, spelled_below k xs (λ i. h (suc i)), leads b 256 (256 ^ k) small)

grouped : (r s t : Ordering) → ordering_then (ordering_then r s) t ≡ ordering_then r (ordering_then s t)
grouped Less s t = refl
grouped Equal s t = refl
grouped Greater s t = refl

-- what the first k bytes spell decides, or what stands behind them
front : (k : ℕ) (xs ys : List ℕ) → k ≤ length xs → k ≤ length ys → Bytes xs → Bytes ys
    → slice_cmp nat_cmp xs ys ≡ ordering_then (nat_cmp (place_in k xs) (place_in k ys)) (slice_cmp nat_cmp (drop k xs) (drop k ys))
unfolding place_in
front zero xs ys p q g h = refl
front (suc k) [] ys p q g h = absurd (omega arith)
front (suc k) (a ∷ xs) [] p q g h = absurd (omega arith)
front (suc k) (a ∷ xs) (b ∷ ys) p q g h =
    let m : ℕ = place_in k xs in
    let n : ℕ = place_in k ys in
    let rest : Ordering = slice_cmp nat_cmp (drop k xs) (drop k ys) in
    ap (ordering_then (nat_cmp a b)) (front k xs ys (omega arith) (omega arith) (λ i. g (suc i)) (λ i. h (suc i)))
    ∙ sym (grouped (nat_cmp a b) (nat_cmp m n) rest)
    ∙ ap (λ o. ordering_then o rest) (cmp_step a b (256 ^ k) m n (nat_cmp m n) (spelled_below k xs (λ i. g (suc i))) (spelled_below k ys (λ i. h (suc i))) refl)

-- the number of eight bytes
eight : (xs : List ℕ) → 8 ≤ length xs → from_be_bytes w64 (take 8 xs) ≡ place_in 8 xs
unfolding place_in
eight [] p = absurd (omega arith)
eight (a ∷ []) p = absurd (omega arith)
eight (a ∷ b ∷ []) p = absurd (omega arith)
eight (a ∷ b ∷ c ∷ []) p = absurd (omega arith)
eight (a ∷ b ∷ c ∷ d ∷ []) p = absurd (omega arith)
eight (a ∷ b ∷ c ∷ d ∷ e ∷ []) p = absurd (omega arith)
eight (a ∷ b ∷ c ∷ d ∷ e ∷ f ∷ []) p = absurd (omega arith)
eight (a ∷ b ∷ c ∷ d ∷ e ∷ f ∷ g ∷ []) p = absurd (omega arith)
eight (a ∷ b ∷ c ∷ d ∷ e ∷ f ∷ g ∷ h ∷ xs) p = omega arith

-- the number of the bytes' word i
abbrev word_at : List ℕ → ℕ → ℕ
word_at xs i = from_be_bytes w64 (take 8 (drop (8 * i) xs))

-- the order of all bytes from word i on
abbrev from_word : List ℕ → List ℕ → ℕ → Ordering
from_word xs ys i = slice_cmp nat_cmp (drop (8 * i) xs) (drop (8 * i) ys)

pub decided : (o r s : Ordering) → s ≡ ordering_then o r → is_ne o ≡ true → o ≡ s
decided Less r s e n = sym e
decided Equal r s e n = absurd (false≢true n)
decided Greater r s e n = sym e

pub passed : (o r s : Ordering) → s ≡ ordering_then o r → is_ne o ≡ false → s ≡ r
passed Less r s e n = absurd (false≢true (sym n))
passed Equal r s e n = e
passed Greater r s e n = absurd (false≢true (sym n))

module _ (xs ys : List ℕ) (g : Bytes xs) (h : Bytes ys) (p : length xs ≡ 64) (q : length ys ≡ 64) where
  -- one word decides, or what stands behind it
  one_word : (i : ℕ) → i < 8 → from_word xs ys i ≡ ordering_then (nat_cmp (word_at xs i) (word_at ys i)) (from_word xs ys (i + 1))
  one_word i l =
      let us : List ℕ = drop (8 * i) xs in
      let vs : List ℕ = drop (8 * i) ys in
      let m : 8 ≤ length us = omega (arith, length-drop (8 * i) xs) in
      let n : 8 ≤ length vs = omega (arith, length-drop (8 * i) ys) in
      let behind : (zs : List ℕ) → drop 8 (drop (8 * i) zs) ≡ drop (8 * (i + 1)) zs = λ zs. drop-drop 8 (8 * i) zs ∙ ap (λ k. drop k zs) (omega arith) in
      front 8 us vs m n (λ k. omega (arith, get_or-drop (8 * i) xs k 0, g (8 * i + k))) (λ k. omega (arith, get_or-drop (8 * i) ys k 0, h (8 * i + k)))
      ∙ rw (sym (eight us m), sym (eight vs n), behind xs, behind ys) refl

  -- the same of two numbers that were read, and what was told of them
  pub next_word : (i : ℕ) → i < 8 → (v w : ℕ) (o : Ordering) → v ≡ word_at xs i → w ≡ word_at ys i → o ≡ nat_cmp v w → from_word xs ys i ≡ ordering_then o (from_word xs ys (i + 1))
  next_word i l v w o e f t = one_word i l ∙ ap (λ r. ordering_then r (from_word xs ys (i + 1))) (sym (t ∙ rw (e, f) refl))

  -- all 64 bytes, as numbers
  whole : slice_cmp nat_cmp xs ys ≡ nat_cmp (place_in 64 xs) (place_in 64 ys)
  whole = front 64 xs ys (omega arith) (omega arith) g h ∙ end (nat_cmp (place_in 64 xs) (place_in 64 ys)) _ none
    where
      none : slice_cmp nat_cmp (drop 64 xs) (drop 64 ys) ≡ Equal
      none = let d : (zs : List ℕ) → length zs ≡ 64 → drop 64 zs ≡ [] = λ zs e. drop_of_length-le zs {i = 64} (omega arith) in rw (d xs p, d ys q) refl

      end : (o r : Ordering) → r ≡ Equal → ordering_then o r ≡ o
      end Less r e = refl
      end Equal r e = e
      end Greater r e = refl

no_bytes : (k m : ℕ) → place_in k (replicate m 0) ≡ 0
unfolding place_in
no_bytes zero m = refl
no_bytes (suc k) zero = refl
no_bytes (suc k) (suc m) = omega (arith, no_bytes k m)

-- zeros behind change no number
zeros_behind : (k n m : ℕ) (xs : List ℕ) → drop n xs ≡ replicate m 0 → place_in k xs ≡ place_in k (take n xs)
unfolding place_in
zeros_behind zero n m xs e = refl
zeros_behind (suc k) zero m xs e = ap (place_in (suc k)) e ∙ no_bytes (suc k) m
zeros_behind (suc k) (suc n) m [] e = refl
zeros_behind (suc k) (suc n) m (b ∷ xs) e = ap (λ p. b * 256 ^ k + p) (zeros_behind k n m xs e)

no_byte : (m i : ℕ) → let zeros : List ℕ = replicate m 0 in get_or zeros i 0 ≡ 0
no_byte zero i = refl
no_byte (suc m) zero = refl
no_byte (suc m) (suc i) = no_byte m i

bytes_of : (n m : ℕ) (xs : List ℕ) → Allowed (take n xs) → drop n xs ≡ replicate m 0 → Bytes xs
bytes_of zero m xs h e i = omega (arith, ap (λ (ys : List ℕ). get_or ys i 0) e, no_byte m i)
bytes_of (suc n) m [] h e i = omega arith
bytes_of (suc n) m (b ∷ xs) h e zero = omega (arith, allowed_most b h.0)
bytes_of (suc n) m (b ∷ xs) h e (suc i) = bytes_of n m xs h.1 e i

-- zeros behind change no order
pub padded_order : (a b : List ℕ) (m n : ℕ) → IsPadded a m → IsPadded b n → slice_cmp nat_cmp a b ≡ slice_cmp nat_cmp (take m a) (take n b)
unfolding place
padded_order a b m n p q =
    whole a b (bytes_of m (64 - m) a p.named.each p.zeros) (bytes_of n (64 - n) b q.named.each q.zeros) p.all q.all
    ∙ rw (zeros_behind 64 m (64 - m) a p.zeros, zeros_behind 64 n (64 - n) b q.zeros) (sym (cmp_place (take m a) (take n b) p.named q.named))
