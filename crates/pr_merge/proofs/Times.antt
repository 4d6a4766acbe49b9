-- Times of places, and how many places are not taken.
use Rattle.std.proofs.Common.{◌≡◌, ◌≢◌, ℕ, ◌+◌, ◌-◌, ◌≤◌, ◌<◌, List, [], ◌∷◌, length, get_or, set, replicate, refl, sym, ◌∙◌, ap, inl, inr, arith, zero, suc}
use Rattle.std.specs.Prelude.{◌⊎◌, All, slice_index, sum_by}
use Rattle.std.specs.List.Sorted.{IsStrictlyIncreasing}
use Rattle.std.proofs.lemmas.Bool.Decides.{nat_tests}
use Rattle.std.proofs.lemmas.List.{get_or-set_same, get_or-set_other}
use Rattle.std.proofs.lemmas.List.Elements.{All-head, All-tail}
use Rattle.std.proofs.lemmas.List.Kept.{AllPairs-from_increasing}
use Rattle.std.proofs.lemmas.List.Sums.{sum_by-cons}
use Rattle.pr_merge.specs.Merged.{IsPlace, time_at, IsEarlier}

pub less_or : (a n : ℕ) → (a < n) ⊎ (n ≤ a)
less_or a n = grind (arith, nat_tests)

pub same_or : (a b : ℕ) → (a ≡ b) ⊎ (a ≢ b)
same_or a b = grind (arith, nat_tests)

-- ---- times of one part

pub known_part : (parts : List (List ℕ)) (n k : ℕ) → k < length (get_or parts n []) → n < length parts
known_part [] n k lt = absurd (omega (arith, lt))
known_part (part ∷ parts) zero k lt = omega arith
known_part (part ∷ parts) (suc n) k lt = omega (arith, known_part parts n k lt)

pub rising_part : (parts : List (List ℕ)) → All IsStrictlyIncreasing parts → (n : ℕ) → IsStrictlyIncreasing (get_or parts n [])
rising_part [] rising n = λ k lt. absurd (omega (arith, lt))
rising_part (part ∷ parts) rising zero = All-head IsStrictlyIncreasing part parts rising
rising_part (part ∷ parts) rising (suc n) = rising_part parts (All-tail IsStrictlyIncreasing part parts rising) n

pub rises : (parts : List (List ℕ)) → All IsStrictlyIncreasing parts → (n i j : ℕ) → i < j → j < length (get_or parts n []) → slice_index (get_or parts n []) i < slice_index (get_or parts n []) j
rises parts rising n i j less lt = AllPairs-from_increasing (get_or parts n []) (rising_part parts rising n) i j 0 less lt

-- ---- the order of places

pub one_way : (parts : List (List ℕ)) (p q : ℕ × ℕ) → IsEarlier parts p q → IsEarlier parts q p → ⊥
one_way parts p q = numbers (time_at parts p) (time_at parts q) p.0 q.0
  where
    numbers : (a b m n : ℕ) → (a < b) ⊎ ((a ≡ b) × (m < n)) → (b < a) ⊎ ((b ≡ a) × (n < m)) → ⊥
    numbers a b m n one two = grind (arith, nat_tests)

pub earlier_numbers : (a b c l m n : ℕ) → (a < b) ⊎ ((a ≡ b) × (l < m)) → (b < c) ⊎ ((b ≡ c) × (m < n)) → (a < c) ⊎ ((a ≡ c) × (l < n))
earlier_numbers a b c l m n one two = grind (arith, nat_tests)

pub up_numbers : (a b c m n : ℕ) → (a < b) ⊎ ((a ≡ b) × (m < n)) → b ≤ c → (a < c) ⊎ ((a ≡ c) × (m < n))
up_numbers a b c m n one two = grind (arith, nat_tests)

pub at_place : (p : ℕ × ℕ) (m n : ℕ) → p.0 ≡ m → p.1 ≡ n → (m, n) ≡ p
at_place p m n part place = sym (ap (λ (k : ℕ). (k, p.1)) part ∙ ap (λ (k : ℕ). (m, k)) place)

-- ---- how many places are left

abbrev pub left : List (List ℕ) → List ℕ → ℕ
left [] next = 0
left (part ∷ parts) [] = length part + left parts []
left (part ∷ parts) (n ∷ next) = (length part - n) + left parts next

pub left_all : (parts : List (List ℕ)) (k : ℕ) → left parts (replicate k 0) ≡ sum_by length parts
left_all [] k = refl
left_all (part ∷ parts) zero = ap (λ (n : ℕ). length part + n) (left_all parts zero) ∙ sym (sum_by-cons length part parts)
left_all (part ∷ parts) (suc k) = omega (arith, left_all parts k, sum_by-cons length part parts)

pub left_less : (parts : List (List ℕ)) (next : List ℕ) (n : ℕ) → n < length next → slice_index next n < length (get_or parts n []) → left parts (set next n (slice_index next n + 1)) + 1 ≡ left parts next
left_less [] next n lt less = absurd (omega (arith, less))
left_less (part ∷ parts) [] n lt less = absurd (omega (arith, lt))
left_less (part ∷ parts) (k ∷ next) zero lt less = omega (arith, less)
left_less (part ∷ parts) (k ∷ next) (suc n) lt less = omega (arith, left_less parts next n (omega (arith, lt)) less)

at_end : (a n : ℕ) → ¬ (n < a) → a ≤ n
at_end a n none = grind (arith, nat_tests)

pub left_none : (parts : List (List ℕ)) (next : List ℕ) → ((m : ℕ) → ¬ IsPlace parts (m, slice_index next m)) → left parts next ≡ 0
left_none [] next none = refl
left_none (part ∷ parts) [] none = omega (arith, left_none parts [] (λ m. none (suc m)), at_end (length part) 0 (none zero))
left_none (part ∷ parts) (n ∷ next) none = omega (arith, left_none parts next (λ m. none (suc m)), at_end (length part) n (none zero))

-- ---- one place of a part more is taken

abbrev pub taken : List ℕ → ℕ → List ℕ
taken next n = set next n (slice_index next n + 1)

pub same_taken : (next : List ℕ) (n m : ℕ) → n < length next → m ≡ n → slice_index (taken next n) m ≡ slice_index next m + 1
same_taken next n m lt is =
    ap (slice_index (taken next n)) is ∙ get_or-set_same next n (slice_index next n + 1) 0 lt ∙ ap (λ (k : ℕ). slice_index next k + 1) (sym is)

pub other_taken : (next : List ℕ) (n m : ℕ) → m ≢ n → slice_index (taken next n) m ≡ slice_index next m
other_taken next n m is_not = get_or-set_other next n m (slice_index next n + 1) 0 is_not

pub more_taken : (next : List ℕ) (n m : ℕ) → n < length next → slice_index next m ≤ slice_index (taken next n) m
more_taken next n m lt = elim (same_or m n) [
  | inl is ↦ omega (arith, same_taken next n m lt is)
  | inr is_not ↦ omega (arith, other_taken next n m is_not)
]
