-- How many clocks there are up to the last that is not 0.
use Rattle.std.proofs.Common.{◌≡◌, ◌≤◌, ◌<◌, ◌+◌, ◌∙◌, ℕ, zero, suc, Bool, true, false, List, [], ◌∷◌, length, get_or, set, subst, refl, sym, ap, inl, inr, nat_eq, arith}
use Rattle.std.proofs.lemmas.Bool.Decides.{nat_tests}
use Rattle.std.specs.Prelude.{◌⊎◌, cond, max, min}
use Rattle.std.proofs.lemmas.Grind.{get_or-set_at}
use Rattle.std.proofs.lemmas.Bool.{cases_lt}
use Rattle.std.proofs.lemmas.List.{get_or_past, get_or-set_other}
use Rattle.pr_vectors.specs.Counted.{HasCount, counted, counted_with}
use Rattle.pr_stamps.specs.Point.{Point}
use Rattle.pr_stamps.proofs.Places.{below_or}
use Rattle.pr_vectors.specs.Vector.{IsVector, below_of, clock_of, join_of, last_before}
use Rattle.pr_vectors.proofs.Vectors.{clock_of-vector_of, is_in_range, length-vector_of}

-- so many they are
pub record IsCounted (v : List ℕ) (n : ℕ) : Type 0 where
  pub few : n ≤ length v
  pub behind : (k : ℕ) → n ≤ k → get_or v k 0 ≡ 0
  pub last : (m : ℕ) → n ≡ suc m → get_or v m 0 ≡ 0 → ⊥

one_if : (c : ℕ) → (c ≡ 0 → ⊥) → cond {A = ℕ} (nat_eq c 0) 0 1 ≡ 1
one_if c h = grind (arith, nat_tests)

pub count_is : (v : List ℕ) (n : ℕ) → IsCounted v n → counted v ≡ n
count_is [] n h = let few : n ≤ 0 = h.few in let none : n ≡ 0 = omega (arith, few) in sym none
count_is (c ∷ cs) n h = by (count_is cs) n h
  where
    by : ((n : ℕ) → IsCounted cs n → counted cs ≡ n) → (n : ℕ) → IsCounted (c ∷ cs) n → counted_with c (counted cs) ≡ n
    by rest zero h =
        let none : counted cs ≡ 0 = rest 0 (record { few = omega arith; behind = λ k le. h.behind (suc k) (omega arith); last = λ m e. absurd (omega (arith, e)) }) in
        let first : c ≡ 0 = h.behind 0 (omega arith) in
        rw (none, first) refl
    by rest (suc zero) h =
        let none : counted cs ≡ 0 = rest 0 (record { few = omega arith; behind = λ k le. h.behind (suc k) (omega arith); last = λ m e. absurd (omega (arith, e)) }) in
        rw none (one_if c (h.last 0 refl))
    by rest (suc (suc m)) h =
        let few : suc (suc m) ≤ length (c ∷ cs) = h.few in
        let some : counted cs ≡ suc m = rest (suc m) (record { few = omega (arith, few); behind = λ k le. h.behind (suc k) (omega (arith, le)); last = λ j e. h.last (suc j) (ap suc e) }) in
        rw some refl

pub counted_has : (v : List ℕ) → IsCounted v (counted v)
counted_has [] = record { few = omega arith; behind = λ k le. refl; last = λ m e. absurd (omega (arith, e)) }
counted_has (c ∷ cs) = by (counted cs) (counted_has cs)
  where
    shifted : (n : ℕ) → IsCounted cs n → (k : ℕ) → suc n ≤ k → get_or (c ∷ cs) k 0 ≡ 0
    shifted n h zero le = absurd (omega (arith, le))
    shifted n h (suc k) le = h.behind k (omega (arith, le))

    none : (b : Bool) → nat_eq c 0 ≡ b → IsCounted cs 0 → IsCounted (c ∷ cs) (cond b 0 1)
    none true e h =
        let first : c ≡ 0 = grind (arith, nat_tests, e) in
        record { few = omega arith; behind = λ k le. all k; last = λ m e. absurd (omega (arith, e)) }
      where
        all : (k : ℕ) → get_or (c ∷ cs) k 0 ≡ 0
        all zero = grind (arith, nat_tests, e)
        all (suc k) = h.behind k (omega arith)
    none false e h = record { few = omega arith; behind = shifted 0 h; last = λ m is zero_c. grind (arith, nat_tests, e) }

    last_too : (n : ℕ) → IsCounted cs (suc n) → (m : ℕ) → suc (suc n) ≡ suc m → get_or (c ∷ cs) m 0 ≡ 0 → ⊥
    last_too n h zero e z = absurd (omega (arith, e))
    last_too n h (suc j) e z = h.last j (omega (arith, e)) z

    by : (n : ℕ) → IsCounted cs n → IsCounted (c ∷ cs) (counted_with c n)
    by zero h = none (nat_eq c 0) refl h
    by (suc n) h = record { few = omega (arith, h.few); behind = shifted (suc n) h; last = last_too n h }

-- so many clocks count, of 32
pub exactly : (v : List ℕ) (n : ℕ) → length v ≡ 32 → n ≤ 32 → ((k : ℕ) → n ≤ k → k < 32 → get_or v k 0 ≡ 0) → ((m : ℕ) → n ≡ suc m → get_or v m 0 ≡ 0 → ⊥) → n ≡ counted v
exactly v n len few behind last = sym (count_is v n (record { few = omega (arith, few, len); behind = λ k le. all k le (cases_lt k 32); last = last }))
  where
    all : (k : ℕ) → n ≤ k → (k < 32) ⊎ (32 ≤ k) → get_or v k 0 ≡ 0
    all k le (inl lt) = behind k le lt
    all k le (inr past) = get_or_past v k 0 (omega (arith, past, len))

-- a vector whose last clock of so many is not 0, with 0 behind it
pub has_count : (v : List ℕ) (n : ℕ) → IsVector v → n ≤ 32 → ((k : ℕ) → n ≤ k → k < 32 → get_or v k 0 ≡ 0) → ((m : ℕ) → n ≡ suc m → get_or v m 0 ≡ 0 → ⊥) → HasCount v n
has_count v n is few behind last = record { vector = is; few = few; behind = behind; exact = exactly v n is.nodes few behind last }

-- what holds of each clock up to a place, and of the zeros behind it
pub each_of : (cs : List ℕ) (n : ℕ) (g : ℕ → ℕ) → ((k : ℕ) → k < n → get_or cs k 0 ≡ g k) → ((k : ℕ) → n ≤ k → k < 32 → get_or cs k 0 ≡ 0) → ((k : ℕ) → n ≤ k → k < 32 → g k ≡ 0) → (k : ℕ) → k < 32 → get_or cs k 0 ≡ g k
each_of cs n g front behind zeros k lt = by (cases_lt k n)
  where
    by : (k < n) ⊎ (n ≤ k) → get_or cs k 0 ≡ g k
    by (inl here) = front k here
    by (inr past) = behind k past lt ∙ sym (zeros k past lt)

-- a clock is set where zeros begin
pub zeros_behind : (cs : List ℕ) (i c : ℕ) → ((k : ℕ) → i ≤ k → k < 32 → get_or cs k 0 ≡ 0) → (k : ℕ) → i + 1 ≤ k → k < 32 → get_or (set cs i c) k 0 ≡ 0
zeros_behind cs i c behind k le lt = get_or-set_other cs i k c 0 (λ e. absurd (omega (arith, e, le))) ∙ behind k (omega (arith, le)) lt

-- the last of some clocks that counts
pub is_last : (v : List ℕ) (n : ℕ) → n < 32 → IsVector v → ((k : ℕ) → n + 1 ≤ k → k < 32 → get_or v k 0 ≡ 0) → (get_or v n 0 ≡ 0 → ⊥) → HasCount v (n + 1)
is_last v n lt is behind some = has_count v (n + 1) is (omega (arith, lt)) behind (λ m e z. some (subst (λ i. get_or v i 0 ≡ 0) (omega (arith, e)) z))

-- the last of so many clocks is not 0
pub last_counts : (v : List ℕ) (n : ℕ) → HasCount v n → (m : ℕ) → n ≡ suc m → get_or v m 0 ≡ 0 → ⊥
last_counts v n h m e z = (counted_has v).last m (sym h.exact ∙ e) z

-- behind both there is 0 where one clock is set
pub set_behind : (v : List ℕ) (n i c : ℕ) → HasCount v n → (k : ℕ) → max n (i + 1) ≤ k → k < 32 → get_or (set v i c) k 0 ≡ 0
set_behind v n i c h k le lt = get_or-set_other v i k c 0 (λ e. absurd (omega (arith, e, le))) ∙ h.behind k (omega (arith, le)) lt

-- one clock is set to one that is not 0
pub raised_count : (v : List ℕ) (n i c : ℕ) → HasCount v n → i < 32 → IsVector (set v i c) → (c ≡ 0 → ⊥) → HasCount (set v i c) (max n (i + 1))
raised_count v n i c h lt is some = has_count (set v i c) (max n (i + 1)) is (omega (arith, h.few, lt)) (set_behind v n i c h) (λ m e z. by m e z (cases_lt i m))
  where
    here : (m : ℕ) → m ≡ i → get_or (set v i c) m 0 ≡ 0 → ⊥
    here m e z = some (sym (get_or-set_at v i m c 0 e (omega (arith, lt, h.vector.nodes))) ∙ z)

    by : (m : ℕ) → max n (i + 1) ≡ suc m → get_or (set v i c) m 0 ≡ 0 → (i < m) ⊎ (m ≤ i) → ⊥
    by m e z (inl less) = last_counts v n h m (omega (arith, e, less)) (sym (get_or-set_other v i m c 0 (λ q. absurd (omega (arith, q, less)))) ∙ z)
    by m e z (inr most) = here m (omega (arith, e, most)) z

-- clocks that are joined in up to a place, where none behind it counts, are joined in
pub joined_in : (cs old : List ℕ) (n : ℕ) (g : ℕ → ℕ) → ((k : ℕ) → k < n → get_or cs k 0 ≡ max (get_or old k 0) (g k)) → ((k : ℕ) → n ≤ k → get_or cs k 0 ≡ get_or old k 0) → ((k : ℕ) → n ≤ k → k < 32 → g k ≡ 0) → (k : ℕ) → k < 32 → get_or cs k 0 ≡ max (get_or old k 0) (g k)
joined_in cs old n g done rest zeros k lt = by (cases_lt k n)
  where
    by : (k < n) ⊎ (n ≤ k) → get_or cs k 0 ≡ max (get_or old k 0) (g k)
    by (inl here) = done k here
    by (inr past) =
        let same : get_or cs k 0 ≡ get_or old k 0 = rest k past in
        let none : g k ≡ 0 = zeros k past lt in
        omega (arith, same, none)

-- one clock more is joined in
pub joins_more : (cs old : List ℕ) (n c : ℕ) (g : ℕ → ℕ) → n < length cs → c ≡ max (get_or cs n 0) (g n) → ((k : ℕ) → k < n → get_or cs k 0 ≡ max (get_or old k 0) (g k)) → ((k : ℕ) → n ≤ k → get_or cs k 0 ≡ get_or old k 0) → (k : ℕ) → k < n + 1 → get_or (set cs n c) k 0 ≡ max (get_or old k 0) (g k)
joins_more cs old n c g within is done rest k lt = by (below_or k n lt)
  where
    here : get_or (set cs n c) n 0 ≡ max (get_or old n 0) (g n)
    here = get_or-set_at cs n n c 0 refl within ∙ is ∙ ap (λ x. max x (g n)) (rest n (omega arith))

    by : (k < n) ⊎ (k ≡ n) → get_or (set cs n c) k 0 ≡ max (get_or old k 0) (g k)
    by (inl less) = get_or-set_other cs n k c 0 (λ e. absurd (omega (arith, e, less))) ∙ done k less
    by (inr same) = subst (λ i. get_or (set cs n c) i 0 ≡ max (get_or old i 0) (g i)) (sym same) here

-- a join is in range, and does not count further than either vector
join_at : (v w : List ℕ) (k : ℕ) → k < 32 → get_or (join_of v w) k 0 ≡ max (get_or v k 0) (get_or w k 0)
join_at v w k h = clock_of-vector_of (λ n. max (get_or v n 0) (get_or w n 0)) k h

pub join_is : (v w : List ℕ) → IsVector v → IsVector w → IsVector (join_of v w)
join_is v w hv hw = is_in_range (λ k. max (get_or v k 0) (get_or w k 0)) (join_of v w) (length-vector_of _) (join_at v w) (λ k h. omega (arith, hv.most k h, hw.most k h))

pub join_behind : (v w : List ℕ) (a b : ℕ) → HasCount v a → ((k : ℕ) → b ≤ k → k < 32 → get_or w k 0 ≡ 0) → (k : ℕ) → max a b ≤ k → k < 32 → get_or (join_of v w) k 0 ≡ 0
join_behind v w a b hv none k le h =
    let at : get_or (join_of v w) k 0 ≡ max (get_or v k 0) (get_or w k 0) = join_at v w k h in
    let one : get_or v k 0 ≡ 0 = hv.behind k (omega (arith, le)) h in
    let other : get_or w k 0 ≡ 0 = none k (omega (arith, le)) h in
    omega (arith, at, one, other)

-- what is joined in below a stamp is in range, and does not count further
below_at : (v w : List ℕ) (p : Point) (k : ℕ) → k < 32 → get_or (join_of v (below_of w p)) k 0 ≡ max (get_or v k 0) (min (get_or w k 0) (last_before p k))
below_at v w p k h =
    let below : clock_of (below_of w p) k ≡ min (get_or w k 0) (last_before p k) = clock_of-vector_of _ k h in
    clock_of-vector_of (λ n. max (get_or v n 0) (clock_of (below_of w p) n)) k h ∙ ap (λ x. max (get_or v k 0) x) below

pub below_is : (v w : List ℕ) (p : Point) → IsVector v → IsVector w → IsVector (join_of v (below_of w p))
below_is v w p hv hw = is_in_range (λ k. max (get_or v k 0) (min (get_or w k 0) (last_before p k))) _ (length-vector_of _) (below_at v w p) (λ k h. omega (arith, hv.most k h, hw.most k h))

pub below_behind : (v w : List ℕ) (a b : ℕ) (p : Point) → HasCount v a → HasCount w b → (k : ℕ) → max a b ≤ k → k < 32 → get_or (join_of v (below_of w p)) k 0 ≡ 0
below_behind v w a b p hv hw k le h =
    let at : get_or (join_of v (below_of w p)) k 0 ≡ max (get_or v k 0) (min (get_or w k 0) (last_before p k)) = below_at v w p k h in
    let one : get_or v k 0 ≡ 0 = hv.behind k (omega (arith, le)) h in
    let other : get_or w k 0 ≡ 0 = hw.behind k (omega (arith, le)) h in
    omega (arith, at, one, other)
