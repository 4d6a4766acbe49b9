-- Places follow the bytes.
use Rattle.std.proofs.Common.{◌≡◌, ℕ, zero, suc, ◌+◌, ◌*◌, ◌^◌, ◌<◌, ◌≤◌, List, [], ◌∷◌, length, refl, ap, sym, ◌∙◌, true, arith}
use Rattle.std.proofs.Math.Nat.{mul-le-mul_right, pow-suc}
use Rattle.std.specs.Cmp.Lexicographic.{slice_cmp}
use Rattle.std.specs.Ordering.{nat_cmp, ordering_then, is_lt}
use Rattle.std.specs.declared.cmp.Ordering.{Ordering}
use Rattle.std.specs.declared.cmp.Ordering.TheVariants.{Less, Equal, Greater}
use Rattle.std.specs.Prelude.{◌⊎◌, nat_lt, nat_le, nat_eq, ◌&&◌, ◌||◌, not, Bool, IsTrue}
use Rattle.std.proofs.Common.{inl, inr}
use Rattle.std.proofs.lemmas.Map.Lookups.{exact_bytes}
use Rattle.std.proofs.lemmas.Bool.Decides.{nat_tests, leb_tells}
use Rattle.std.proofs.Common.{false}
use Rattle.std.proofs.lemmas.Bool.{false≢true}
use Rattle.pr_names.specs.Order.{name_lt}
use Rattle.pr_names.specs.Bound.{IsBound, is_under, bound_lt}
use Rattle.pr_names.specs.Span.{Span, IsSpan, holds}
use Rattle.pr_names.specs.declared.bound.Bound.{Bound}
use Rattle.pr_names.specs.declared.bound.Bound.TheVariants.{At, End}
use Rattle.pr_names.specs.Name.{Allowed, IsName}
use Rattle.pr_names.proofs.Place.{place_in, place, top, bound_place, from_place, to_place}
use Rattle.pr_names.proofs.Bytes.{allowed_least, allowed_most}

-- a lesser leading byte outweighs all that stands behind it
pub leads : (b c p : ℕ) → b < c → b * p + p ≤ c * p
leads b c p h = let l : suc b * p ≤ c * p = mul-le-mul_right p h in omega (arith, l)

pub power_positive : (k : ℕ) → 0 < 256 ^ k
power_positive zero = omega arith
power_positive (suc k) = omega (arith, pow-suc 256 k, power_positive k)

pub place_below : (k : ℕ) (bs : List ℕ) → Allowed bs → place_in k bs < 256 ^ k
unfolding place_in
place_below zero bs h = omega arith
place_below (suc k) [] h = power_positive (suc k)
place_below (suc k) (b ∷ bs) h =
    omega (arith, pow-suc 256 k, place_below k bs h.1, leads b 256 (256 ^ k) (omega (arith, allowed_most b h.0)))

pub trichotomy : (a b : ℕ) → (a < b) ⊎ ((a ≡ b) ⊎ (b < a))
trichotomy zero zero = inr (inl refl)
trichotomy zero (suc b) = inl (omega arith)
trichotomy (suc a) zero = inr (inr (omega arith))
trichotomy (suc a) (suc b) = elim (trichotomy a b) [
  | inl h ↦ inl (omega arith)
  | inr (inl h) ↦ inr (inl (ap suc h))
  | inr (inr h) ↦ inr (inr (omega arith))
]

less_is : (a b : ℕ) → a < b → nat_cmp a b ≡ Less
less_is a b h = grind (arith, nat_tests)

greater_is : (a b : ℕ) → b < a → nat_cmp a b ≡ Greater
greater_is a b h = grind (arith, nat_tests)

equal_is : (a b : ℕ) → a ≡ b → nat_cmp a b ≡ Equal
equal_is a b h = grind (arith, nat_tests)

same_shift : (q m n : ℕ) → nat_cmp m n ≡ nat_cmp (q + m) (q + n)
same_shift q m n = elim (trichotomy m n) [
  | inl lt ↦ less_is m n lt ∙ sym (less_is (q + m) (q + n) (omega arith))
  | inr (inl eq) ↦ equal_is m n eq ∙ sym (equal_is (q + m) (q + n) (omega arith))
  | inr (inr gt) ↦ greater_is m n gt ∙ sym (greater_is (q + m) (q + n) (omega arith))
]

shifted : (a b p m n : ℕ) → a ≡ b → nat_cmp m n ≡ nat_cmp (a * p + m) (b * p + n)
shifted a b p m n e = rw e (same_shift (b * p) m n)

-- a leading byte decides, or what stands behind it
pub cmp_step : (a b p m n : ℕ) (o : Ordering) → m < p → n < p → o ≡ nat_cmp m n → ordering_then (nat_cmp a b) o ≡ nat_cmp (a * p + m) (b * p + n)
cmp_step a b p m n o hm hn e = elim (trichotomy a b) [
  | inl lt ↦ rw (less_is a b lt) (sym (less_is (a * p + m) (b * p + n) (omega (arith, leads a b p lt))))
  | inr (inl eq) ↦ rw (equal_is a b eq) (e ∙ shifted a b p m n eq)
  | inr (inr gt) ↦ rw (greater_is a b gt) (sym (greater_is (a * p + m) (b * p + n) (omega (arith, leads b a p gt))))
]

pub cmp_in : (k : ℕ) (x y : List ℕ) → Allowed x → Allowed y → length x ≤ k → length y ≤ k → slice_cmp nat_cmp x y ≡ nat_cmp (place_in k x) (place_in k y)
unfolding place_in
cmp_in zero [] [] hx hy lx ly = refl
cmp_in zero [] (b ∷ y) hx hy lx ly = absurd (omega arith)
cmp_in zero (a ∷ x) y hx hy lx ly = absurd (omega arith)
cmp_in (suc k) [] [] hx hy lx ly = refl
cmp_in (suc k) [] (b ∷ y) hx hy lx ly = sym (less_is 0 (b * 256 ^ k + place_in k y) (omega (arith, power_positive k, leads 0 b (256 ^ k) (omega (arith, allowed_least b hy.0)))))
cmp_in (suc k) (a ∷ x) [] hx hy lx ly = sym (greater_is (a * 256 ^ k + place_in k x) 0 (omega (arith, power_positive k, leads 0 a (256 ^ k) (omega (arith, allowed_least a hx.0)))))
cmp_in (suc k) (a ∷ x) (b ∷ y) hx hy lx ly =
    cmp_step a b (256 ^ k) (place_in k x) (place_in k y) (slice_cmp nat_cmp x y) (place_below k x hx.1) (place_below k y hy.1)
    (cmp_in k x y hx.1 hy.1 (omega arith) (omega arith))

pub cmp_place : (x y : List ℕ) → IsName x → IsName y → slice_cmp nat_cmp x y ≡ nat_cmp (place x) (place y)
unfolding place
cmp_place x y hx hy = cmp_in 64 x y hx.each hy.each hx.most hy.most

pub same_place : (x y : List ℕ) → IsName x → IsName y → place x ≡ place y → x ≡ y
same_place x y hx hy e = exact_bytes x y (cmp_place x y hx hy ∙ equal_is (place x) (place y) e)

pub place_top : (x : List ℕ) → IsName x → place x < top
unfolding place top
place_top x h = place_below 64 x h.each

less_cmp : (m n : ℕ) → is_lt (nat_cmp m n) ≡ nat_lt m n
less_cmp m n = grind (arith, nat_tests)

bytes_step : (a b : ℕ) (l : Bool) (o : Ordering) → l ≡ is_lt o → (nat_lt a b || (nat_eq a b && l)) ≡ is_lt (ordering_then (nat_cmp a b) o)
bytes_step a b l o h = elim (trichotomy a b) [
  | inl lt ↦ rw (less_is a b lt) (first lt)
  | inr (inl eq) ↦ rw (equal_is a b eq) (same eq ∙ h)
  | inr (inr gt) ↦ rw (greater_is a b gt) (later gt)
]
  where
    first : a < b → (nat_lt a b || (nat_eq a b && l)) ≡ true
    first lt = grind (arith, nat_tests)

    same : a ≡ b → (nat_lt a b || (nat_eq a b && l)) ≡ l
    same eq = grind (arith, nat_tests)

    later : b < a → (nat_lt a b || (nat_eq a b && l)) ≡ false
    later gt = grind (arith, nat_tests)

-- names are ordered as slices of bytes are
pub lt_cmp : (x y : List ℕ) → name_lt x y ≡ is_lt (slice_cmp nat_cmp x y)
unfolding name_lt
lt_cmp [] [] = refl
lt_cmp [] (b ∷ y) = refl
lt_cmp (a ∷ x) [] = refl
lt_cmp (a ∷ x) (b ∷ y) = bytes_step a b (name_lt x y) (slice_cmp nat_cmp x y) (lt_cmp x y)

-- ---- the words of the clauses, by places

pub lt_is : (x y : List ℕ) → IsName x → IsName y → name_lt x y ≡ nat_lt (place x) (place y)
lt_is x y hx hy = lt_cmp x y ∙ ap is_lt (cmp_place x y hx hy) ∙ less_cmp (place x) (place y)

true_is : (m n : ℕ) → m < n → true ≡ nat_lt m n
true_is m n h = grind (arith, nat_tests)

false_is : (m n : ℕ) → n ≤ m → false ≡ nat_lt m n
false_is m n h = grind (arith, nat_tests)

pub under_is : (x : List ℕ) (b : Bound) → IsName x → IsBound b → is_under x b ≡ nat_lt (place x) (bound_place b)
under_is x (At n) hx hb = lt_is x n hx hb
under_is x End hx hb = true_is (place x) top (place_top x hx)

pub bound_most : (b : Bound) → IsBound b → bound_place b ≤ top
bound_most (At n) h = omega (arith, place_top n h)
bound_most End h = omega arith

pub bound_lt_is : (b c : Bound) → IsBound b → IsBound c → bound_lt b c ≡ nat_lt (bound_place b) (bound_place c)
bound_lt_is (At n) c hb hc = under_is n c hb hc
bound_lt_is End c hb hc = false_is top (bound_place c) (bound_most c hc)

-- what a test of two places tells
tells : (t : Bool) (m n : ℕ) → t ≡ nat_lt m n → ((t ≡ true) × (m < n)) ⊎ ((t ≡ false) × (n ≤ m))
tells t m n e = elim (leb_tells (suc m) n) [ inl g ↦ inl (e ∙ g.0, g.1) | inr g ↦ inr (e ∙ g.0, omega (arith, g.1)) ]

pub lt_tells : (x y : List ℕ) → IsName x → IsName y → ((name_lt x y ≡ true) × (place x < place y)) ⊎ ((name_lt x y ≡ false) × (place y ≤ place x))
lt_tells x y hx hy = tells (name_lt x y) (place x) (place y) (lt_is x y hx hy)

pub under_tells : (x : List ℕ) (b : Bound) → IsName x → IsBound b → ((is_under x b ≡ true) × (place x < bound_place b)) ⊎ ((is_under x b ≡ false) × (bound_place b ≤ place x))
under_tells x b hx hb = tells (is_under x b) (place x) (bound_place b) (under_is x b hx hb)

pub bound_lt_tells : (b c : Bound) → IsBound b → IsBound c → ((bound_lt b c ≡ true) × (bound_place b < bound_place c)) ⊎ ((bound_lt b c ≡ false) × (bound_place c ≤ bound_place b))
bound_lt_tells b c hb hc = tells (bound_lt b c) (bound_place b) (bound_place c) (bound_lt_is b c hb hc)

-- whether a place lies between two
abbrev pub between : ℕ → ℕ → ℕ → Bool
between a b v = nat_le a v && nat_lt v b

not_before : (a v : ℕ) → not (nat_lt v a) ≡ nat_le a v
not_before a v = grind (arith, nat_tests)

pub holds_is : (s : Span) (x : List ℕ) → IsSpan s → IsName x → holds s x ≡ between (from_place s) (to_place s) (place x)
holds_is s x hs hx =
    ap (λ t. not t && is_under x s.hi) (lt_is x s.lo hx hs.lo)
    ∙ ap (λ t. t && is_under x s.hi) (not_before (from_place s) (place x))
    ∙ ap (λ t. nat_le (from_place s) (place x) && t) (under_is x s.hi hx hs.hi)

pub between_tells : (a b v : ℕ) → ((between a b v ≡ true) × (a ≤ v) × (v < b)) ⊎ ((between a b v ≡ false) × ((v < a) ⊎ (b ≤ v)))
between_tells a b v = grind (arith, nat_tests)

pub holds_tells : (s : Span) (x : List ℕ) → IsSpan s → IsName x → ((holds s x ≡ true) × (from_place s ≤ place x) × (place x < to_place s)) ⊎ ((holds s x ≡ false) × ((place x < from_place s) ⊎ (to_place s ≤ place x)))
holds_tells s x hs hx = elim (between_tells (from_place s) (to_place s) (place x)) [
  | inl g ↦ inl (holds_is s x hs hx ∙ g.0, g.1, g.2)
  | inr g ↦ inr (holds_is s x hs hx ∙ g.0, g.1)
]

-- ---- the facts on places that tests give, and back

pub lt_places : (x y : List ℕ) → IsName x → IsName y → IsTrue (name_lt x y) → place x < place y
lt_places x y hx hy h = elim (lt_tells x y hx hy) [ inl g ↦ g.1 | inr g ↦ absurd (false≢true (sym g.0 ∙ h)) ]

pub places_lt : (x y : List ℕ) → IsName x → IsName y → place x < place y → IsTrue (name_lt x y)
places_lt x y hx hy h = elim (lt_tells x y hx hy) [ inl g ↦ g.0 | inr g ↦ absurd (omega (arith, g.1)) ]

pub under_places : (x : List ℕ) (b : Bound) → IsName x → IsBound b → IsTrue (is_under x b) → place x < bound_place b
under_places x b hx hb h = elim (under_tells x b hx hb) [ inl g ↦ g.1 | inr g ↦ absurd (false≢true (sym g.0 ∙ h)) ]

pub places_under : (x : List ℕ) (b : Bound) → IsName x → IsBound b → place x < bound_place b → IsTrue (is_under x b)
places_under x b hx hb h = elim (under_tells x b hx hb) [ inl g ↦ g.0 | inr g ↦ absurd (omega (arith, g.1)) ]

pub not_under_places : (x : List ℕ) (b : Bound) → IsName x → IsBound b → IsTrue (not (is_under x b)) → bound_place b ≤ place x
not_under_places x b hx hb h = elim (under_tells x b hx hb) [ inl g ↦ absurd (false≢true (sym (ap not g.0) ∙ h)) | inr g ↦ g.1 ]

pub places_not_under : (x : List ℕ) (b : Bound) → IsName x → IsBound b → bound_place b ≤ place x → IsTrue (not (is_under x b))
places_not_under x b hx hb h = elim (under_tells x b hx hb) [ inl g ↦ absurd (omega (arith, g.1)) | inr g ↦ ap not g.0 ]

pub holds_places : (s : Span) (x : List ℕ) → IsSpan s → IsName x → IsTrue (holds s x) → (from_place s ≤ place x) × (place x < to_place s)
holds_places s x hs hx h = elim (holds_tells s x hs hx) [ inl g ↦ (g.1, g.2) | inr g ↦ absurd (false≢true (sym g.0 ∙ h)) ]

pub places_hold : (s : Span) (x : List ℕ) → IsSpan s → IsName x → from_place s ≤ place x → place x < to_place s → IsTrue (holds s x)
places_hold s x hs hx from to = elim (holds_tells s x hs hx) [ inl g ↦ g.0 | inr g ↦ absurd (omega (arith, g.1)) ]

-- an interval's end comes after its start
pub span_some : (s : Span) → IsSpan s → from_place s < to_place s
span_some s h = under_places s.lo s.hi h.lo h.hi h.some

pub span_of : (s : Span) → IsName s.lo → IsBound s.hi → from_place s < to_place s → IsSpan s
span_of s lo hi some = record { lo = lo; hi = hi; some = places_under s.lo s.hi lo hi some }

pub bound_lt_places : (b c : Bound) → IsBound b → IsBound c → IsTrue (bound_lt b c) → bound_place b < bound_place c
bound_lt_places b c hb hc h = elim (bound_lt_tells b c hb hc) [ inl g ↦ g.1 | inr g ↦ absurd (false≢true (sym g.0 ∙ h)) ]

pub places_bound_lt : (b c : Bound) → IsBound b → IsBound c → bound_place b < bound_place c → IsTrue (bound_lt b c)
places_bound_lt b c hb hc h = elim (bound_lt_tells b c hb hc) [ inl g ↦ g.0 | inr g ↦ absurd (omega (arith, g.1)) ]

pub bound_le_places : (b c : Bound) → IsBound b → IsBound c → bound_lt b c ≡ false → bound_place c ≤ bound_place b
bound_le_places b c hb hc h = elim (bound_lt_tells b c hb hc) [ inl g ↦ absurd (false≢true (sym h ∙ g.0)) | inr g ↦ g.1 ]

pub le_places : (x y : List ℕ) → IsName x → IsName y → name_lt x y ≡ false → place y ≤ place x
le_places x y hx hy h = elim (lt_tells x y hx hy) [ inl g ↦ absurd (false≢true (sym h ∙ g.0)) | inr g ↦ g.1 ]
