-- Where a stream starts.
use Rattle.std.proofs.Common.{◌≡◌, ℕ, ◌<◌, ◌≤◌, ◌+◌, ◌⊎◌, inl, inr, List, [], ◌∷◌, ◌++◌, Bool, sym, ap, subst, ◌∙◌, arith, min}
use Rattle.std.specs.Prelude.{Contains, map}
use Rattle.std.proofs.lemmas.Bool.Decides.{nat_tests}
use Rattle.std.proofs.lemmas.List.{map-append}
use Rattle.std.proofs.lemmas.List.Elements.{Contains-append_left, Contains-append_right, Contains-append_cases}
use Rattle.pr_stamps.specs.Point.{Point}
use Rattle.pr_names.specs.Name.{IsName}
use Rattle.pr_names.specs.Span.{Span}
use Rattle.pr_sets.specs.Spans.{has, Meet}
use Rattle.pr_vectors.specs.Vector.{clock_of, meet_of}
use Rattle.pr_vectors.proofs.Vectors.{clock_of-vector_of, length-vector_of}
use Rattle.pr_story.specs.declared.entry.Entry.{Entry}
use Rattle.pr_story.specs.History.{current_clock, current_vector}
use Rattle.pr_story.specs.Search.{AreTold, IsStartOf}
use Rattle.pr_story.specs.Told.{IsGreatestUpTo, IsLastPrecise, IsStart, IsTold}
use Rattle.pr_sets.specs.Sets.{rest_of}
use Rattle.pr_story.proofs.SameNames.{agree_back, told_same}
use Rattle.pr_story.proofs.Sorted.{contains_none, first_or_later, is_first, is_later}

-- ---- the greatest clocks up to which something holds

-- what IsGreatestUpTo says of the clock of one writer
abbrev Upto : List Entry → (Point → Type 0) → ℕ → ℕ → Type 0
Upto j P n most =
    (most ≤ current_clock j n)
    × ((c : ℕ) → 1 ≤ c → c ≤ most → P (record { clock = c; node = n }))
    × (most < current_clock j n → P (record { clock = most + 1; node = n }) → ⊥)

mins : (a b : ℕ) → ((min a b ≡ a) × (a ≤ b)) ⊎ ((min a b ≡ b) × (b ≤ a))
mins a b = grind (arith, nat_tests)

upto_both : (j : List Entry) (P Q R : Point → Type 0) → ((p : Point) → P p → Q p → R p) → ((p : Point) → R p → P p) → ((p : Point) → R p → Q p) → (n a b : ℕ) → Upto j P n a → Upto j Q n b → Upto j R n (min a b)
upto_both j P Q R both left right n a b p q = elim (mins a b) [
  | inl is ↦ subst (λ (k : ℕ). Upto j R n k) (sym is.0) (
    p.0,
    λ c one le. both _ (p.1 c one le) (q.1 c one (let less : a ≤ b = is.1 in omega arith)),
    λ lt r. p.2 lt (left _ r),
  )
  | inr is ↦ subst (λ (k : ℕ). Upto j R n k) (sym is.0) (
    q.0,
    λ c one le. both _ (p.1 c one (let less : b ≤ a = is.1 in omega arith)) (q.1 c one le),
    λ lt r. q.2 lt (right _ r),
  )
]

meet_both : (j : List Entry) (P Q R : Point → Type 0) → ((p : Point) → P p → Q p → R p) → ((p : Point) → R p → P p) → ((p : Point) → R p → Q p) → (v w u : List ℕ) → u ≡ meet_of v w → IsGreatestUpTo j P v → IsGreatestUpTo j Q w → IsGreatestUpTo j R u
meet_both j P Q R both left right v w u is p q = subst (λ (x : List ℕ). IsGreatestUpTo j R x) (sym is) (
  length-vector_of (λ n. min (clock_of v n) (clock_of w n)),
  λ n lt. subst (λ (k : ℕ). Upto j R n k) (sym (clock_of-vector_of (λ m. min (clock_of v m) (clock_of w m)) n lt)) (upto_both j P Q R both left right n (clock_of v n) (clock_of w n) (p.1 n lt) (q.1 n lt)),
)

upto_same : (j : List Entry) (P R : Point → Type 0) → ((p : Point) → P p → R p) → ((p : Point) → R p → P p) → (v : List ℕ) → IsGreatestUpTo j P v → IsGreatestUpTo j R v
upto_same j P R there back v p = (
  p.0,
  λ n lt. ((p.1 n lt).0, λ c one le. there _ ((p.1 n lt).1 c one le), λ less r. (p.1 n lt).2 less (back _ r)),
)

-- ---- starts

pub start_none : (n : ℕ) (j : List Entry) (names : List Span) (v : List ℕ) → v ≡ current_vector j → IsStartOf n j [] names v
start_none n j names v is = subst (λ (x : List ℕ). IsStartOf n j [] names x) (sym is) (
  length-vector_of (current_clock j),
  λ m lt. subst (λ (k : ℕ). Upto j (AreTold n j [] names) m k) (sym (clock_of-vector_of (current_clock j) m lt)) (
    omega arith,
    λ c one le set there. absurd (contains_none set there),
    λ less r. omega (arith, less),
  ),
)

-- a set that shares a name with those
pub start_more : (n : ℕ) (j : List Entry) (set : List ℕ → Bool) (sets : List (List ℕ → Bool)) (names : List Span) (was last now : List ℕ) → now ≡ meet_of was last → Meet set (has names) → IsLastPrecise n j set last
    → IsStartOf n j sets names was → IsStartOf n j (set ∷ sets) names now
start_more n j set sets names was last now is meets precise start =
    meet_both j (AreTold n j sets names) (IsTold n j set) (AreTold n j (set ∷ sets) names)
    (λ p told here x c m. elim (first_or_later set sets x c) [
      | inl same ↦ subst (λ (y : List ℕ → Bool). IsTold n j y p) same here
      | inr later ↦ told x later m
    ])
    (λ p told x c m. told x (is_later set sets x c) m)
    (λ p told. told set (is_first set sets) meets)
    was last now is start precise

-- and one that shares none
pub start_other : (n : ℕ) (j : List Entry) (set : List ℕ → Bool) (sets : List (List ℕ → Bool)) (names : List Span) (was : List ℕ) → (Meet set (has names) → ⊥) → IsStartOf n j sets names was → IsStartOf n j (set ∷ sets) names was
start_other n j set sets names was apart start =
    upto_same j (AreTold n j sets names) (AreTold n j (set ∷ sets) names)
    (λ p told x c m. elim (first_or_later set sets x c) [
      | inl same ↦ absurd (apart (subst (λ (y : List ℕ → Bool). Meet y (has names)) (sym same) m))
      | inr later ↦ told x later m
    ])
    (λ p told x c m. told x (is_later set sets x c) m)
    was start

-- the order of the sets does not count
start_last : (n : ℕ) (j : List Entry) (set : List ℕ → Bool) (sets : List (List ℕ → Bool)) (names : List Span) (v : List ℕ) → IsStartOf n j (set ∷ sets) names v → IsStartOf n j (sets ++ set ∷ []) names v
start_last n j set sets names v start =
    upto_same j (AreTold n j (set ∷ sets) names) (AreTold n j (sets ++ set ∷ []) names)
    (λ p told x c m. elim (Contains-append_cases sets (set ∷ []) x c) [
      | inl old ↦ told x (is_later set sets x old) m
      | inr new ↦ elim (first_or_later set [] x new) [
        | inl same ↦ told x (subst (λ (y : List ℕ → Bool). Contains (set ∷ sets) y) same (is_first set sets)) m
        | inr none ↦ absurd (contains_none x none)
      ]
    ])
    (λ p told x c m. elim (first_or_later set sets x c) [
      | inl same ↦ told x (Contains-append_right sets (set ∷ []) x (subst (λ (y : List ℕ → Bool). Contains (set ∷ []) y) same (is_first set []))) m
      | inr later ↦ told x (Contains-append_left sets (set ∷ []) x later) m
    ])
    v start

pub start_next : (n : ℕ) (j : List Entry) (set : List Span) (sets : List (List Span)) (names : List Span) (v : List ℕ) → IsStartOf n j (has set ∷ map has sets) names v → IsStartOf n j (map has (sets ++ set ∷ [])) names v
start_next n j set sets names v start =
    subst (λ (tests : List (List ℕ → Bool)). IsStartOf n j tests names v) (sym (map-append has sets (set ∷ []))) (start_last n j (has set) (map has sets) names v start)

-- the rest is the set of its names
start_same : (n : ℕ) (j : List Entry) (a b : List ℕ → Bool) (sets : List (List ℕ → Bool)) (names : List Span) (v : List ℕ) → ((o : List ℕ) → IsName o → a o ≡ b o) → IsStartOf n j (a ∷ sets) names v → IsStartOf n j (b ∷ sets) names v
start_same n j a b sets names v same start =
    upto_same j (AreTold n j (a ∷ sets) names) (AreTold n j (b ∷ sets) names)
    (λ p told x c m. elim (first_or_later b sets x c) [
      | inl e ↦ subst (λ (y : List ℕ → Bool). IsTold n j y p) e (told_same n j a b p same (told a (is_first a sets) (meets b a x (agree_back a b same) e m)))
      | inr later ↦ told x (is_later a sets x later) m
    ])
    (λ p told x c m. elim (first_or_later a sets x c) [
      | inl e ↦ subst (λ (y : List ℕ → Bool). IsTold n j y p) e (told_same n j b a p (agree_back a b same) (told b (is_first b sets) (meets a b x same e m)))
      | inr later ↦ told x (is_later b sets x later) m
    ])
    v start
  where
    meets : (c d x : List ℕ → Bool) → ((o : List ℕ) → IsName o → c o ≡ d o) → c ≡ x → Meet x (has names) → Meet d (has names)
    meets c d x agree e m = (m.0, m.1, sym (agree m.0 m.1) ∙ ap (λ (f : List ℕ → Bool). f m.0) e ∙ m.2, m.3)

pub start_all : (n : ℕ) (j : List Entry) (rest : List Span) (sets : List (List Span)) (names : List Span) (v : List ℕ) → ((o : List ℕ) → IsName o → has rest o ≡ rest_of sets o) → IsStartOf n j (has rest ∷ map has sets) names v → IsStart sets n j names v
start_all n j rest sets names v same start = start_last n j (rest_of sets) (map has sets) names v (start_same n j (has rest) (rest_of sets) (map has sets) names v same start)
