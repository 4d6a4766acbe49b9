-- Lists in an order: what is kept of them, and an item put in its place.
use Rattle.std.proofs.Common.{◌≡◌, inl, inr, List, [], ◌∷◌, ◌++◌, Bool, true, false, refl, subst, cond}
use Rattle.std.specs.Prelude.{Contains, AllPairs, filter}
use Rattle.std.proofs.lemmas.List.Kept.{AllPairs-cons, AllPairs-filter}
use Rattle.std.proofs.lemmas.List.Elements.{All-contains_itself, Contains-append_cases, Contains-append_left, Contains-append_right}
use Rattle.pr_story.proofs.Lit.{bool_cases}
use Rattle.pr_story.proofs.Sorted.{contains_none, first_or_later, is_first, is_later, pairs_first, pairs_later}

pub pairs_none : {X : Type 0} (R : X → X → Type 0) → AllPairs R []
pairs_none R i j d lt within = absurd (contains_none d (j, within, refl))

pub pairs_cons : {X : Type 0} (R : X → X → Type 0) (x : X) (xs : List X) → ((y : X) → Contains xs y → R x y) → AllPairs R xs → AllPairs R (x ∷ xs)
pairs_cons R x xs f a = AllPairs-cons R x xs (λ k d lt. f _ (All-contains_itself xs k d lt)) a

pub pairs_append : {X : Type 0} (R : X → X → Type 0) (xs ys : List X) → AllPairs R xs → AllPairs R ys → ((x y : X) → Contains xs x → Contains ys y → R x y) → AllPairs R (xs ++ ys)
pairs_append R [] ys a b f = b
pairs_append R (x ∷ xs) ys a b f =
    pairs_cons R x (xs ++ ys)
    (λ y c. elim (Contains-append_cases xs ys y c) [
      | inl left ↦ pairs_first R x xs y a left
      | inr right ↦ f x y (is_first x xs) right
    ])
    (pairs_append R xs ys (pairs_later R x xs a) b (λ z y c d. f z y (is_later x xs z c) d))

-- the same of a last item
pub pairs_before : {X : Type 0} (R : X → X → Type 0) (xs : List X) (x : X) → AllPairs R (xs ++ x ∷ []) → AllPairs R xs
pairs_before R [] x a = pairs_none R
pairs_before R (y ∷ ys) x a =
    pairs_cons R y ys (λ z c. pairs_first R y (ys ++ x ∷ []) z a (Contains-append_left ys (x ∷ []) z c))
    (pairs_before R ys x (pairs_later R y (ys ++ x ∷ []) a))

pub pairs_last : {X : Type 0} (R : X → X → Type 0) (xs : List X) (x y : X) → AllPairs R (xs ++ x ∷ []) → Contains xs y → R y x
pairs_last R [] x y a c = absurd (contains_none y c)
pairs_last R (z ∷ zs) x y a c = elim (first_or_later z zs y c) [
  | inl same ↦ subst (λ w. R w x) same (pairs_first R z (zs ++ x ∷ []) x a (Contains-append_right zs (x ∷ []) x (is_first x [])))
  | inr later ↦ pairs_last R zs x y (pairs_later R z (zs ++ x ∷ []) a) later
]

pub last_pairs : {X : Type 0} (R : X → X → Type 0) (xs : List X) (x : X) → AllPairs R xs → ((y : X) → Contains xs y → R y x) → AllPairs R (xs ++ x ∷ [])
last_pairs R xs x a f =
    pairs_append R xs (x ∷ []) a (pairs_cons R x [] (λ y c. absurd (contains_none y c)) (pairs_none R))
    (λ y z c d. elim (first_or_later x [] z d) [
      | inl same ↦ subst (λ w. R y w) same (f y c)
      | inr none ↦ absurd (contains_none z none)
    ])

-- ---- what is kept

pub kept_is : {X : Type 0} (p : X → Bool) (xs : List X) (x : X) → Contains (filter p xs) x → Contains xs x × (p x ≡ true)
kept_is p [] x c = absurd (contains_none x c)
kept_is p (y ∷ ys) x c = elim (bool_cases (p y)) [
  | inl yes_it ↦ elim (first_or_later y (filter p ys) x (subst (λ b. Contains (cond b (y ∷ filter p ys) (filter p ys)) x) yes_it c)) [
    | inl same ↦ (subst (λ z. Contains (y ∷ ys) z) same (is_first y ys), subst (λ z. p z ≡ true) same yes_it)
    | inr later ↦ let k = kept_is p ys x later in (is_later y ys x k.0, k.1)
  ]
  | inr not_it ↦ let k = kept_is p ys x (subst (λ b. Contains (cond b (y ∷ filter p ys) (filter p ys)) x) not_it c) in (is_later y ys x k.0, k.1)
]

pub is_kept : {X : Type 0} (p : X → Bool) (xs : List X) (x : X) → Contains xs x → p x ≡ true → Contains (filter p xs) x
is_kept p [] x c e = absurd (contains_none x c)
is_kept p (y ∷ ys) x c e = elim (bool_cases (p y)) [
  | inl yes_it ↦ rw yes_it (elim (first_or_later y ys x c) [
    | inl same ↦ subst (λ z. Contains (y ∷ filter p ys) z) same (is_first y (filter p ys))
    | inr later ↦ is_later y (filter p ys) x (is_kept p ys x later e)
  ])
  | inr not_it ↦ rw not_it (elim (first_or_later y ys x c) [
    | inl same ↦ absurd (let f : p x ≡ false = subst (λ z. p z ≡ false) same not_it in cc)
    | inr later ↦ is_kept p ys x later e
  ])
]

-- ---- an item in its place

pub placed_pairs : {X : Type 0} (R : X → X → Type 0) (p q : X → Bool) (xs : List X) (x : X) → AllPairs R xs → ((y : X) → p y ≡ true → R y x) → ((y : X) → q y ≡ true → R x y)
    → ((y z : X) → R y x → R x z → R y z) → AllPairs R (filter p xs ++ x ∷ filter q xs)
placed_pairs R p q xs x a below past trans =
    pairs_append R (filter p xs) (x ∷ filter q xs) (AllPairs-filter R p xs a)
    (pairs_cons R x (filter q xs) (λ y c. past y (kept_is q xs y c).1) (AllPairs-filter R q xs a))
    (λ y z c d. elim (first_or_later x (filter q xs) z d) [
      | inl same ↦ subst (λ w. R y w) same (below y (kept_is p xs y c).1)
      | inr later ↦ trans y z (below y (kept_is p xs y c).1) (past z (kept_is q xs z later).1)
    ])
