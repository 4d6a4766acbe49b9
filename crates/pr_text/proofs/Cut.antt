-- Where a part of a text ends.
use Rattle.std.proofs.Common.{◌≡◌, ℕ, List, [], ◌∷◌, ◌++◌, Bool, true, false, refl, sym, ap, ◌∙◌, subst, arith}
use Rattle.std.specs.Prelude.{◌==◌, not, ◌&&◌}
use Rattle.std.proofs.lemmas.Bool.Decides.{nat_tests}

-- ---- lists

abbrev front : {T : Type 0} → T → List T → T
front d [] = d
front d (x ∷ xs) = x

abbrev behind_front : {T : Type 0} → List T → List T
behind_front [] = []
behind_front (x ∷ xs) = xs

pub heads_same : {T : Type 0} (x y : T) (xs ys : List T) → x ∷ xs ≡ y ∷ ys → x ≡ y
heads_same x y xs ys e = ap (front x) e

pub tails_same : {T : Type 0} (x y : T) (xs ys : List T) → x ∷ xs ≡ y ∷ ys → xs ≡ ys
tails_same x y xs ys e = ap behind_front e

pub both_same : {T : Type 0} (x y : T) (xs ys : List T) → x ∷ xs ≡ y ∷ ys → (x ≡ y) × (xs ≡ ys)
both_same x y xs ys e = (heads_same x y xs ys e, tails_same x y xs ys e)

pub never : {A : Type 0} (b c : Bool) → b ≡ true → c ≡ false → b ≡ c → A
never b c p q e = cc

-- ---- bytes of a kind

-- each byte passes the test
abbrev pub IsOf : (ℕ → Bool) → List ℕ → Type 0
IsOf p [] = Unit {0}
IsOf p (x ∷ xs) = (p x ≡ true) × IsOf p xs

-- nothing follows that passes the test
abbrev pub Ends : (ℕ → Bool) → List ℕ → Type 0
Ends p [] = Unit {0}
Ends p (x ∷ xs) = p x ≡ false

pub of_append : (p : ℕ → Bool) (xs ys : List ℕ) → IsOf p xs → IsOf p ys → IsOf p (xs ++ ys)
of_append p [] ys a b = b
of_append p (x ∷ xs) ys a b = (a.0, of_append p xs ys a.1 b)

pub of_all : (p q : ℕ → Bool) (xs : List ℕ) → ((b : ℕ) → p b ≡ true → q b ≡ true) → IsOf p xs → IsOf q xs
of_all p q [] f a = tt
of_all p q (x ∷ xs) f a = (f x a.0, of_all p q xs f a.1)

-- two texts of such bytes that are followed by others end at the same place
pub cut : (p : ℕ → Bool) (xs ys r s : List ℕ) → IsOf p xs → IsOf p ys → Ends p r → Ends p s → xs ++ r ≡ ys ++ s → (xs ≡ ys) × (r ≡ s)
cut p [] [] r s a b c d e = (refl, e)
cut p [] (y ∷ ys) r s a b c d e = absurd (clash (subst (Ends p) e c))
  where
    clash : p y ≡ false → ⊥
    clash f = never (p y) (p y) b.0 f refl
cut p (x ∷ xs) [] r s a b c d e = absurd (clash (subst (Ends p) (sym e) d))
  where
    clash : p x ≡ false → ⊥
    clash f = never (p x) (p x) a.0 f refl
cut p (x ∷ xs) (y ∷ ys) r s a b c d e =
    let h : x ≡ y = heads_same x y (xs ++ r) (ys ++ s) e in
    let t : (xs ≡ ys) × (r ≡ s) = cut p xs ys r s a.1 b.1 c d (tails_same x y (xs ++ r) (ys ++ s) e) in
    (ap (λ z. z ∷ xs) h ∙ ap (λ z. y ∷ z) t.0, t.1)

-- ---- a byte that does not stand in a text

abbrev pub is_not : ℕ → ℕ → Bool
is_not s b = not (b == s)

abbrev pub Lacks : ℕ → List ℕ → Type 0
Lacks s xs = IsOf (is_not s) xs

stop_ends : (s : ℕ) → is_not s s ≡ false
stop_ends s = grind (arith, nat_tests)

pub cut_at : (s : ℕ) (xs ys r t : List ℕ) → Lacks s xs → Lacks s ys → xs ++ s ∷ r ≡ ys ++ s ∷ t → (xs ≡ ys) × (r ≡ t)
cut_at s xs ys r t a b e =
    let c : (xs ≡ ys) × (s ∷ r ≡ s ∷ t) = cut (is_not s) xs ys (s ∷ r) (s ∷ t) a b (stop_ends s) (stop_ends s) e in
    (c.0, tails_same s s r t c.1)

-- ---- fields

-- a byte of a field that is not quoted: neither a space nor a quote nor a line end
abbrev pub is_plain : ℕ → Bool
is_plain b = is_not 32 b && (is_not 34 b && is_not 10 b)

-- a field without quotes, or a quoted text
abbrev pub Plain : List ℕ → Type 0
Plain f = IsOf is_plain f

abbrev pub Quoted : List ℕ → Type 0
Quoted f = (q : List ℕ) × (f ≡ 34 ∷ (q ++ 34 ∷ [])) × Lacks 34 q × Lacks 10 q
