-- Lists in order with the same items are the same.
use Rattle.std.proofs.Common.{◌≡◌, ℕ, ◌<◌, ◌⊎◌, inl, inr, List, [], ◌∷◌, refl, sym, ap, subst, arith, suc, zero, length, get_or, ◌∙◌}
use Rattle.std.specs.Prelude.{Contains, AllPairs}
pub use Rattle.pr_stamps.proofs.Contained.{contains_none, first_or_later, is_later, is_first}

pub one_item : {X : Type 0} (y x : X) → Contains (y ∷ []) x → y ≡ x
one_item y x c = elim (first_or_later y [] x c) [ inl same ↦ same | inr none ↦ absurd (contains_none x none) ]

pub pairs_later : {X : Type 0} (R : X → X → Type 0) (y : X) (ys : List X) → AllPairs R (y ∷ ys) → AllPairs R ys
pairs_later R y ys a i j d lt le = a (suc i) (suc j) d (omega arith) (omega arith)

pub pairs_first : {X : Type 0} (R : X → X → Type 0) (y : X) (ys : List X) (x : X) → AllPairs R (y ∷ ys) → Contains ys x → R y x
pairs_first R y ys x a c = let lt : c.0 < length ys = c.1 in subst (λ (z : _). R y z) c.2 (a 0 (suc c.0) x (omega arith) (omega arith))

pub sorted_one : {X : Type 0} (R : X → X → Type 0) → ((x y : X) → R x y → R y x → ⊥) → (xs ys : List X) → AllPairs R xs → AllPairs R ys
    → ((x : X) → Contains xs x → Contains ys x) → ((x : X) → Contains ys x → Contains xs x) → xs ≡ ys
sorted_one R apart [] [] p q f g = refl
sorted_one R apart [] (y ∷ ys) p q f g = absurd (contains_none y (g y (is_first y ys)))
sorted_one R apart (x ∷ xs) [] p q f g = absurd (contains_none x (f x (is_first x xs)))
sorted_one R apart (x ∷ xs) (y ∷ ys) p q f g =
    let heads : x ≡ y = elim (first_or_later y ys x (f x (is_first x xs))) [
      | inl same ↦ sym same
      | inr later ↦ elim (first_or_later x xs y (g y (is_first y ys))) [
        | inl same ↦ same
        | inr too ↦ absurd (apart x y (pairs_first R x xs y p too) (pairs_first R y ys x q later))
      ]
    ] in
    let there : (z : _) → Contains xs z → Contains ys z = λ z c. elim (first_or_later y ys z (f z (is_later x xs z c))) [
      | inl same ↦ absurd (let r : R x x = subst (λ (w : _). R x w) (sym same ∙ sym heads) (pairs_first R x xs z p c) in apart x x r r)
      | inr later ↦ later
    ] in
    let back : (z : _) → Contains ys z → Contains xs z = λ z c. elim (first_or_later x xs z (g z (is_later y ys z c))) [
      | inl same ↦ absurd (let r : R y y = subst (λ (w : _). R y w) (sym same ∙ heads) (pairs_first R y ys z q c) in apart y y r r)
      | inr later ↦ later
    ] in
    let tails : xs ≡ ys = sorted_one R apart xs ys (pairs_later R x xs p) (pairs_later R y ys q) there back in
    ap (λ (z : _). z ∷ xs) heads ∙ ap (λ (zs : List _). y ∷ zs) tails
