-- What stands at a place of a list, after a write and before more items.
use Rattle.std.proofs.Common.{◌≡◌, ◌≢◌, ◌<◌, ℕ, zero, suc, List, [], ◌∷◌, ◌++◌, ◌∙◌, Option, Some, None, get_or, length, slice_set, refl, sym, ap, arith}
use Rattle.std.specs.Prelude.{slice_get}
use Rattle.std.proofs.lemmas.List.{set-get_or}
use Rattle.std.proofs.lemmas.Option.{none-some}

-- the later write of two stays
pub set_again : {X : Type 0} (xs : List X) (i : ℕ) (x y : X) → slice_set (slice_set xs i x) i y ≡ slice_set xs i y
set_again [] i x y = refl
set_again (z ∷ xs) zero x y = refl
set_again (z ∷ xs) (suc i) x y = ap (λ (ys : List _). z ∷ ys) (set_again xs i x y)

-- what was taken is put back
pub put_again : {X : Type 0} (xs : List (Option X)) (i : ℕ) (x : X) → get_or xs i None ≡ Some x → slice_set (slice_set xs i None) i (Some x) ≡ xs
put_again xs i x is = set_again xs i None (Some x) ∙ ap (slice_set xs i) (sym is) ∙ set-get_or xs i None

pub set_there : {X : Type 0} (xs : List X) (i j : ℕ) (y x : X) → j ≢ i → slice_get xs j ≡ Some x → slice_get (slice_set xs i y) j ≡ Some x
set_there [] i j y x apart is = is
set_there (z ∷ xs) zero zero y x apart is = absurd (apart refl)
set_there (z ∷ xs) zero (suc j) y x apart is = is
set_there (z ∷ xs) (suc i) zero y x apart is = is
set_there (z ∷ xs) (suc i) (suc j) y x apart is = set_there xs i j y x (λ e. apart (ap suc e)) is

pub with_more : {X : Type 0} (xs ys : List X) (i : ℕ) (x : X) → slice_get xs i ≡ Some x → slice_get (xs ++ ys) i ≡ Some x
with_more [] ys i x is = absurd (none-some x is)
with_more (z ∷ xs) ys zero x is = is
with_more (z ∷ xs) ys (suc i) x is = with_more xs ys i x is

pub without_more : {X : Type 0} (xs ys : List X) (i : ℕ) (x : X) → i < length xs → slice_get (xs ++ ys) i ≡ Some x → slice_get xs i ≡ Some x
without_more [] ys i x lt is = absurd (omega (arith, lt))
without_more (z ∷ xs) ys zero x lt is = is
without_more (z ∷ xs) ys (suc i) x lt is = without_more xs ys i x (omega (arith, lt)) is

pub last_is : {X : Type 0} (xs : List X) (y : X) → slice_get (xs ++ y ∷ []) (length xs) ≡ Some y
last_is [] y = refl
last_is (z ∷ xs) y = last_is xs y
