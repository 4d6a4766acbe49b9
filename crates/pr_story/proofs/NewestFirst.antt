-- A list read from its oldest entry on, and spoken of from its newest.
use Rattle.std.proofs.Common.{◌≡◌, ℕ, ◌<◌, ◌≤◌, ◌+◌, List, [], ◌∷◌, ◌++◌, length, get_or, take, sym, ◌∙◌, ap, subst}
use Rattle.std.specs.Prelude.{reverse}
use Rattle.std.proofs.lemmas.List.{take_more, reverse-append, take_all}

pub reverse-take_more : {X : Type 0} (xs : List X) (i : ℕ) (e : X) → i < length xs → e ≡ get_or xs i e → reverse (take (i + 1) xs) ≡ e ∷ reverse (take i xs)
reverse-take_more xs i e h is =
    ap reverse (take_more xs i e h) ∙ reverse-append (take i xs) (get_or xs i e ∷ []) ∙ ap (λ x. x ∷ reverse (take i xs)) (sym is)

-- what holds with one more entry
pub with_more : {X : Type 0} (P : List X → Type 0) (xs : List X) (i : ℕ) (e : X) → i < length xs → e ≡ get_or xs i e → P (e ∷ reverse (take i xs)) → P (reverse (take (i + 1) xs))
with_more P xs i e h is p = subst P (sym (reverse-take_more xs i e h is)) p

-- what holds with all entries
pub with_all : {X : Type 0} (P : List X → Type 0) (xs : List X) (i : ℕ) → length xs ≤ i → P (reverse (take i xs)) → P (reverse xs)
with_all P xs i h p = subst (λ ys. P (reverse ys)) (take_all i xs h) p

-- the same for a list that is spoken of in its order
pub with_next : {X : Type 0} (P : List X → Type 0) (xs : List X) (i : ℕ) (e : X) → i < length xs → e ≡ get_or xs i e → P (take i xs ++ e ∷ []) → P (take (i + 1) xs)
with_next P xs i e h is p = subst P (sym (take_more xs i e h ∙ ap (λ x. take i xs ++ x ∷ []) (sym is))) p

pub with_whole : {X : Type 0} (P : List X → Type 0) (xs : List X) (i : ℕ) → length xs ≤ i → P (take i xs) → P xs
with_whole P xs i h p = subst P (take_all i xs h) p
