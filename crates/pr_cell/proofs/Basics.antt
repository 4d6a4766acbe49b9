-- Lists and sums, for the proofs on the rule.
use Rattle.std.proofs.Common.{◌≡◌, ◌≢◌, ◌⊎◌, ℕ, zero, suc, ◌+◌, ◌*◌, ◌<◌, ◌≤◌, List, [], ◌∷◌, ◌++◌, length, get_or, set, All, Contains, refl, sym, ap, ◌∙◌, subst, Bool, filter, eqb, cond, ne_eqb, append-nil, inl, inr, ⊎_elim, arith, suc-mul}
use mathlib.Core.Option.{some, some-injective, some-ne-none}
use mathlib.Core.List.{head-eq_of_cons-eq, tail-eq_of_cons-eq}
use native.Mathlib.Decide.{ℕ_discrete}
use lib.ListN.{get_elem?}
use Rattle.std.proofs.lemmas.List.Elements.{All-nil, All-cons, All-head, All-tail, All-weaker, filter-append}
use Rattle.pr_cell.specs.Rule.{total, IsPast}

pub total_set : (xs : List ℕ) (i y : ℕ) → i < length xs → total (set xs i y) + get_or xs i 0 ≡ total xs + y
total_set [] i y h = absurd (omega arith)
total_set (x ∷ xs) zero y h = omega arith
total_set (x ∷ xs) (suc i) y h = let e = total_set xs i y (omega arith) in omega arith

pub total_push : (xs : List ℕ) → total (xs ++ 0 ∷ []) ≡ total xs
total_push [] = refl
total_push (x ∷ xs) = ap (λ (n : ℕ). x + n) (total_push xs)

pub total_below : (xs : List ℕ) (m : ℕ) → All (λ n. n ≤ m) xs → total xs ≤ length xs * m
total_below [] m h = omega arith
total_below (x ∷ xs) m h = let a : x ≤ m = All-head (λ n. n ≤ m) x xs h in let b = total_below xs m (All-tail (λ n. n ≤ m) x xs h) in
    let e = suc-mul (length xs) m in let y : ℕ = length xs * m in let e' : suc (length xs) * m ≡ y + m = e in let b' : total xs ≤ y = b in omega (arith, e', b', a)

module _ {A : Type 0} where
  pub at_push : (l : List A) (a b : A) (j : ℕ) → get_elem? (l ++ a ∷ []) j ≡ some b → (get_elem? l j ≡ some b) ⊎ ((j ≡ length l) × (a ≡ b))
  at_push [] a b zero e = inr (refl, some-injective a b e)
  at_push [] a b (suc j) e = absurd (some-ne-none b (sym e))
  at_push (x ∷ xs) a b zero e = inl e
  at_push (x ∷ xs) a b (suc j) e = ⊎_elim (λ h. inl h) (λ h. inr (ap suc h.0, h.1)) (at_push xs a b j e)

  pub set_at : (l : List A) (i : ℕ) (a b : A) → get_elem? l i ≡ some a → get_elem? (set l i b) i ≡ some b
  set_at [] i a b e = absurd (some-ne-none a (sym e))
  set_at (x ∷ xs) zero a b e = refl
  set_at (x ∷ xs) (suc i) a b e = set_at xs i a b e

  -- of two beginnings of one list the one that is not longer begins the other
  pub begins : (xs ys us vs : List A) → xs ++ us ≡ ys ++ vs → length xs ≤ length ys → (c : List A) × (ys ≡ xs ++ c) × (us ≡ c ++ vs)
  begins [] ys us vs e h = (ys, refl, e)
  begins (x ∷ xs) [] us vs e h = absurd (omega arith)
  begins (x ∷ xs) (y ∷ ys) us vs e h = let t = begins xs ys us vs (tail-eq_of_cons-eq e) (omega arith) in (t.0, (λ i. sym (head-eq_of_cons-eq e) i ∷ t.1 i), t.2)

  pub All-left : (P : A → Type 0) (xs ys : List A) → All P (xs ++ ys) → All P xs
  All-left P [] ys h = All-nil P
  All-left P (x ∷ xs) ys h = All-cons P x xs (All-head P x (xs ++ ys) h) (All-left P xs ys (All-tail P x (xs ++ ys) h))

  pub All-right : (P : A → Type 0) (xs ys : List A) → All P (xs ++ ys) → All P ys
  All-right P [] ys h = h
  All-right P (x ∷ xs) ys h = All-right P xs ys (All-tail P x (xs ++ ys) h)

  pub none_left : (P Q : A → Type 0) (xs : List A) → ((x : A) → P x → Q x → ⊥) → All P xs → All Q xs → xs ≡ []
  none_left P Q [] apart p q = refl
  none_left P Q (x ∷ xs) apart p q = absurd (apart x (All-head P x xs p) (All-head Q x xs q))

pub none_in : (k : ℕ) → Contains [] k → ⊥
none_in k h = let l = h.1 in omega arith

pub one_in : (n k : ℕ) → Contains (n ∷ []) k → k ≡ n
one_in n k (zero, l, e) = sym e
one_in n k (suc i, l, e) = absurd (omega arith)

pub in_one : (n : ℕ) → Contains (n ∷ []) n
in_one n = (0, omega arith, refl)

abbrev pick : {P A : Type 0} → Dec P → A → A → A
pick (yes _) a b = a
pick (no _) a b = b

module _ {A : Type 0} where
  pub put : (ℕ → A) → ℕ → A → ℕ → A
  put f i c j = pick (ℕ_discrete j i) c (f j)

  pub put_here : (f : ℕ → A) (i : ℕ) (c : A) → put f i c i ≡ c
  unfolding put
  put_here f i c = go (ℕ_discrete i i)
    where
      go : (d : Dec (i ≡ i)) → pick d c (f i) ≡ c
      go (yes e) = refl
      go (no n) = absurd (n refl)

  pub put_else : (f : ℕ → A) (i j : ℕ) (c : A) → j ≢ i → put f i c j ≡ f j
  unfolding put
  put_else f i j c ne = go (ℕ_discrete j i)
    where
      go : (d : Dec (j ≡ i)) → pick d c (f j) ≡ f j
      go (yes e) = absurd (ne e)
      go (no n) = refl

-- what was other's is id's
pub moved : (ℕ → ℕ) → ℕ → ℕ → ℕ → ℕ
moved f other id k = pick (ℕ_discrete (f k) other) id (f k)

pub moved_here : (f : ℕ → ℕ) (other id k : ℕ) → f k ≡ other → moved f other id k ≡ id
unfolding moved
moved_here f other id k e = go (ℕ_discrete (f k) other)
  where
    go : (d : Dec (f k ≡ other)) → pick d id (f k) ≡ id
    go (yes e) = refl
    go (no n) = absurd (n e)

pub moved_else : (f : ℕ → ℕ) (other id k : ℕ) → f k ≢ other → moved f other id k ≡ f k
unfolding moved
moved_else f other id k ne = go (ℕ_discrete (f k) other)
  where
    go : (d : Dec (f k ≡ other)) → pick d id (f k) ≡ f k
    go (yes e) = absurd (ne e)
    go (no n) = refl

module _ {E : Type 0} (number : E → ℕ) where
  pub filter_none : (k : ℕ) (es : List E) → All (λ e. number e ≢ k) es → filter (λ e. eqb (number e) k) es ≡ []
  filter_none k [] h = refl
  filter_none k (x ∷ xs) h =
      subst (λ b. cond b (x ∷ filter (λ e. eqb (number e) k) xs) (filter (λ e. eqb (number e) k) xs) ≡ []) (sym (ne_eqb (number x) k (All-head (λ e. number e ≢ k) x xs h)))
      (filter_none k xs (All-tail (λ e. number e ≢ k) x xs h))

  -- what follows has nothing of a number that is held
  pub filter_past : (k : ℕ) (held : List ℕ) (es new zs : List E) → Contains held k → zs ≡ es ++ new → IsPast number held new → filter (λ e. eqb (number e) k) zs ≡ filter (λ e. eqb (number e) k) es
  filter_past k held es new zs c is past =
      let p : E → Bool = λ e. eqb (number e) k in
      ap (filter p) is ∙ (filter-append p es new ∙ (ap (λ l. filter p es ++ l) (filter_none k new (All-weaker (λ e. Contains held (number e) → ⊥) (λ e. number e ≢ k) (λ e apart same. apart (subst (Contains held) (sym same) c)) new past)) ∙ append-nil (filter p es)))

  -- where all entries are of numbers made, none is of the next
  pub filter_unmade : (made next : ℕ) (es : List E) → next ≡ made → All (λ e. number e < made) es → filter (λ e. eqb (number e) next) es ≡ []
  filter_unmade made next es is below =
      filter_none next es (All-weaker (λ e. number e < made) (λ e. number e ≢ next) (λ e l same. omega (arith, l, same, is)) es below)
