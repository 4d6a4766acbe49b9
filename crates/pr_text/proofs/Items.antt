-- Lists of items.
use Rattle.std.proofs.Common.{◌≡◌, ℕ, List, [], ◌∷◌, ◌++◌, Bool, true, refl, sym, ap, ◌∙◌, arith}
use Rattle.pr_text.specs.Texts.{joined, listed, more}
use Rattle.pr_text.proofs.Cut.{IsOf, Ends, Lacks, cut, is_not, of_append, both_same, heads_same, tails_same}
use Rattle.std.proofs.lemmas.Bool.Decides.{nat_tests}

-- an item that a byte joins to others: it lacks the byte, and is neither nothing nor a hyphen
pub record IsItem (b : ℕ) (x : List ℕ) : Type 0 where
  pub lacks : Lacks b x
  pub some : x ≡ [] → ⊥
  pub shown : x ≡ 45 ∷ [] → ⊥

abbrev pub AreItems : ℕ → List (List ℕ) → Type 0
AreItems b [] = Unit {0}
AreItems b (x ∷ xs) = IsItem b x × AreItems b xs

pub nothing_here : {A : Type 0} {T : Type 0} (x : T) (xs : List T) → [] ≡ x ∷ xs → A
nothing_here x xs e = cc

pub nothing_there : {A : Type 0} {T : Type 0} (x : T) (xs : List T) → x ∷ xs ≡ [] → A
nothing_there x xs e = cc

more_ends : (b : ℕ) (xs : List (List ℕ)) → Ends (is_not b) (more b xs)
more_ends b [] = tt
more_ends b (x ∷ xs) = grind (arith, nat_tests)

pub more_same : (b : ℕ) (xs ys : List (List ℕ)) → AreItems b xs → AreItems b ys → more b xs ≡ more b ys → xs ≡ ys
more_same b [] [] p q e = refl
more_same b [] (y ∷ ys) p q e = nothing_here b (y ++ more b ys) e
more_same b (x ∷ xs) [] p q e = nothing_there b (x ++ more b xs) e
more_same b (x ∷ xs) (y ∷ ys) p q e =
    let c : (x ≡ y) × (more b xs ≡ more b ys) = cut (is_not b) x y (more b xs) (more b ys) p.0.lacks q.0.lacks (more_ends b xs) (more_ends b ys) (tails_same b b (x ++ more b xs) (y ++ more b ys) e) in
    ap (λ z. z ∷ xs) c.0 ∙ ap (λ z. y ∷ z) (more_same b xs ys p.1 q.1 c.1)

some_joined : (y r : List ℕ) → (y ≡ [] → ⊥) → [] ≡ y ++ r → ⊥
some_joined [] r n e = n refl
some_joined (c ∷ y) r n e = nothing_here c (y ++ r) e

pub joined_same : (b : ℕ) (xs ys : List (List ℕ)) → AreItems b xs → AreItems b ys → joined b xs ≡ joined b ys → xs ≡ ys
joined_same b [] [] p q e = refl
joined_same b [] (y ∷ ys) p q e = absurd (some_joined y (more b ys) q.0.some e)
joined_same b (x ∷ xs) [] p q e = absurd (some_joined x (more b xs) p.0.some (sym e))
joined_same b (x ∷ xs) (y ∷ ys) p q e = more_same b (x ∷ xs) (y ∷ ys) p q (ap (λ z. b ∷ z) e)

no_end : (y r : List ℕ) → y ++ r ≡ [] → y ≡ []
no_end [] r e = refl
no_end (c ∷ y) r e = nothing_there c (y ++ r) e

pub no_hyphen : (y r : List ℕ) → (y ≡ [] → ⊥) → (y ≡ 45 ∷ [] → ⊥) → 45 ∷ [] ≡ y ++ r → ⊥
no_hyphen [] r n h e = n refl
no_hyphen (c ∷ y) r n h e =
    let b : (45 ≡ c) × ([] ≡ y ++ r) = both_same 45 c [] (y ++ r) e in
    h (ap (λ z. z ∷ y) (sym b.0) ∙ ap (λ z. 45 ∷ z) (no_end y r (sym b.1)))

pub listed_same : (xs ys : List (List ℕ)) → AreItems 44 xs → AreItems 44 ys → listed xs ≡ listed ys → xs ≡ ys
listed_same [] [] p q e = refl
listed_same [] (y ∷ ys) p q e = absurd (no_hyphen y (more 44 ys) q.0.some q.0.shown e)
listed_same (x ∷ xs) [] p q e = absurd (no_hyphen x (more 44 xs) p.0.some p.0.shown (sym e))
listed_same (x ∷ xs) (y ∷ ys) p q e = joined_same 44 (x ∷ xs) (y ∷ ys) p q e

-- what has a byte between two parts is neither nothing nor a hyphen
pub not_empty : (xs : List ℕ) (s : ℕ) (r : List ℕ) → xs ++ s ∷ r ≡ [] → ⊥
not_empty [] s r e = nothing_there s r e
not_empty (x ∷ xs) s r e = nothing_there x (xs ++ s ∷ r) e

pub not_hyphen : (xs : List ℕ) (s : ℕ) (r : List ℕ) → (s ≡ 45 → ⊥) → xs ++ s ∷ r ≡ 45 ∷ [] → ⊥
not_hyphen [] s r n e = n (heads_same s 45 r [] e)
not_hyphen (x ∷ xs) s r n e = not_empty xs s r (tails_same x 45 (xs ++ s ∷ r) [] e)

-- each byte of each item passes the test
abbrev pub AllOf : (ℕ → Bool) → List (List ℕ) → Type 0
AllOf p [] = Unit {0}
AllOf p (x ∷ xs) = IsOf p x × AllOf p xs

pub of_more : (p : ℕ → Bool) (b : ℕ) (xs : List (List ℕ)) → p b ≡ true → AllOf p xs → IsOf p (more b xs)
of_more p b [] k a = tt
of_more p b (x ∷ xs) k a = (k, of_append p x (more b xs) a.0 (of_more p b xs k a.1))

pub of_joined : (p : ℕ → Bool) (b : ℕ) (xs : List (List ℕ)) → p b ≡ true → AllOf p xs → IsOf p (joined b xs)
of_joined p b [] k a = tt
of_joined p b (x ∷ xs) k a = of_append p x (more b xs) a.0 (of_more p b xs k a.1)

pub of_listed : (p : ℕ → Bool) (xs : List (List ℕ)) → p 45 ≡ true → p 44 ≡ true → AllOf p xs → IsOf p (listed xs)
of_listed p [] h k a = (h, tt)
of_listed p (x ∷ xs) h k a = of_joined p 44 (x ∷ xs) k a
