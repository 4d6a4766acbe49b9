-- What is found first among names in order.
use Rattle.std.proofs.Common.{◌≡◌, ℕ, ◌<◌, ◌⊎◌, inl, inr, zero, suc, List, [], ◌∷◌, cond, find, refl, sym, ◌∙◌, ap, subst, arith, length}
use Rattle.std.specs.Prelude.{Bool, true, false, IsTrue, Option, None, Some, Contains}
use Rattle.pr_stamps.proofs.Contained.{contains_none, first_or_later, is_later, is_first}
use Rattle.pr_names.specs.Order.{name_lt}
use Rattle.pr_snap.proofs.Names.{Rise}
use Rattle.pr_snap.proofs.Choice.{by_test}

-- ---- names in order

some_is : {A : Type 0} (x y : A) → Some x ≡ Some y → x ≡ y
some_is x y e = cc

pub names_later : (n : List ℕ) (ns : List (List ℕ)) → Rise (n ∷ ns) → Rise ns
names_later n ns rise i j d lt within = rise (suc i) (suc j) d (omega arith) (omega arith)

pub comes_first : (n : List ℕ) (ns : List (List ℕ)) (o : List ℕ) → Rise (n ∷ ns) → Contains ns o → name_lt n o ≡ true
comes_first n ns o rise c = let lt : c.0 < length ns = c.1 in subst (λ (x : List ℕ). name_lt n x ≡ true) c.2 (rise zero (suc c.0) o (omega arith) (omega arith))

-- what is found is the first of those that pass
pub found_first : (p : List ℕ → Bool) (ns : List (List ℕ)) (n o : List ℕ) → Rise ns → find p ns ≡ Some n → Contains ns o → p o ≡ true → (n ≡ o) ⊎ IsTrue (name_lt n o)
found_first p [] n o rise is c passes = absurd (contains_none o c)
found_first p (x ∷ ns) n o rise is c passes = by_test (p x)
    (λ t.
    let e : x ≡ n = some_is x n (sym (ap (λ (b : Bool). cond b (Some x) (find p ns)) t) ∙ is) in
    elim (first_or_later x ns o c) [
      | inl same ↦ inl (sym e ∙ same)
      | inr later ↦ inr (subst (λ (y : List ℕ). IsTrue (name_lt y o)) e (comes_first x ns o rise later))
    ])
    (λ t. elim (first_or_later x ns o c) [
      | inl same ↦ absurd (let bad : p x ≡ true = ap p same ∙ passes in cc)
      | inr later ↦ found_first p ns n o (names_later x ns rise) (sym (ap (λ (b : Bool). cond b (Some x) (find p ns)) t) ∙ is) later passes
    ])

-- where none is found, none passes
pub none_found : (p : List ℕ → Bool) (ns : List (List ℕ)) (o : List ℕ) → find p ns ≡ None → Contains ns o → p o ≡ false
none_found p [] o is c = absurd (contains_none o c)
none_found p (x ∷ ns) o is c = by_test (p x)
    (λ t. absurd (let bad : Some x ≡ None = sym (ap (λ (b : Bool). cond b (Some x) (find p ns)) t) ∙ is in cc))
    (λ t. elim (first_or_later x ns o c) [
      | inl same ↦ ap p (sym same) ∙ t
      | inr later ↦ none_found p ns o (sym (ap (λ (b : Bool). cond b (Some x) (find p ns)) t) ∙ is) later
    ])

pub same_found : (p q : List ℕ → Bool) (ns : List (List ℕ)) → ((o : List ℕ) → Contains ns o → p o ≡ q o) → find p ns ≡ find q ns
same_found p q [] same = refl
same_found p q (n ∷ ns) same =
    ap (λ (b : Bool). cond b (Some n) (find p ns)) (same n (is_first n ns))
    ∙ ap (λ (r : Option (List ℕ)). cond (q n) (Some n) r) (same_found p q ns (λ o c. same o (is_later n ns o c)))

pub none_passes : (p : List ℕ → Bool) (ns : List (List ℕ)) → ((o : List ℕ) → Contains ns o → p o ≡ false) → find p ns ≡ None
none_passes p [] none = refl
none_passes p (n ∷ ns) none =
    ap (λ (b : Bool). cond b (Some n) (find p ns)) (none n (is_first n ns)) ∙ none_passes p ns (λ o c. none o (is_later n ns o c))

-- the first of those that pass is found
pub first_found : (p : List ℕ → Bool) (ns : List (List ℕ)) (n : List ℕ) → Rise ns → Contains ns n → p n ≡ true → ((o : List ℕ) → Contains ns o → p o ≡ true → name_lt o n ≡ false) → find p ns ≡ Some n
first_found p [] n rise c passes least = absurd (contains_none n c)
first_found p (x ∷ ns) n rise c passes least = elim (first_or_later x ns n c) [
  | inl same ↦ ap (λ (b : Bool). cond b (Some x) (find p ns)) (ap p same ∙ passes) ∙ ap (λ (y : List ℕ). Some y) same
  | inr later ↦ by_test (p x)
      (λ t. absurd (let bad : true ≡ false = sym (comes_first x ns n rise later) ∙ least x (is_first x ns) t in cc))
      (λ f. ap (λ (b : Bool). cond b (Some x) (find p ns)) f ∙ first_found p ns n (names_later x ns rise) later passes (λ o d. least o (is_later x ns o d)))
]

pub found_is_one : (p : List ℕ → Bool) (ns : List (List ℕ)) (n : List ℕ) → find p ns ≡ Some n → Contains ns n × (p n ≡ true)
found_is_one p [] n is = absurd (cc)
found_is_one p (x ∷ ns) n is = by_test (p x)
    (λ t.
    let e : x ≡ n = some_is x n (sym (ap (λ (b : Bool). cond b (Some x) (find p ns)) t) ∙ is) in
    (subst (λ (y : List ℕ). Contains (x ∷ ns) y) e (is_first x ns), sym (ap p e) ∙ t))
    (λ f. let r = found_is_one p ns n (sym (ap (λ (b : Bool). cond b (Some x) (find p ns)) f) ∙ is) in (is_later x ns n r.0, r.1))
