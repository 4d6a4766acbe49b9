-- The fields of a printed line are read again.
use Rattle.std.proofs.Common.{◌≡◌, ℕ, zero, suc, true, false, inl, inr, List, [], ◌∷◌, ◌++◌, drop, get_or, refl, sym, ap, ◌∙◌, append_assoc, arith}
use Rattle.std.proofs.lemmas.Bool.Decides.{nat_tests}
use Rattle.pr_text.specs.Texts.{joined, more}
use Rattle.pr_text.proofs.Cut.{Lacks, Plain, is_not, is_plain}
use Rattle.pr_text.proofs.Fields.{AllClosed, Closed}
use Rattle.pr_check.specs.Fields.{behind, field_at, front_from, is_end, quoted_after, rest_from}

-- ---- one field

more_front : (fs : List (List ℕ)) → front_from false (more 32 fs) ≡ []
unfolding front_from
more_front [] = refl
more_front (f ∷ fs) = refl

more_rest : (fs : List (List ℕ)) → rest_from false (more 32 fs) ≡ joined 32 fs
unfolding rest_from
more_rest [] = refl
more_rest (f ∷ fs) = refl

plain_end : (b : ℕ) → is_plain b ≡ true → is_end false b ≡ false
plain_end b e = grind (arith, nat_tests)

plain_quote : (b : ℕ) → is_plain b ≡ true → quoted_after false b ≡ false
plain_quote b e = grind (arith, nat_tests)

plain_front : (f : List ℕ) (fs : List (List ℕ)) → Plain f → front_from false (f ++ more 32 fs) ≡ f
unfolding front_from
plain_front [] fs p = more_front fs
plain_front (b ∷ f) fs p = rw (plain_end b p.0, plain_quote b p.0) (ap (λ (t : List ℕ). b ∷ t) (plain_front f fs p.1))

plain_rest : (f : List ℕ) (fs : List (List ℕ)) → Plain f → rest_from false (f ++ more 32 fs) ≡ joined 32 fs
unfolding rest_from
plain_rest [] fs p = more_rest fs
plain_rest (b ∷ f) fs p = rw (plain_end b p.0, plain_quote b p.0) (plain_rest f fs p.1)

inside_quote : (b : ℕ) → is_not 34 b ≡ true → quoted_after true b ≡ true
inside_quote b e = grind (arith, nat_tests)

inside_front : (q r : List ℕ) → Lacks 34 q → front_from true (q ++ 34 ∷ r) ≡ q ++ 34 ∷ front_from false r
unfolding front_from
inside_front [] r p = refl
inside_front (b ∷ q) r p = rw (inside_quote b p.0) (ap (λ (t : List ℕ). b ∷ t) (inside_front q r p.1))

inside_rest : (q r : List ℕ) → Lacks 34 q → rest_from true (q ++ 34 ∷ r) ≡ rest_from false r
unfolding rest_from
inside_rest [] r p = refl
inside_rest (b ∷ q) r p = rw (inside_quote b p.0) (inside_rest q r p.1)

opened : (q r f : List ℕ) → f ≡ 34 ∷ (q ++ 34 ∷ []) → f ++ r ≡ 34 ∷ (q ++ 34 ∷ r)
opened q r f e = ap (λ (t : List ℕ). t ++ r) e ∙ ap (λ (t : List ℕ). 34 ∷ t) (append_assoc q (34 ∷ []) r)

front_again : (f : List ℕ) (fs : List (List ℕ)) → Closed f → front_from false (joined 32 (f ∷ fs)) ≡ f
unfolding front_from
front_again f fs (inl p) = plain_front f fs p
front_again f fs (inr q) =
    ap (front_from false) (opened q.0 (more 32 fs) f q.1)
    ∙ ap (λ (t : List ℕ). 34 ∷ t) (inside_front q.0 (more 32 fs) q.2 ∙ ap (λ (t : List ℕ). q.0 ++ 34 ∷ t) (more_front fs))
    ∙ sym q.1

rest_again : (f : List ℕ) (fs : List (List ℕ)) → Closed f → rest_from false (joined 32 (f ∷ fs)) ≡ joined 32 fs
unfolding rest_from
rest_again f fs (inl p) = plain_rest f fs p
rest_again f fs (inr q) = ap (rest_from false) (opened q.0 (more 32 fs) f q.1) ∙ inside_rest q.0 (more 32 fs) q.2 ∙ more_rest fs

-- ---- all fields

behind_none : (n : ℕ) → behind n [] ≡ []
unfolding behind rest_from
behind_none zero = refl
behind_none (suc n) = behind_none n

pub behind_again : (n : ℕ) (fs : List (List ℕ)) → AllClosed fs → behind n (joined 32 fs) ≡ joined 32 (drop n fs)
unfolding behind
behind_again zero fs c = refl
behind_again (suc n) [] c = nothing
  where
    nothing : behind (suc n) [] ≡ []
    nothing = behind_none (suc n)
behind_again (suc n) (f ∷ fs) c = ap (behind n) (rest_again f fs c.0) ∙ behind_again n fs c.1

-- the bytes have these fields
abbrev pub HasFields : List ℕ → List (List ℕ) → Type 0
HasFields bytes fs = (n : ℕ) → field_at n bytes ≡ get_or fs n []

first_again : (fs : List (List ℕ)) → AllClosed fs → front_from false (joined 32 fs) ≡ get_or fs 0 []
unfolding front_from
first_again [] c = refl
first_again (f ∷ fs) c = front_again f fs c.0

drop_closed : (n : ℕ) (fs : List (List ℕ)) → AllClosed fs → AllClosed (drop n fs)
drop_closed zero fs c = c
drop_closed (suc n) [] c = tt
drop_closed (suc n) (f ∷ fs) c = drop_closed n fs c.1

drop_first : (n : ℕ) (fs : List (List ℕ)) → get_or (drop n fs) 0 [] ≡ get_or fs n []
drop_first zero fs = refl
drop_first (suc n) [] = refl
drop_first (suc n) (f ∷ fs) = drop_first n fs

pub fields_again : (fs : List (List ℕ)) → AllClosed fs → HasFields (joined 32 fs) fs
fields_again fs c n = ap (front_from false) (behind_again n fs c) ∙ first_again (drop n fs) (drop_closed n fs c) ∙ drop_first n fs

pub fields_behind : (n : ℕ) (fs : List (List ℕ)) → AllClosed fs → HasFields (behind n (joined 32 fs)) (drop n fs)
fields_behind n fs c k = ap (field_at k) (behind_again n fs c) ∙ fields_again (drop n fs) (drop_closed n fs c) k
