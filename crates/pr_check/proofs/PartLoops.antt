-- The loops over the parts of a field: what is read so far, and what is still to be read.
use Rattle.std.proofs.Common.{◌≡◌, ℕ, suc, ◌+◌, Bool, true, false, cond, List, [], ◌∷◌, ◌++◌, length, Option, Some, None, refl, sym, ap, ◌∙◌, arith}
use Rattle.std.specs.Prelude.{◌==◌}
use Rattle.std.specs.List.{onto_first, position_or_len}
use Rattle.std.proofs.lemmas.Bool.Decides.{nat_tests}
use Rattle.pr_check.specs.declared.refusal.Refusal.{Refusal}
use Rattle.pr_check.specs.declared.refusal.Refusal.TheVariants as refusals
use Rattle.pr_check.specs.Fields.{Fails, parts, read_each, with_next, ◌>>=◌}
use Rattle.pr_check.specs.Parts.{after, before}

-- ---- where a byte stands

pub before_here : (b x : ℕ) (xs : List ℕ) → (x == b) ≡ true → before b (x ∷ xs) ≡ []
before_here b x xs e = rw e refl

pub after_here : (b x : ℕ) (xs : List ℕ) → (x == b) ≡ true → after b (x ∷ xs) ≡ xs
after_here b x xs e = rw e refl

more : (n : ℕ) → 1 + n ≡ suc n
more n = omega arith

pub before_later : (b x : ℕ) (xs : List ℕ) → (x == b) ≡ false → before b (x ∷ xs) ≡ x ∷ before b xs
before_later b x xs e = rw (e, more (position_or_len (λ y. y == b) xs)) refl

pub after_later : (b x : ℕ) (xs : List ℕ) → (x == b) ≡ false → after b (x ∷ xs) ≡ after b xs
after_later b x xs e =
    let k : 1 + position_or_len (λ y. y == b) xs + 1 ≡ suc (position_or_len (λ y. y == b) xs + 1) = omega arith in
    rw (e, k) refl

-- ---- parts

pub parts_next : (b x : ℕ) (xs : List ℕ) → parts b (x ∷ xs) ≡ before b (x ∷ xs) ∷ parts b (after b (x ∷ xs))
unfolding parts
parts_next b x [] = by (x == b) refl
  where
    by : (t : Bool) → (x == b) ≡ t → cond t ([] ∷ []) ((x ∷ []) ∷ []) ≡ before b (x ∷ []) ∷ parts b (after b (x ∷ []))
    by true e = rw (before_here b x [] e, after_here b x [] e) refl
    by false e = rw (before_later b x [] e, after_later b x [] e) refl
parts_next b x (y ∷ ys) = by (x == b) refl (parts_next b y ys)
  where
    by : (t : Bool) → (x == b) ≡ t → parts b (y ∷ ys) ≡ before b (y ∷ ys) ∷ parts b (after b (y ∷ ys))
        → cond t ([] ∷ parts b (y ∷ ys)) (onto_first x (parts b (y ∷ ys))) ≡ before b (x ∷ y ∷ ys) ∷ parts b (after b (x ∷ y ∷ ys))
    by true e h = rw (before_here b x (y ∷ ys) e, after_here b x (y ∷ ys) e) refl
    by false e h = rw (before_later b x (y ∷ ys) e, after_later b x (y ∷ ys) e) (ap (onto_first x) h)

-- ---- what is read

none_left : (bytes : List ℕ) → true ≡ (length bytes == 0) → bytes ≡ []
none_left [] e = refl
none_left (x ∷ xs) e = absurd (grind (arith, nat_tests, e))

-- a loop stands before a part: what is left begins with it
pub record IsPart (b : ℕ) (bytes part rest : List ℕ) : Type 0 where
  pub some : false ≡ (length bytes == 0)
  pub first : part ≡ before b bytes
  pub later : rest ≡ after b bytes

module _ {A : Type 0} (next : A → List ℕ → Option A) (b : ℕ) where
  each_more : (x : A) (bytes part rest : List ℕ) → IsPart b bytes part rest → read_each next x (parts b bytes) ≡ (next x part >>= λ y. read_each next y (parts b rest))
  unfolding read_each
  each_more x [] part rest h = let e = h.some in absurd (grind (arith, nat_tests, e))
  each_more x (c ∷ cs) part rest h = rw (h.first, h.later, parts_next b c cs) refl

  pub each_goes_on : (x y : A) (bytes part rest : List ℕ) (all : Option A) → IsPart b bytes part rest → Some y ≡ next x part → read_each next x (parts b bytes) ≡ all
      → read_each next y (parts b rest) ≡ all
  each_goes_on x y bytes part rest all h e so_far =
      ap (λ (o : Option A). o >>= λ y. read_each next y (parts b rest)) e ∙ sym (each_more x bytes part rest h) ∙ so_far

  pub each_fails : (x : A) (bytes part rest : List ℕ) (all : Option A) → IsPart b bytes part rest → None ≡ next x part → read_each next x (parts b bytes) ≡ all → None ≡ all
  each_fails x bytes part rest all h e so_far =
      ap (λ (o : Option A). o >>= λ y. read_each next y (parts b rest)) e ∙ sym (each_more x bytes part rest h) ∙ so_far

  pub each_done : (x : A) (bytes : List ℕ) (all : Option A) → true ≡ (length bytes == 0) → read_each next x (parts b bytes) ≡ all → Some x ≡ all
  unfolding read_each parts
  each_done x bytes all e so_far = sym (ap (λ (t : List ℕ). read_each next x (parts b t)) (none_left bytes e)) ∙ so_far

-- ---- lists

module _ {A : Type 0} (item : List ℕ → Option A) (b : ℕ) where
  pub items_go_on : (xs : List A) (x : A) (bytes part rest : List ℕ) (all : Option (List A)) → IsPart b bytes part rest → Some x ≡ item part → read_each (with_next item) xs (parts b bytes) ≡ all
      → read_each (with_next item) (xs ++ x ∷ []) (parts b rest) ≡ all
  items_go_on xs x bytes part rest all h e so_far =
      each_goes_on (with_next item) b xs (xs ++ x ∷ []) bytes part rest all h (ap (λ (o : Option A). o >>= λ x. Some (xs ++ x ∷ [])) e) so_far

  pub items_fail : (xs : List A) (bytes part rest : List ℕ) (all : Option (List A)) → IsPart b bytes part rest → None ≡ item part → read_each (with_next item) xs (parts b bytes) ≡ all → all ≡ None
  items_fail xs bytes part rest all h e so_far =
      sym (each_fails (with_next item) b xs bytes part rest all h (ap (λ (o : Option A). o >>= λ x. Some (xs ++ x ∷ [])) e) so_far)

  pub items_done : (xs : List A) (bytes : List ℕ) (all : Option (List A)) → true ≡ (length bytes == 0) → read_each (with_next item) xs (parts b bytes) ≡ all → all ≡ Some xs
  items_done xs bytes all e so_far = sym (each_done (with_next item) b xs bytes all e so_far)

  -- an item that was not read, for want of memory or as it is none
  pub items_stop : (why : Refusal) (xs : List A) (bytes part rest : List ℕ) (all : Option (List A)) → IsPart b bytes part rest → Fails why (item part) → read_each (with_next item) xs (parts b bytes) ≡ all → Fails why all
  items_stop refusals.NoMemory xs bytes part rest all h e so_far = tt
  items_stop refusals.Unread xs bytes part rest all h e so_far = items_fail xs bytes part rest all h (sym e) so_far
