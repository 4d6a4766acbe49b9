-- The walk over names in order.
use Rattle.std.proofs.Common.{◌≡◌, ℕ, ◌<◌, zero, suc, List, [], ◌∷◌, Option, None, Some, Bool, true, false, cond, refl, sym, ◌∙◌, ap, subst, filter, find, get_or, length, arith}
use Rattle.std.specs.Prelude.{All, AllPairs, IsTrue}
use Rattle.pr_names.specs.Order.{name_lt}
use Rattle.pr_marks.specs.Table.{is_after}
use Rattle.pr_snap.proofs.NameOrder.{lt_trans, not_itself, one_way}

all_kept : (q : List ℕ → Bool) (ns : List (List ℕ)) → All (λ (n : List ℕ). q n ≡ true) ns → filter q ns ≡ ns
all_kept q [] h = refl
all_kept q (n ∷ ns) h = rw (h zero n (omega arith)) (ap (λ t. n ∷ t) (all_kept q ns (λ k d lt. h (suc k) d (omega arith))))

some_is : {A : Type 0} (x y : A) → Some x ≡ Some y → x ≡ y
some_is x y h = cc

found_step : (P : List ℕ → Type 0) (n o : List ℕ) (rest : Option (List ℕ)) (b : Bool) → P n → (rest ≡ Some o → P o) → cond b (Some n) rest ≡ Some o → P o
found_step P n o rest true here more is = subst P (some_is n o is) here
found_step P n o rest false here more is = more is

-- what is found is one of them
found_one : (P : List ℕ → Type 0) (p : List ℕ → Bool) (ns : List (List ℕ)) (o : List ℕ) → All P ns → find p ns ≡ Some o → P o
found_one P p [] o all is = absurd (cc)
found_one P p (n ∷ ns) o all is = found_step P n o (find p ns) (p n) (all zero n (omega arith)) (found_one P p ns o (λ k d lt. all (suc k) d (omega arith))) is

abbrev pub Rise : List (List ℕ) → Type 0
Rise ns = AllPairs (λ (a : List ℕ) (b : List ℕ). IsTrue (name_lt a b)) ns

rise_head : (n : List ℕ) (ns : List (List ℕ)) → Rise (n ∷ ns) → All (λ (o : List ℕ). name_lt n o ≡ true) ns
rise_head n ns h k d lt = h zero (suc k) d (omega arith) (omega arith)

rise_tail : (n : List ℕ) (ns : List (List ℕ)) → Rise (n ∷ ns) → Rise ns
rise_tail n ns h i j d lt within = h (suc i) (suc j) d (omega arith) (omega arith)

rest_first : (p : List ℕ → Bool) → ((a b : List ℕ) → p a ≡ true → name_lt a b ≡ true → p b ≡ true) → (n : List ℕ) (ns : List (List ℕ)) (o : List ℕ) → Rise (n ∷ ns) → p n ≡ true → n ≡ o → n ∷ filter p ns ≡ o ∷ cond (name_lt o n) (n ∷ filter (name_lt o) ns) (filter (name_lt o) ns)
rest_first p up n ns o rise passes e = rw (← e) (rw (not_itself n) (ap (λ t. n ∷ t) (all_kept p ns (λ k d lt. up n (get_or ns k d) passes (rise_head n ns rise k d lt)) ∙ sym (all_kept (name_lt n) ns (rise_head n ns rise)))))

rest_step : (p : List ℕ → Bool) → ((a b : List ℕ) → p a ≡ true → name_lt a b ≡ true → p b ≡ true) → (n : List ℕ) (ns : List (List ℕ)) (o : List ℕ) → Rise (n ∷ ns) → (b : Bool) → p n ≡ b → (find p ns ≡ Some o → filter p ns ≡ o ∷ filter (name_lt o) ns) → cond b (Some n) (find p ns) ≡ Some o → cond b (n ∷ filter p ns) (filter p ns) ≡ o ∷ cond (name_lt o n) (n ∷ filter (name_lt o) ns) (filter (name_lt o) ns)
rest_step p up n ns o rise true e more is = rest_first p up n ns o rise e (some_is n o is)
rest_step p up n ns o rise false e more is = rw (one_way n o (found_one (λ x. name_lt n x ≡ true) p ns o (rise_head n ns rise) is)) (more is)

-- the names after one are the next one and the names after that
next_rest : (p : List ℕ → Bool) → ((a b : List ℕ) → p a ≡ true → name_lt a b ≡ true → p b ≡ true) → (ns : List (List ℕ)) (o : List ℕ) → Rise ns → find p ns ≡ Some o → filter p ns ≡ o ∷ filter (name_lt o) ns
next_rest p up [] o rise is = absurd (cc)
next_rest p up (n ∷ ns) o rise is =
    rest_step p up n ns o rise (p n) refl (λ found. next_rest p up ns o (rise_tail n ns rise) found) is

after_up : (last : Option (List ℕ)) (a b : List ℕ) → is_after last a ≡ true → name_lt a b ≡ true → is_after last b ≡ true
after_up None a b h g = refl
after_up (Some l) a b h g = lt_trans l a b h g

pub next_names : (last : Option (List ℕ)) (ns : List (List ℕ)) (o : List ℕ) → Rise ns → find (is_after last) ns ≡ Some o → filter (is_after last) ns ≡ o ∷ filter (is_after (Some o)) ns
next_names last ns o rise is = next_rest (is_after last) (after_up last) ns o rise is

pub all_names : (ns : List (List ℕ)) → filter (is_after None) ns ≡ ns
all_names [] = refl
all_names (n ∷ ns) = ap (λ t. n ∷ t) (all_names ns)

pub fewer : (last : Option (List ℕ)) (ns : List (List ℕ)) (o : List ℕ) → Rise ns → Some o ≡ find (is_after last) ns → length (filter (is_after (Some o)) ns) < length (filter (is_after last) ns)
fewer last ns o rise is = rw (next_names last ns o rise (sym is)) (omega arith)
