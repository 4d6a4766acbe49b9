-- Labels are found by their numbers.
use Rattle.std.proofs.Common.{◌≡◌, ℕ, ◌<◌, Bool, true, false, cond, List, [], ◌∷◌, length, map, get_or, Some, None, refl, sym, arith}
use Rattle.std.specs.Prelude.{nat_lt}
use Rattle.std.specs.List.{filter, position, position_or_len}
use Rattle.std.specs.Str.{bytes_eq}
use Rattle.std.proofs.lemmas.Bool.Decides.{nat_tests}
use Rattle.std.proofs.lemmas.List.{length-map}
use Rattle.std.proofs.lemmas.List.Sums.{position_or_len_is}
use Rattle.std.proofs.lemmas.Slice.Eq.{bytes_eq-Decides}
use Rattle.pr_script.specs.declared.decl.Decl.{Decl}
use Rattle.pr_script.specs.declared.kind.Kind.{Kind}
use Rattle.pr_script.specs.Labels.{AreLabels, is_kind, label_of, labels_of, number_among}
use Rattle.pr_script.specs.Printing.{label_text}
use Rattle.pr_script.specs.declared.kind.Kind.TheVariants as kinds
use Rattle.pr_text.specs.Numbers.{Has}
use Rattle.pr_text.proofs.Same.{label_same}
use Rattle.pr_check.proofs.Cuts.{place_within}

-- a place among the items is one among their texts
mapped_or_len : {A B : Type 0} (f : A → B) (p : B → Bool) (xs : List A) → position_or_len p (map f xs) ≡ position_or_len (λ x. p (f x)) xs
mapped_or_len f p [] = refl
mapped_or_len f p (x ∷ xs) = rw (mapped_or_len f p xs) refl

mapped : {A B : Type 0} (f : A → B) (p : B → Bool) (xs : List A) → position p (map f xs) ≡ position (λ x. p (f x)) xs
mapped f p xs = rw (mapped_or_len f p xs, length-map xs) refl

pub number_is : (k : Kind) (ds : List Decl) (l : List ℕ) → position (λ d. bytes_eq l (label_of d)) (filter (is_kind k) ds) ≡ number_among k ds l
unfolding labels_of
number_is k ds l = sym (mapped label_of (bytes_eq l) (filter (is_kind k) ds))

pub number_within : (k : Kind) (ds : List Decl) (l : List ℕ) (n : ℕ) → number_among k ds l ≡ Some n → Has ds k n
number_within k ds l n e = place_within (bytes_eq l) (labels_of k ds) n e

pub few_of : (k : Kind) (ds : List Decl) → AreLabels ds → (n : ℕ) → Has ds k n → n < 256
few_of kinds.Node ds a n h = let m = a.few kinds.Node in omega arith
few_of kinds.Client ds a n h = let m = a.few kinds.Client in omega arith
few_of kinds.Stream ds a n h = let m = a.few kinds.Stream in omega arith

same_bytes : (x y : List ℕ) → bytes_eq x y ≡ true → x ≡ y
same_bytes x y e = grind (arith, bytes_eq-Decides)

own_bytes : (x : List ℕ) → bytes_eq x x ≡ true
own_bytes x = grind (arith, bytes_eq-Decides)

other_bytes : (x y : List ℕ) → (x ≡ y → ⊥) → bytes_eq x y ≡ false
other_bytes x y n = by (bytes_eq x y) refl
  where
    by : (b : Bool) → bytes_eq x y ≡ b → b ≡ false
    by true e = absurd (n (same_bytes x y e))
    by false e = refl

placed : (m n : ℕ) → m ≡ n → (len : ℕ) → n < len → cond (nat_lt m len) (Some m) None ≡ Some n
placed m n e len l = grind (arith, nat_tests)

-- a declared label has its number
pub number_again : (k : Kind) (ds : List Decl) → AreLabels ds → (n : ℕ) → Has ds k n → number_among k ds (label_text k ds n) ≡ Some n
unfolding label_text
number_again k ds a n h =
    let ls = labels_of k ds in
    let l = get_or ls n [] in
    let at = position_or_len_is (bytes_eq l) ls n [] (omega (arith, h))
    (λ m lt. other_bytes l (get_or ls m []) (λ e. let f : n ≡ m = label_same ds a k n m h (omega (arith, h, lt)) e in omega (arith, f, lt)))
    (λ lt. own_bytes l) in
    placed (position_or_len (bytes_eq l) ls) n at (length ls) h
