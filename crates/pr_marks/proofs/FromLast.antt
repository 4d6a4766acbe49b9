-- The conflicts among marks in the order of their stamps, found from the last mark on.
use Rattle.std.proofs.Common.{◌≡◌, ◌∙◌, ◌++◌, ℕ, List, [], ◌∷◌, Option, None, Some, Bool, true, false, IsTrue, refl, sym, ap, map, filter, reverse, get_or, nat_lt, nat_eq, ◌&&◌, ◌||◌, arith}
use Rattle.std.specs.List.{All, flat_map}
use Rattle.std.proofs.lemmas.Bool.Decides.{nat_tests}
use Rattle.std.proofs.lemmas.List.{append-nil, map-append, reverse-append}
use Rattle.std.proofs.lemmas.List.Elements.{filter-append}
use Rattle.pr_stamps.specs.Marks.{is_conflict}
use Rattle.pr_stamps.specs.Point.{Point, is_before, is_missed}
use Rattle.pr_stamps.specs.declared.mark.Mark.{Mark}
use Rattle.pr_marks.specs.Pairs.{pairs_of, pairs_with}
use Rattle.pr_marks.specs.Row.{Rises}
use Rattle.pr_marks.proofs.Placed.{all_tail, before_trans, by_test, not_before_itself, rises_head, rises_tail}

-- the pairs of one mark and each of these
abbrev pub pairs_to : Mark → List Mark → List (Point × Point)
pairs_to x ys = map (λ (y : Mark). (x.stamp, y.stamp)) ys

-- the first mark and those that conflict with it, the latest first
abbrev pub left : List Mark → List Mark
left [] = []
left (x ∷ xs) = filter (is_conflict x) (left xs) ++ x ∷ []

-- all pairs as they are found, the last first
abbrev pub pairs_back : List Mark → List (Point × Point)
pairs_back [] = []
pairs_back (x ∷ xs) = pairs_back xs ++ pairs_to x (filter (is_conflict x) (left xs))

-- ---- lists

filter_reverse : (p : Mark → Bool) (xs : List Mark) → filter p (reverse xs) ≡ reverse (filter p xs)
filter_reverse p [] = refl
filter_reverse p (x ∷ xs) =
    ap (filter p) (reverse-append (x ∷ []) xs) ∙ filter-append p (reverse xs) (x ∷ []) ∙ ap (λ ys. ys ++ filter p (x ∷ [])) (filter_reverse p xs)
    ∙ by_test (p x) (λ e. rw e (sym (reverse-append (x ∷ []) (filter p xs)))) (λ e. rw e (append-nil (reverse (filter p xs))))

reverse_pairs : (x : Mark) (ys : List Mark) → reverse (pairs_to x (reverse ys)) ≡ pairs_to x ys
reverse_pairs x [] = refl
reverse_pairs x (y ∷ ys) =
    ap (λ zs. reverse (pairs_to x zs)) (reverse-append (y ∷ []) ys)
    ∙ ap reverse (map-append (λ (z : Mark). (x.stamp, z.stamp)) (reverse ys) (y ∷ []))
    ∙ reverse-append (pairs_to x (reverse ys)) ((x.stamp, y.stamp) ∷ [])
    ∙ ap (λ zs. (x.stamp, y.stamp) ∷ zs) (reverse_pairs x ys)

same_pairs : (f g : Mark → List (Point × Point)) (xs : List Mark) → All (λ (x : Mark). f x ≡ g x) xs → flat_map f xs ≡ flat_map g xs
same_pairs f g [] each = refl
same_pairs f g (x ∷ xs) each = ap (λ ys. ys ++ flat_map f xs) (each 0 x (omega arith)) ∙ ap (λ ys. g x ++ ys) (same_pairs f g xs (all_tail (λ (y : Mark). f y ≡ g y) x xs each))

-- ---- what missed a mark missed the next one

and_false : (b : Bool) → (b && false) ≡ false
and_false true = refl
and_false false = refl

-- a mark conflicts with none that is not behind it
pub no_conflict : (x y : Mark) → is_before x.stamp y.stamp ≡ false → is_conflict x y ≡ false
no_conflict x y e = ap (λ b. is_missed y.prev x.stamp && b) e ∙ and_false (is_missed y.prev x.stamp)

missed_too : (prev : Option Point) (s t : Point) → IsTrue (is_before s t) → IsTrue (is_missed prev s) → IsTrue (is_missed prev t)
missed_too None s t before missed = refl
missed_too (Some p) s t before missed = before_trans p s t missed before

pub conflict_too : (x y z : Mark) → IsTrue (is_before x.stamp y.stamp) → IsTrue (is_before y.stamp z.stamp) → is_conflict x z ≡ true → is_conflict y z ≡ true
conflict_too x y z xy yz e = both (is_missed z.prev y.stamp) (is_before y.stamp z.stamp) (missed_too z.prev x.stamp y.stamp xy (first (is_missed z.prev x.stamp) (is_before x.stamp z.stamp) e)) yz
  where
    first : (a b : Bool) → (a && b) ≡ true → IsTrue a
    first true b e = refl
    first false b e = e

    both : (a b : Bool) → IsTrue a → IsTrue b → (a && b) ≡ true
    both a b h g = rw h g

narrower : (x y : Mark) (zs : List Mark) → IsTrue (is_before x.stamp y.stamp) → All (λ (z : Mark). IsTrue (is_before y.stamp z.stamp)) zs → filter (is_conflict x) (filter (is_conflict y) zs) ≡ filter (is_conflict x) zs
narrower x y [] xy yz = refl
narrower x y (z ∷ zs) xy yz =
    let more = narrower x y zs xy (all_tail (λ (w : Mark). IsTrue (is_before y.stamp w.stamp)) z zs yz) in
    by_test (is_conflict x z)
    (λ e. rw (conflict_too x y z xy (yz 0 z (omega arith)) e) (rw e (ap (λ ws. z ∷ ws) more)))
    (λ e. by_test (is_conflict y z) (λ g. rw g (rw e more)) (λ g. rw g (rw e more)))

-- those that conflict with a mark are left
conflicts_left : (x : Mark) (xs : List Mark) → Rises (x ∷ xs) → filter (is_conflict x) (left xs) ≡ reverse (filter (is_conflict x) xs)
conflicts_left x [] rise = refl
conflicts_left x (y ∷ ys) rise =
    let later = rises_tail x (y ∷ ys) rise in
    filter-append (is_conflict x) (filter (is_conflict y) (left ys)) (y ∷ [])
    ∙ ap (λ zs. filter (is_conflict x) zs ++ filter (is_conflict x) (y ∷ [])) (conflicts_left y ys later)
    ∙ ap (λ zs. zs ++ filter (is_conflict x) (y ∷ [])) (filter_reverse (is_conflict x) (filter (is_conflict y) ys))
    ∙ ap (λ zs. reverse zs ++ filter (is_conflict x) (y ∷ [])) (narrower x y ys (rise 0 1 x (omega arith) (omega arith)) (rises_head y ys later))
    ∙ by_test (is_conflict x y) (λ e. rw e (sym (reverse-append (y ∷ []) (filter (is_conflict x) ys)))) (λ e. rw e (append-nil (reverse (filter (is_conflict x) ys))))

-- ---- the pairs in their order

before_nat : (a b c d : ℕ) → IsTrue (nat_lt a c || (nat_eq a c && nat_lt b d)) → (nat_lt c a || (nat_eq c a && nat_lt d b)) ≡ false
before_nat a b c d h = grind (arith, nat_tests)

pub not_back : (s t : Point) → IsTrue (is_before s t) → is_before t s ≡ false
not_back s t h = before_nat s.clock s.node t.clock t.node h

-- the pairs of each mark and those behind it
abbrev pairs_on : List Mark → List (Point × Point)
pairs_on [] = []
pairs_on (x ∷ xs) = pairs_with xs x ++ pairs_on xs

all_on : (xs : List Mark) → Rises xs → pairs_of xs ≡ pairs_on xs
all_on [] rise = refl
all_on (x ∷ xs) rise =
    ap (λ ys. ys ++ flat_map (pairs_with (x ∷ xs)) xs) (without x x (not_before_itself x.stamp x.stamp refl))
    ∙ ap (λ ys. pairs_with xs x ++ ys) (same_pairs (pairs_with (x ∷ xs)) (pairs_with xs) xs (λ k d lt. without x (get_or xs k d) (not_back x.stamp (get_or xs k d).stamp (rises_head x xs rise k d lt))))
    ∙ ap (λ ys. pairs_with xs x ++ ys) (all_on xs (rises_tail x xs rise))
  where
    without : (x y : Mark) → is_before y.stamp x.stamp ≡ false → pairs_with (x ∷ xs) y ≡ pairs_with xs y
    without x y e = rw (no_conflict y x e) refl

pub pairs_reversed : (xs : List Mark) → Rises xs → reverse (pairs_back xs) ≡ pairs_on xs
pairs_reversed [] rise = refl
pairs_reversed (x ∷ xs) rise =
    ap (λ ys. reverse (pairs_back xs ++ pairs_to x ys)) (conflicts_left x xs rise)
    ∙ reverse-append (pairs_back xs) (pairs_to x (reverse (filter (is_conflict x) xs)))
    ∙ ap (λ ys. ys ++ reverse (pairs_back xs)) (reverse_pairs x (filter (is_conflict x) xs))
    ∙ ap (λ ys. pairs_with xs x ++ ys) (pairs_reversed xs (rises_tail x xs rise))

-- the pairs as they are found, and then turned round, are all pairs in their order
pub all_pairs : (xs : List Mark) → Rises xs → reverse (pairs_back xs) ≡ pairs_of xs
all_pairs xs rise = pairs_reversed xs rise ∙ sym (all_on xs rise)
