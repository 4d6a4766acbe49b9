-- The least names above others.
use Rattle.std.proofs.Common.{◌≡◌, ℕ, zero, suc, ◌+◌, ◌*◌, ◌^◌, ◌<◌, ◌≤◌, inl, inr, List, [], ◌∷◌, ◌++◌, length, take, refl, ap, sym, ◌∙◌, true, false, arith, subst, length-append}
use Rattle.std.specs.Prelude.{◌↔◌, Bool, IsTrue, not, ◌&&◌}
use Rattle.std.proofs.lemmas.List.{take_all}
use Rattle.std.proofs.Math.Nat.{pow-suc, mul-le-mul_right}
use Rattle.std.proofs.lemmas.Bool.Decides.{eqb_tells, leb_tells}
use Rattle.pr_names.specs.Byte.{allowed, next_byte}
use Rattle.pr_names.specs.Name.{Allowed, IsName}
use Rattle.pr_names.specs.Bound.{IsBound, is_under}
use Rattle.pr_names.specs.Above.{bound_of, raised, raised_onto, after_of, after_all_of, Begins, IsLeastAbove, IsLeastAboveAll, IsEndOfAll}
use Rattle.pr_names.proofs.Place.{place_in, place, top, bound_place}
use Rattle.pr_names.specs.declared.bound.Bound.{Bound}
use Rattle.pr_names.specs.declared.bound.Bound.TheVariants.{At, End}
use Rattle.pr_names.proofs.Bytes.{allowed_least, allowed_most, next_byte_least, next_byte_above, next_byte_allowed}
use Rattle.pr_names.proofs.Places.{leads, power_positive, place_below, place_top, trichotomy, lt_tells, under_tells, lt_places, places_lt, under_places, places_under, not_under_places, places_not_under}
use Rattle.std.proofs.lemmas.Bool.{false≢true}
use Rattle.pr_names.specs.Order.{name_lt}

pub place_empty : (k : ℕ) → place_in k [] ≡ 0
unfolding place_in
place_empty zero = refl
place_empty (suc k) = refl

pub allowed_append : (n m : List ℕ) → Allowed n → Allowed m → Allowed (n ++ m)
allowed_append [] m hn hm = hm
allowed_append (a ∷ n) m hn hm = (hn.0, allowed_append n m hn.1 hm)

-- under one leading byte the rest decides, and else the leading bytes do
above_step : (a b p m s x : ℕ) → m < p → s < p → x < p → (m < x) ↔ (s ≤ x) → (a * p + m < b * p + x) ↔ (a * p + s ≤ b * p + x)
above_step a b p m s x hm hs hx h = elim (trichotomy a b) [
  | inl lt ↦ (λ g. omega (arith, leads a b p lt), λ g. omega (arith, leads a b p lt))
  | inr (inl eq) ↦ rw eq (λ g. omega (arith, h.0 (omega arith)), λ g. omega (arith, h.1 (omega arith)))
  | inr (inr gt) ↦ (λ g. absurd (omega (arith, leads b a p gt)), λ g. absurd (omega (arith, leads b a p gt)))
]

-- adding the least byte gives the least bytes above
after_in : (k : ℕ) (n x : List ℕ) → Allowed n → Allowed x → length n < k → length x ≤ k → (place_in k n < place_in k x) ↔ (place_in k (n ++ 45 ∷ []) ≤ place_in k x)
unfolding place_in
after_in zero n x hn hx ln lx = absurd (omega arith)
after_in (suc k) [] [] hn hx ln lx = (λ h. absurd (omega arith), λ h. absurd (omega (arith, power_positive k, leads 0 45 (256 ^ k) (omega arith))))
after_in (suc k) [] (b ∷ x) hn hx ln lx =
    let l : 45 * 256 ^ k ≤ b * 256 ^ k = mul-le-mul_right (256 ^ k) (allowed_least b hx.0) in
    (λ h. omega (arith, place_empty k, l), λ h. omega (arith, power_positive k, l))
after_in (suc k) (a ∷ n) [] hn hx ln lx =
    (λ h. absurd (omega arith), λ h. absurd (omega (arith, power_positive k, leads 0 a (256 ^ k) (omega (arith, allowed_least a hn.0)))))
after_in (suc k) (a ∷ n) (b ∷ x) hn hx ln lx =
    above_step a b (256 ^ k) (place_in k n) (place_in k (n ++ 45 ∷ [])) (place_in k x)
    (place_below k n hn.1) (place_below k (n ++ 45 ∷ []) (allowed_append n (45 ∷ []) hn.1 (refl, tt))) (place_below k x hx.1)
    (after_in k n x hn.1 hx.1 (omega arith) (omega arith))

-- what bytes that were raised bound, where none stand for the end
end_in : ℕ → List ℕ → ℕ
end_in k [] = 256 ^ k
end_in k (b ∷ bs) = place_in k (b ∷ bs)

pub raised_onto_allowed : (a : ℕ) (r : List ℕ) → allowed a ≡ true → Allowed r → Allowed (raised_onto a r)
raised_onto_allowed a [] h hr = elim (eqb_tells a 122) [ inl e ↦ rw e.0 tt | inr e ↦ rw e.0 (next_byte_allowed a h (omega (arith, allowed_most a h, e.1)), tt) ]
raised_onto_allowed a (c ∷ r) h hr = (h, hr)

pub raised_allowed : (n : List ℕ) → Allowed n → Allowed (raised n)
raised_allowed [] h = tt
raised_allowed (a ∷ n) h = raised_onto_allowed a (raised n) h.0 (raised_allowed n h.1)

pub raised_onto_length : (a : ℕ) (r : List ℕ) → length (raised_onto a r) ≤ suc (length r)
raised_onto_length a [] = elim (eqb_tells a 122) [ inl e ↦ rw e.0 (omega arith) | inr e ↦ rw e.0 (omega arith) ]
raised_onto_length a (c ∷ r) = omega arith

pub raised_length : (n : List ℕ) → length (raised n) ≤ length n
raised_length [] = omega arith
raised_length (a ∷ n) = omega (arith, raised_length n, raised_onto_length a (raised n))

-- behind the same byte
end_same : (k a : ℕ) (r : List ℕ) (x : ℕ) → allowed a ≡ true → x < 256 ^ k → (x < end_in k r) ↔ (a * 256 ^ k + x < end_in (suc k) (raised_onto a r))
unfolding place_in end_in
end_same k a [] x h hx = elim (eqb_tells a 122) [
  | inl e ↦ rw e.0 (λ g. omega (arith, pow-suc 256 k, leads a 256 (256 ^ k) (omega (arith, e.1))), λ g. hx)
  | inr e ↦ rw e.0 (λ g. omega (arith, place_empty k, leads a (next_byte a) (256 ^ k) (next_byte_above a)), λ g. hx)
]
end_same k a (c ∷ r) x h hx = (λ g. omega arith, λ g. omega arith)

-- behind a greater byte
end_later : (k a b : ℕ) (r : List ℕ) (x : ℕ) → allowed a ≡ true → allowed b ≡ true → a < b → Allowed r → end_in (suc k) (raised_onto a r) ≤ b * 256 ^ k + x
unfolding place_in end_in
end_later k a b [] x ha hb lt hr = elim (eqb_tells a 122) [
  | inl e ↦ absurd (omega (arith, allowed_most b hb, e.1))
  | inr e ↦ rw e.0 (let l : next_byte a * 256 ^ k ≤ b * 256 ^ k = mul-le-mul_right (256 ^ k) (next_byte_least a b ha hb lt) in omega (arith, place_empty k, l))
]
end_later k a b (c ∷ r) x ha hb lt hr = omega (arith, place_below k (c ∷ r) hr, leads a b (256 ^ k) lt)

same_head : (a b : ℕ) (x y : List ℕ) → b ∷ x ≡ a ∷ y → b ≡ a
same_head a b x y e = cc

same_tail : (a b : ℕ) (x y : List ℕ) → b ∷ x ≡ a ∷ y → x ≡ y
same_tail a b x y e = cc

begins_same : (b p m y e f : ℕ) (n x : List ℕ) → Begins n x ↔ ((m ≤ y) × (y < e)) → (y < e) ↔ (b * p + y < f) → Begins (b ∷ n) (b ∷ x) ↔ ((b * p + m ≤ b * p + y) × (b * p + y < f))
begins_same b p m y e f n x h g = (
  λ k. let both = h.0 (same_tail b b (take (length n) x) n k) in (omega (arith, both.0), g.0 both.1),
  λ k. ap (λ xs. b ∷ xs) (h.1 (omega (arith, k.0), g.1 k.1)),
)

raised_in : (k : ℕ) (n x : List ℕ) → Allowed n → Allowed x → length n ≤ k → length x ≤ k → Begins n x ↔ ((place_in k n ≤ place_in k x) × (place_in k x < end_in k (raised n)))
unfolding place_in end_in
raised_in k [] x hn hx ln lx = (λ h. (omega (arith, place_empty k), place_below k x hx), λ h. refl)
raised_in zero (a ∷ n) x hn hx ln lx = absurd (omega arith)
raised_in (suc k) (a ∷ n) [] hn hx ln lx =
    (λ h. cc, λ h. absurd (omega (arith, h.0, power_positive k, leads 0 a (256 ^ k) (omega (arith, allowed_least a hn.0)))))
raised_in (suc k) (a ∷ n) (b ∷ x) hn hx ln lx = elim (trichotomy a b) [
  | inl lt ↦ (λ h. absurd (omega (arith, same_head a b (take (length n) x) n h)), λ h. absurd (omega (arith, h.1, end_later k a b (raised n) (place_in k x) hn.0 hx.0 lt (raised_allowed n hn.1))))
  | inr (inl eq) ↦ rw eq (begins_same b (256 ^ k) (place_in k n) (place_in k x) (end_in k (raised n)) (end_in (suc k) (raised_onto b (raised n))) n x
      (raised_in k n x hn.1 hx.1 (omega arith) (omega arith)) (end_same k b (raised n) (place_in k x) hx.0 (place_below k x hx.1)))
  | inr (inr gt) ↦ (λ h. absurd (omega (arith, same_head a b (take (length n) x) n h)), λ h. absurd (omega (arith, h.0, place_below k x hx.1, leads b a (256 ^ k) gt)))
]

end_is : (r : List ℕ) → end_in 64 r ≡ bound_place (bound_of r)
unfolding place top end_in
end_is [] = refl
end_is (b ∷ bs) = refl

-- the bound's place is the least above the name's place
abbrev pub AboveByPlace : List ℕ → Bound → Type 0
AboveByPlace n b = (x : List ℕ) → IsName x → (place n < place x) ↔ (bound_place b ≤ place x)

-- the places from the name's to the bound's are those of the names that begin with it
abbrev pub AllByPlace : List ℕ → Bound → Type 0
AllByPlace n b = (x : List ℕ) → IsName x → Begins n x ↔ ((place n ≤ place x) × (place x < bound_place b))

pub after_all_least : (n : List ℕ) → IsName n → AllByPlace n (after_all_of n)
unfolding place
after_all_least n hn x hx = rw (← end_is (raised n)) (raised_in 64 n x hn.each hx.each hn.most hx.most)

bound_of_is : (r : List ℕ) → Allowed r → length r ≤ 64 → IsBound (bound_of r)
bound_of_is [] h l = tt
bound_of_is (b ∷ r) h l = record { some = omega arith; most = l; each = h }

pub after_all_is : (n : List ℕ) → IsName n → IsBound (after_all_of n)
after_all_is n h = bound_of_is (raised n) (raised_allowed n h.each) (omega (arith, raised_length n, h.most))

pub begins_itself : (n : List ℕ) → Begins n n
begins_itself n = take_all (length n) n (omega arith)

-- a longest name begins no other
full_begins : (n x : List ℕ) → IsName x → 64 ≤ length n → Begins n x → x ≡ n
full_begins n x hx l h = sym (take_all (length n) x (omega (arith, hx.most))) ∙ h

both_true : (p q : Bool) → p ≡ true → q ≡ true → (p && q) ≡ true
both_true p q hp hq = rw (hp, hq) refl

both_tell : (p q : Bool) → (p && q) ≡ true → (p ≡ true) × (q ≡ true)
both_tell true q h = (refl, h)
both_tell false q h = absurd (cc)

not_lt : (x n : List ℕ) → IsName x → IsName n → place n ≤ place x → not (name_lt x n) ≡ true
not_lt x n hx hn le = elim (lt_tells x n hx hn) [ inl g ↦ absurd (omega (arith, g.1)) | inr g ↦ ap not g.0 ]

lt_not : (x n : List ℕ) → IsName x → IsName n → not (name_lt x n) ≡ true → place n ≤ place x
lt_not x n hx hn h = elim (lt_tells x n hx hn) [ inl g ↦ absurd (false≢true (sym (ap not g.0) ∙ h)) | inr g ↦ g.1 ]

full_least : (n : List ℕ) → IsName n → 64 ≤ length n → AboveByPlace n (after_all_of n)
full_least n hn l x hx =
    let all = after_all_least n hn x hx in
    let own = after_all_least n hn n hn in (
      λ g. elim (leb_tells (bound_place (after_all_of n)) (place x)) [ inl e ↦ e.1 | inr e ↦ absurd (omega (arith, ap place (full_begins n x hx l (all.1 (omega arith, e.1))))) ],
      λ g. omega (arith, (own.0 (begins_itself n)).1),
    )

short_least : (n : List ℕ) → IsName n → length n < 64 → AboveByPlace n (At (n ++ 45 ∷ []))
unfolding place
short_least n hn l x hx = after_in 64 n x hn.each hx.each l hx.most

pub short_is : (n : List ℕ) → IsName n → length n < 64 → IsName (n ++ 45 ∷ [])
short_is n h l = record {
  some = simp length-append (omega arith);
  most = simp length-append (omega arith);
  each = allowed_append n (45 ∷ []) h.each (refl, tt);
}

pub after_least : (n : List ℕ) → IsName n → AboveByPlace n (after_of n)
after_least n h = elim (leb_tells (suc (length n)) 64) [
  | inl e ↦ rw e.0 (short_least n h (omega (arith, e.1)))
  | inr e ↦ rw e.0 (full_least n h (omega (arith, e.1)))
]

pub after_is : (n : List ℕ) → IsName n → IsBound (after_of n)
after_is n h = elim (leb_tells (suc (length n)) 64) [
  | inl e ↦ rw e.0 (short_is n h (omega (arith, e.1)))
  | inr e ↦ rw e.0 (after_all_is n h)
]

above_is : (n : List ℕ) (b : Bound) → IsName n → IsBound b → AboveByPlace n b → IsLeastAbove n b
above_is n b hn hb h x hx = (
  λ t. places_not_under x b hx hb ((h x hx).0 (lt_places n x hn hx t)),
  λ t. places_lt n x hn hx ((h x hx).1 (not_under_places x b hx hb t)),
)

all_is : (n : List ℕ) (b : Bound) → IsName n → IsBound b → AllByPlace n b → IsEndOfAll n b
all_is n b hn hb h x hx = (
  λ t. let both = (h x hx).0 t in both_true (not (name_lt x n)) (is_under x b) (not_lt x n hx hn both.0) (places_under x b hx hb both.1),
  λ t. let both = both_tell (not (name_lt x n)) (is_under x b) t in (h x hx).1 (lt_not x n hx hn both.0, under_places x b hx hb both.1),
)

least_all_is : (n : List ℕ) (b : Bound) → IsName n → IsBound b → AllByPlace n b → IsLeastAboveAll n b
least_all_is n b hn hb h x hx = (
  λ t. elim (under_tells x b hx hb) [
    | inl g ↦
        let n_below : place n < place x = lt_places n x hn hx (t n hn (begins_itself n)) in
        let x_below : place x < place x = lt_places x x hx hx (t x hx ((h x hx).1 (omega arith, g.1))) in
        absurd (omega arith)
    | inr g ↦ ap not g.0
  ],
  λ t y hy begins. places_lt y x hy hx (omega (arith, ((h y hy).0 begins).1, not_under_places x b hx hb t)),
)

pub least_short : (n m : List ℕ) → IsName n → length n < 64 → m ≡ n ++ 45 ∷ [] → IsLeastAbove n (At m)
least_short n m h l e =
    let P : List ℕ → Type 0 = λ x. IsLeastAbove n (At x) in
    subst P (sym e) (above_is n (At (n ++ 45 ∷ [])) h (short_is n h l) (short_least n h l))

pub least_full : (n : List ℕ) (b : Bound) → IsName n → 64 ≤ length n → b ≡ after_all_of n → IsLeastAbove n b
least_full n b h l e =
    let P : Bound → Type 0 = λ x. IsLeastAbove n x in
    subst P (sym e) (above_is n (after_all_of n) h (after_all_is n h) (full_least n h l))

pub least_all : (n : List ℕ) (b : Bound) → IsName n → b ≡ after_all_of n → IsLeastAboveAll n b
least_all n b h e =
    let P : Bound → Type 0 = λ x. IsLeastAboveAll n x in
    subst P (sym e) (least_all_is n (after_all_of n) h (after_all_is n h) (after_all_least n h))

pub end_of_all : (n : List ℕ) (b : Bound) → IsName n → b ≡ after_all_of n → IsEndOfAll n b
end_of_all n b h e =
    let P : Bound → Type 0 = λ x. IsEndOfAll n x in
    subst P (sym e) (all_is n (after_all_of n) h (after_all_is n h) (after_all_least n h))

pub bound_all : (n : List ℕ) (b : Bound) → IsName n → b ≡ after_all_of n → IsBound b
bound_all n b h e = let P : Bound → Type 0 = λ x. IsBound x in subst P (sym e) (after_all_is n h)

place_positive : (k b : ℕ) (x : List ℕ) → allowed b ≡ true → 0 < place_in (suc k) (b ∷ x)
unfolding place_in
place_positive k b x h = omega (arith, power_positive k, leads 0 b (256 ^ k) (omega (arith, allowed_least b h)))

-- no name comes before -
pub least_first : (x : List ℕ) → IsName x → place (45 ∷ []) ≤ place x
unfolding place
least_first [] h = absurd (omega (arith, h.some))
least_first (b ∷ x) h = (after_in 64 [] (b ∷ x) tt h.each (omega arith) h.most).0 (omega (arith, place_empty 64, place_positive 63 b x h.each.0))

-- the least bound above a name comes after it
pub one_some : (n : List ℕ) → IsName n → IsTrue (is_under n (after_of n))
one_some n h = places_under n (after_of n) h (after_is n h) (above_it n (after_of n) h (after_is n h) (after_least n h))
  where
    above_it : (n : List ℕ) (b : Bound) → IsName n → IsBound b → AboveByPlace n b → place n < bound_place b
    above_it n (At m) hn hb h = (h m hb).1 (omega arith)
    above_it n End hn hb h = place_top n hn

pub all_some : (n : List ℕ) → IsName n → IsTrue (is_under n (after_all_of n))
all_some n h = places_under n (after_all_of n) h (after_all_is n h) ((after_all_least n h n h).0 (begins_itself n)).1
