-- One more mark among marks in the order of their stamps.
use Rattle.std.proofs.Common.{◌≡◌, ℕ, ◌≤◌, ◌<◌, ◌+◌, ◌-◌, zero, suc, List, [], ◌∷◌, length, get_or, insert, take, drop, Bool, true, false, refl, sym, ◌∙◌, ap, subst, nat_lt, nat_eq, ◌&&◌, ◌||◌, arith, IsTrue, inl, inr}
use Rattle.std.specs.Prelude.{◌⊎◌}
use Rattle.std.specs.List.{All}
use Rattle.std.proofs.lemmas.Bool.Decides.{nat_tests}
use Rattle.std.proofs.lemmas.List.{get_or-drop, get_or_default, length-drop, take_all}
use Rattle.std.proofs.lemmas.List.Kept.{AllPairs-cons}
use Rattle.pr_stamps.specs.Point.{Point, is_before}
use Rattle.pr_stamps.specs.declared.mark.Mark.{Mark}
use Rattle.pr_marks.specs.Row.{Rises, with_mark}

after_nat : (a b c d : ℕ) → IsTrue (nat_lt a c || (nat_eq a c && nat_lt b d)) → (e f : ℕ) → IsTrue (nat_lt c e || (nat_eq c e && nat_lt d f)) → IsTrue (nat_lt a e || (nat_eq a e && nat_lt b f))
after_nat a b c d h e f g = grind (arith, nat_tests)

pub before_trans : (s t u : Point) → IsTrue (is_before s t) → IsTrue (is_before t u) → IsTrue (is_before s u)
before_trans s t u h g = after_nat s.clock s.node t.clock t.node h u.clock u.node g

either_nat : (a b c d : ℕ) → (nat_lt a c || (nat_eq a c && nat_lt b d)) ≡ false → ((a ≡ c) → (b ≡ d) → ⊥) → IsTrue (nat_lt c a || (nat_eq c a && nat_lt d b))
either_nat a b c d h g = grind (arith, nat_tests)

same_point : (s t : Point) → s.clock ≡ t.clock → s.node ≡ t.node → s ≡ t
same_point s t c n = ap (λ (k : ℕ). let r : Point = record { clock = k; node = s.node } in r) c ∙ ap (λ (k : ℕ). let r : Point = record { clock = t.clock; node = k } in r) n

-- of two stamps that differ one comes before the other
pub before_other : (s t : Point) → is_before s t ≡ false → ¬ (s ≡ t) → IsTrue (is_before t s)
before_other s t h other = either_nat s.clock s.node t.clock t.node h (λ c n. other (same_point s t c n))

same_clock : (a b c d : ℕ) → (nat_lt a c || (nat_eq a c && nat_lt b d)) ≡ false → (nat_lt c a || (nat_eq c a && nat_lt d b)) ≡ false → a ≡ c
same_clock a b c d h g = grind (arith, nat_tests)

same_node : (a b c d : ℕ) → (nat_lt a c || (nat_eq a c && nat_lt b d)) ≡ false → (nat_lt c a || (nat_eq c a && nat_lt d b)) ≡ false → b ≡ d
same_node a b c d h g = grind (arith, nat_tests)

pub neither_before : (s t : Point) → is_before s t ≡ false → is_before t s ≡ false → s ≡ t
neither_before s t h g = same_point s t (same_clock s.clock s.node t.clock t.node h g) (same_node s.clock s.node t.clock t.node h g)

irreflexive_nat : (a b : ℕ) → (nat_lt a a || (nat_eq a a && nat_lt b b)) ≡ false
irreflexive_nat a b = grind (arith, nat_tests)

pub not_before_itself : (s t : Point) → s ≡ t → is_before s t ≡ false
not_before_itself s t e = ap (λ u. is_before s u) (sym e) ∙ irreflexive_nat s.clock s.node

-- the mark goes between those before it and the others
pub placed : (xs : List Mark) (m d : Mark) (at : ℕ) → at ≤ length xs → ((k : ℕ) → k < at → IsTrue (is_before (get_or xs k d).stamp m.stamp)) → ((k : ℕ) → at ≤ k → k < length xs → is_before (get_or xs k d).stamp m.stamp ≡ false) → (at < length xs → ¬ ((get_or xs at d).stamp ≡ m.stamp)) → with_mark xs m ≡ insert xs at m
placed [] m d zero le before after other = refl
placed [] m d (suc at) le before after other = absurd (omega arith)
placed (x ∷ xs) m d zero le before after other =
    rw (after 0 (omega arith) (omega arith)) (rw (before_other x.stamp m.stamp (after 0 (omega arith) (omega arith)) (other (omega arith))) refl)
placed (x ∷ xs) m d (suc at) le before after other =
    rw (before 0 (omega arith)) (ap (λ ys. x ∷ ys) (placed xs m d at (omega arith) (λ k lt. before (suc k) (omega arith)) (λ k from lt. after (suc k) (omega arith) (omega arith)) (λ lt. other (omega arith))))

-- a mark with its stamp stays
pub found : (xs : List Mark) (m d : Mark) (at : ℕ) → at < length xs → ((k : ℕ) → k < at → IsTrue (is_before (get_or xs k d).stamp m.stamp)) → (get_or xs at d).stamp ≡ m.stamp → with_mark xs m ≡ xs
found [] m d at lt before same = absurd (omega arith)
found (x ∷ xs) m d zero lt before same =
    rw (not_before_itself x.stamp m.stamp same) (rw (not_before_itself m.stamp x.stamp (sym same)) refl)
found (x ∷ xs) m d (suc at) lt before same =
    rw (before 0 (omega arith)) (ap (λ ys. x ∷ ys) (found xs m d at (omega arith) (λ k less. before (suc k) (omega arith)) same))

pub less_or : (a b : ℕ) → (a < b) ⊎ (b ≤ a)
less_or a b = grind (arith, nat_tests)

-- those that come before a stamp stand first
pub before_first : (xs : List Mark) (s : Point) (i j : ℕ) (d : Mark) → Rises xs → i ≤ j → j < length xs → IsTrue (is_before (get_or xs j d).stamp s) → IsTrue (is_before (get_or xs i d).stamp s)
before_first xs s i j d rise le lt before = elim (less_or i j) [
  | inl less ↦ before_trans (get_or xs i d).stamp (get_or xs j d).stamp s (rise i j d less lt) before
  | inr from ↦ let same : i ≡ j = omega (arith, le, from) in subst (λ k. IsTrue (is_before (get_or xs k d).stamp s)) (sym same) before
]

-- marks up to one that comes before a stamp come before it too
pub all_before : (xs : List Mark) (s : Point) (at : ℕ) (e : Mark) → Rises xs → at < length xs → e ≡ get_or xs at e → IsTrue (is_before e.stamp s) → (k : ℕ) (d : Mark) → k < at + 1 → IsTrue (is_before (get_or xs k d).stamp s)
all_before xs s at e rise lt is last k d within = before_first xs s k at d rise (omega (arith, within)) lt (subst (λ (m : Mark). IsTrue (is_before m.stamp s)) (is ∙ get_or_default xs at e d lt) last)

-- ---- the marks from a place on

abbrev part : List Mark → ℕ → List Mark
part xs i = take (length xs - i) (drop i xs)

part_is : (xs : List Mark) (i : ℕ) → part xs i ≡ drop i xs
part_is xs i = take_all (length xs - i) (drop i xs) (omega (arith, length-drop i xs))

part_at : (xs : List Mark) (i k : ℕ) (d : Mark) → get_or (part xs i) k d ≡ get_or xs (i + k) d
part_at xs i k d = ap (λ (l : List Mark). get_or l k d) (part_is xs i) ∙ get_or-drop i xs k d

part_length : (xs : List Mark) (i : ℕ) → length (part xs i) ≡ length xs - i
part_length xs i = ap length (part_is xs i) ∙ length-drop i xs

pub rises_part : (xs : List Mark) (i : ℕ) → Rises xs → Rises (part xs i)
rises_part xs i rise j k d lt within =
    rw (part_at xs i j d, part_at xs i k d) (rise (i + j) (i + k) d (omega (arith, lt)) (omega (arith, within, part_length xs i)))

-- how many come before a stamp is known of a part in front of which all do
pub before_part : (xs : List Mark) (s : Point) (i r k : ℕ) (d : Mark) → ((k : ℕ) (d : Mark) → k < i → IsTrue (is_before (get_or xs k d).stamp s)) → (i ≤ k → k < i + r → IsTrue (is_before (get_or (part xs i) (k - i) d).stamp s)) → k < i + r → IsTrue (is_before (get_or xs k d).stamp s)
before_part xs s i r k d before within lt = elim (less_or k i) [
  | inl less ↦ before k d less
  | inr from ↦
      let same : i + (k - i) ≡ k = omega (arith, from) in
      subst (λ (m : Mark). IsTrue (is_before m.stamp s)) (part_at xs i (k - i) d ∙ ap (λ j. get_or xs j d) same) (within from lt)
]

pub after_part : (xs : List Mark) (s : Point) (i r k : ℕ) (d : Mark) → (r ≤ k - i → k - i < length (part xs i) → is_before (get_or (part xs i) (k - i) d).stamp s ≡ false) → i + r ≤ k → k < length xs → is_before (get_or xs k d).stamp s ≡ false
after_part xs s i r k d after le lt =
    let same : i + (k - i) ≡ k = omega (arith, le) in
    subst (λ (m : Mark). is_before m.stamp s ≡ false) (part_at xs i (k - i) d ∙ ap (λ j. get_or xs j d) same) (after (omega (arith, le)) (omega (arith, le, lt, part_length xs i)))

-- ---- marks still rise with one more

pub rises_tail : (x : Mark) (xs : List Mark) → Rises (x ∷ xs) → Rises xs
rises_tail x xs rise i j d lt within = rise (suc i) (suc j) d (omega arith) (omega arith)

pub rises_head : (x : Mark) (xs : List Mark) → Rises (x ∷ xs) → All (λ (y : Mark). IsTrue (is_before x.stamp y.stamp)) xs
rises_head x xs rise k d lt = rise 0 (suc k) d (omega arith) (omega arith)

all_cons : (P : Mark → Type 0) (x : Mark) (xs : List Mark) → P x → All P xs → All P (x ∷ xs)
all_cons P x xs p ps zero d lt = p
all_cons P x xs p ps (suc k) d lt = ps k d (omega arith)

pub all_tail : (P : Mark → Type 0) (x : Mark) (xs : List Mark) → All P (x ∷ xs) → All P xs
all_tail P x xs ps k d lt = ps (suc k) d (omega arith)

-- by a test, and what its answer says
pub by_test : {A : Type 0} (b : Bool) → (b ≡ true → A) → (b ≡ false → A) → A
by_test true then otherwise = then refl
by_test false then otherwise = otherwise refl

all_with : (P : Mark → Type 0) (xs : List Mark) (m : Mark) → P m → All P xs → All P (with_mark xs m)
all_with P [] m p ps = all_cons P m [] p ps
all_with P (x ∷ xs) m p ps =
    by_test (is_before x.stamp m.stamp)
    (λ e. rw e (all_cons P x (with_mark xs m) (ps 0 m (omega arith)) (all_with P xs m p (all_tail P x xs ps))))
    (λ e. rw e (by_test (is_before m.stamp x.stamp)
    (λ g. rw g (all_cons P m (x ∷ xs) p ps))
    (λ g. rw g ps)))

all_later : (m x : Mark) (xs : List Mark) → IsTrue (is_before m.stamp x.stamp) → All (λ (y : Mark). IsTrue (is_before x.stamp y.stamp)) xs → All (λ (y : Mark). IsTrue (is_before m.stamp y.stamp)) xs
all_later m x xs before later k d lt = before_trans m.stamp x.stamp (get_or xs k d).stamp before (later k d lt)

pub rises_with : (xs : List Mark) (m : Mark) → Rises xs → Rises (with_mark xs m)
rises_with [] m rise = λ i j d lt within. absurd (omega arith)
rises_with (x ∷ xs) m rise =
    by_test (is_before x.stamp m.stamp)
    (λ e. rw e (AllPairs-cons (λ (a : Mark) (b : Mark). IsTrue (is_before a.stamp b.stamp)) x (with_mark xs m) (all_with (λ (y : Mark). IsTrue (is_before x.stamp y.stamp)) xs m e (rises_head x xs rise)) (rises_with xs m (rises_tail x xs rise))))
    (λ e. rw e (by_test (is_before m.stamp x.stamp)
    (λ g. rw g (AllPairs-cons (λ (a : Mark) (b : Mark). IsTrue (is_before a.stamp b.stamp)) m (x ∷ xs) (all_cons (λ (y : Mark). IsTrue (is_before m.stamp y.stamp)) x xs g (all_later m x xs g (rises_head x xs rise))) rise))
    (λ g. rw g rise)))

-- what stands at the place of a stamp, in the words of the code
pub found_in : (items xs ys : List Mark) (m d : Mark) (at : ℕ) → xs ≡ items → ys ≡ items → ((k : ℕ) (e : Mark) → k < at → IsTrue (is_before (get_or xs k e).stamp m.stamp)) → (at < length ys) × ((get_or ys at d).stamp ≡ m.stamp) → with_mark items m ≡ items
found_in items xs ys m d at x y before here =
    found items m d at (subst (λ (l : List Mark). at < length l) y here.0) (λ k lt. subst (λ (l : List Mark). IsTrue (is_before (get_or l k d).stamp m.stamp)) x (before k d lt)) (subst (λ (l : List Mark). (get_or l at d).stamp ≡ m.stamp) y here.1)

pub placed_in : (items xs ys : List Mark) (m : Mark) (at : ℕ) → xs ≡ items → ys ≡ items → at ≤ length xs → ((k : ℕ) (e : Mark) → k < at → IsTrue (is_before (get_or xs k e).stamp m.stamp)) → ((k : ℕ) (e : Mark) → at ≤ k → k < length xs → is_before (get_or xs k e).stamp m.stamp ≡ false) → ((d : Mark) → at < length ys → ¬ ((get_or ys at d).stamp ≡ m.stamp)) → with_mark items m ≡ insert items at m
placed_in items xs ys m at x y le before after other =
    placed items m m at (subst (λ (l : List Mark). at ≤ length l) x le)
    (λ k lt. subst (λ (l : List Mark). IsTrue (is_before (get_or l k m).stamp m.stamp)) x (before k m lt))
    (λ k from lt. subst (λ (l : List Mark). is_before (get_or l k m).stamp m.stamp ≡ false) x (after k m from (subst (λ (l : List Mark). k < length l) (sym x) lt)))
    (λ lt. subst (λ (l : List Mark). ¬ ((get_or l at m).stamp ≡ m.stamp)) y (other m (subst (λ (l : List Mark). at < length l) (sym y) lt)))
