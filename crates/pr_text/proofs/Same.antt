-- A text says one thing: labels, stamps and vectors.
use Rattle.std.proofs.Common.{◌≡◌, ℕ, zero, suc, ◌%◌, ◌+◌, ◌<◌, ◌≤◌, ◌^◌, inl, inr, List, [], ◌∷◌, ◌++◌, cond, Bool, true, false, refl, sym, ap, ◌∙◌, subst, arith, length, get_or}
use Rattle.std.specs.Prelude.{◌&&◌, nat_eq, nat_le, decimal, Option, Some, None}
use Rattle.std.specs.List.{AllByRecursion, list_all}
use Rattle.std.specs.Char.{is_ascii_alphanumeric}
use Rattle.std.proofs.lemmas.Bool.{cases_lt}
use Rattle.std.proofs.lemmas.Bool.Decides.{nat_tests}
use Rattle.std.proofs.Math.Nat.{eq-or-lt_of_le}
use Rattle.std.proofs.lemmas.Fmt.{decimal_injective, decimal_by_steps}
use Rattle.std.proofs.lemmas.Grind.{same_number_lists}
use Rattle.pr_stamps.specs.Point.{Point, IsStamp}
use Rattle.pr_vectors.specs.Vector.{clock_of, IsVector}
use Rattle.pr_script.specs.declared.decl.Decl.{Decl}
use Rattle.pr_script.specs.declared.kind.Kind.{Kind}
use Rattle.pr_script.specs.declared.kind.Kind.TheVariants as kinds
use Rattle.pr_script.specs.Labels.{AreDistinct, AreLabels, is_label, labels_of}
use Rattle.pr_script.specs.Printing.{label_text as label}
use Rattle.pr_text.specs.Texts.{clocks, prev_text, stamp_text, vector_text}
use Rattle.pr_text.proofs.Cut.{IsOf, cut_at, is_not, is_plain, of_all, of_append, both_same, heads_same}
use Rattle.pr_text.proofs.Items.{AllOf, AreItems, IsItem, listed_same, not_empty, not_hyphen, nothing_there, of_listed}

-- ---- labels

abbrev pub alnum : ℕ → Bool
alnum b = is_ascii_alphanumeric b

and_left : (a b : Bool) → (a && b) ≡ true → a ≡ true
and_left true b e = refl
and_left false b e = e

and_right : (a b : Bool) → (a && b) ≡ true → b ≡ true
and_right true b e = e
and_right false b e = cc

pub of_list_all : (p : ℕ → Bool) (xs : List ℕ) → list_all p xs ≡ true → IsOf p xs
of_list_all p [] e = tt
of_list_all p (x ∷ xs) e = (and_left (p x) (list_all p xs) e, of_list_all p xs (and_right (p x) (list_all p xs) e))

pub label_letters : (l : List ℕ) → is_label l ≡ true → IsOf alnum l
label_letters l e = of_list_all alnum l (and_right (nat_le 1 (length l) && nat_le (length l) 16) (list_all alnum l) e)

pub label_some : (l : List ℕ) → is_label l ≡ true → l ≡ [] → ⊥
label_some [] e n = cc
label_some (x ∷ l) e n = nothing_there x l n

differs : (l : List ℕ) (ls : List (List ℕ)) → AllByRecursion (λ m. ¬ (l ≡ m)) ls → (n : ℕ) → n < length ls → l ≡ get_or ls n [] → ⊥
differs l [] a n q e = omega (arith, q)
differs l (m ∷ ls) a zero q e = a.0 e
differs l (m ∷ ls) a (suc n) q e = differs l ls a.1 n (omega (arith, q)) e

same_place : (ls : List (List ℕ)) → AreDistinct ls → (m n : ℕ) → m < length ls → n < length ls → get_or ls m [] ≡ get_or ls n [] → m ≡ n
same_place [] d m n p q e = absurd (omega (arith, p))
same_place (l ∷ ls) d zero zero p q e = refl
same_place (l ∷ ls) d zero (suc n) p q e = absurd (differs l ls d.0 n (omega (arith, q)) e)
same_place (l ∷ ls) d (suc m) zero p q e = absurd (differs l ls d.0 m (omega (arith, p)) (sym e))
same_place (l ∷ ls) d (suc m) (suc n) p q e = ap suc (same_place ls d.1 m n (omega (arith, p)) (omega (arith, q)) e)

pub label_same : (ds : List Decl) → AreLabels ds → (k : Kind) (m n : ℕ) → m < length (labels_of k ds) → n < length (labels_of k ds) → label k ds m ≡ label k ds n → m ≡ n
unfolding label
label_same ds a k m n p q e = same_place (labels_of k ds) (a.distinct k) m n p q e

label_at : (ls : List (List ℕ)) → AllByRecursion (λ l. is_label l ≡ true) ls → (n : ℕ) → n < length ls → is_label (get_or ls n []) ≡ true
label_at [] a n p = absurd (omega (arith, p))
label_at (l ∷ ls) a zero p = a.0
label_at (l ∷ ls) a (suc n) p = label_at ls a.1 n (omega (arith, p))

pub is_label_of : (ds : List Decl) → AreLabels ds → (k : Kind) (n : ℕ) → n < length (labels_of k ds) → is_label (label k ds n) ≡ true
unfolding label
is_label_of ds a k n p = label_at (labels_of k ds) (a.each k) n p

-- ---- numbers

abbrev pub is_digit : ℕ → Bool
is_digit b = nat_le 48 b && nat_le b 57

one_digit : (n : ℕ) → n < 10 → is_digit (48 + n) ≡ true
one_digit n l = grind (arith, nat_tests)

last_digit : (n : ℕ) → is_digit (48 + n % 10) ≡ true
last_digit n = one_digit (n % 10) (omega arith)

pub digits_of : (n : ℕ) → n < 2 ^ 64 → IsOf is_digit (decimal n)
digits_of n l = decimal_by_steps (λ n ds. IsOf is_digit ds) (λ n d. (one_digit n d, tt))
    (λ n ds d a. of_append is_digit ds ((48 + n % 10) ∷ []) a (last_digit n, tt)) n l

pub not_among_digits : (s : ℕ) (b : ℕ) → (s < 48) → is_digit b ≡ true → is_not s b ≡ true
not_among_digits s b l e = grind (arith, nat_tests)

pub digits_plain : (b : ℕ) → is_digit b ≡ true → is_plain b ≡ true
digits_plain b e = grind (arith, nat_tests)

pub letters_plain : (b : ℕ) → alnum b ≡ true → is_plain b ≡ true
letters_plain b e = grind (arith, nat_tests)

pub digits_before_at : (b : ℕ) → is_digit b ≡ true → is_not 64 b ≡ true
digits_before_at b e = grind (arith, nat_tests)

pub letters_before_colon : (b : ℕ) → alnum b ≡ true → is_not 58 b ≡ true
letters_before_colon b e = grind (arith, nat_tests)

-- a stop that is below the digits and letters
pub no_such_letter : (s b : ℕ) → s < 48 → alnum b ≡ true → is_not s b ≡ true
no_such_letter s b l e = grind (arith, nat_tests)

-- ---- stamps

-- the node is a declared one
abbrev pub IsDeclaredNode : List Decl → ℕ → Type 0
IsDeclaredNode ds n = n < length (labels_of kinds.Node ds)

pub point_of : (p q : Point) → p.clock ≡ q.clock → p.node ≡ q.node → p ≡ q
point_of p q c n =
    ap (λ (k : ℕ). let r : Point = record { clock = k; node = p.node } in r) c
    ∙ ap (λ (k : ℕ). let r : Point = record { clock = q.clock; node = k } in r) n

clock_digits : (p : Point) → IsStamp p → IsOf is_digit (decimal p.clock)
clock_digits p s = digits_of p.clock (omega (arith, s.most))

pub stamp_same : (ds : List Decl) → AreLabels ds → (p q : Point) → IsStamp p → IsStamp q → IsDeclaredNode ds p.node → IsDeclaredNode ds q.node → stamp_text ds p ≡ stamp_text ds q → p ≡ q
stamp_same ds a p q s t m n e =
    let c : (decimal p.clock ≡ decimal q.clock) × (label kinds.Node ds p.node ≡ label kinds.Node ds q.node) =
    cut_at 64 (decimal p.clock) (decimal q.clock) (label kinds.Node ds p.node) (label kinds.Node ds q.node)
    (of_all is_digit (is_not 64) (decimal p.clock) digits_before_at (clock_digits p s))
    (of_all is_digit (is_not 64) (decimal q.clock) digits_before_at (clock_digits q t)) e in
    point_of p q (decimal_injective p.clock q.clock (omega (arith, s.most)) (omega (arith, t.most)) c.0) (label_same ds a kinds.Node p.node q.node m n c.1)

-- a stamp's text has only bytes that digits, letters and the sign between them have
pub stamp_of : (r : ℕ → Bool) (ds : List Decl) → AreLabels ds → (p : Point) → IsStamp p → IsDeclaredNode ds p.node
    → ((b : ℕ) → is_digit b ≡ true → r b ≡ true) → ((b : ℕ) → alnum b ≡ true → r b ≡ true) → r 64 ≡ true → IsOf r (stamp_text ds p)
stamp_of r ds a p s m d l at =
    of_append r (decimal p.clock) (64 ∷ label kinds.Node ds p.node)
    (of_all is_digit r (decimal p.clock) d (clock_digits p s))
    (at, of_all alnum r (label kinds.Node ds p.node) l (label_letters (label kinds.Node ds p.node) (is_label_of ds a kinds.Node p.node m)))

digit_first : (p : Point) (r : List ℕ) → IsStamp p → decimal p.clock ++ 64 ∷ r ≡ 45 ∷ [] → ⊥
digit_first p r s e = not_hyphen (decimal p.clock) 64 r (λ k. absurd (omega (arith, k))) e

abbrev pub IsPrev : List Decl → Option Point → Type 0
IsPrev ds None = Unit {0}
IsPrev ds (Some p) = IsStamp p × IsDeclaredNode ds p.node

pub prev_same : (ds : List Decl) → AreLabels ds → (p q : Option Point) → IsPrev ds p → IsPrev ds q → prev_text ds p ≡ prev_text ds q → p ≡ q
prev_same ds a None None s t e = refl
prev_same ds a None (Some q) s t e = absurd (digit_first q (label kinds.Node ds q.node) t.0 (sym e))
prev_same ds a (Some p) None s t e = absurd (digit_first p (label kinds.Node ds p.node) s.0 e)
prev_same ds a (Some p) (Some q) s t e = ap (λ (k : Point). Some k) (stamp_same ds a p q s.0 t.0 s.1 t.1 e)

pub prev_of : (r : ℕ → Bool) (ds : List Decl) → AreLabels ds → (p : Option Point) → IsPrev ds p
    → ((b : ℕ) → is_digit b ≡ true → r b ≡ true) → ((b : ℕ) → alnum b ≡ true → r b ≡ true) → r 64 ≡ true → r 45 ≡ true → IsOf r (prev_text ds p)
prev_of r ds a None s d l at hyphen = (hyphen, tt)
prev_of r ds a (Some p) s d l at hyphen = stamp_of r ds a p s.0 s.1 d l at

-- ---- vectors

abbrev pub AllLabels : List (List ℕ) → Type 0
AllLabels ls = AllByRecursion (λ l. is_label l ≡ true) ls

abbrev pub clock_text : List ℕ → ℕ → List ℕ
clock_text l c = l ++ 58 ∷ decimal c

clock_cut : (l m : List ℕ) (c d : ℕ) → is_label l ≡ true → is_label m ≡ true → clock_text l c ≡ clock_text m d → (l ≡ m) × (decimal c ≡ decimal d)
clock_cut l m c d p q e = cut_at 58 l m (decimal c) (decimal d) (of_all alnum (is_not 58) l letters_before_colon (label_letters l p)) (of_all alnum (is_not 58) m letters_before_colon (label_letters m q)) e

-- the items of other labels do not begin with this one
not_first : (l : List ℕ) (c : ℕ) (xs : List (List ℕ)) (ls : List (List ℕ)) (w : ℕ) (v : List ℕ)
    → is_label l ≡ true → AllLabels ls → AllByRecursion (λ m. ¬ (l ≡ m)) ls → clock_text l c ∷ xs ≡ clocks ls w v → ⊥
not_first l c xs [] w v p a d e = nothing_there (clock_text l c) xs e
not_first l c xs (m ∷ ls) w v p a d e = by (nat_eq (clock_of v w) 0) (λ f. not_first l c xs ls (w + 1) v p a.1 d.1 f) e
  where
    by : (b : Bool) → (clock_text l c ∷ xs ≡ clocks ls (w + 1) v → ⊥)
        → clock_text l c ∷ xs ≡ cond b (clocks ls (w + 1) v) (clock_text m (clock_of v w) ∷ clocks ls (w + 1) v) → ⊥
    by true f g = f g
    by false f g = d.0 (clock_cut l m c (clock_of v w) p a.0 (heads_same (clock_text l c) (clock_text m (clock_of v w)) xs (clocks ls (w + 1) v) g)).0

zero_is : (c : ℕ) → nat_eq c 0 ≡ true → c ≡ 0
zero_is c e = grind (arith, nat_tests)

-- the same items are of the same clocks
clocks_same : (ls : List (List ℕ)) (w : ℕ) (u v : List ℕ) → AllLabels ls → AreDistinct ls
    → ((n : ℕ) → clock_of u n < 2 ^ 64) → ((n : ℕ) → clock_of v n < 2 ^ 64)
    → clocks ls w u ≡ clocks ls w v → (i : ℕ) → w ≤ i → i < w + length ls → clock_of u i ≡ clock_of v i
clocks_same [] w u v a d p q e i lo hi = absurd (omega (arith, lo, hi))
clocks_same (l ∷ ls) w u v a d p q e i lo hi =
    by (nat_eq (clock_of u w) 0) (nat_eq (clock_of v w) 0) refl refl
    (λ f j. clocks_same ls (w + 1) u v a.1 d.1 p q f i j (omega (arith, hi))) e
  where
    here : clock_of u w ≡ clock_of v w → (w + 1 ≤ i → clock_of u i ≡ clock_of v i) → clock_of u i ≡ clock_of v i
    here f later = elim (eq-or-lt_of_le lo) [ inl k ↦ subst (λ (n : ℕ). clock_of u n ≡ clock_of v n) k f | inr k ↦ later (omega (arith, k)) ]

    by : (b c : Bool) → nat_eq (clock_of u w) 0 ≡ b → nat_eq (clock_of v w) 0 ≡ c
        → (clocks ls (w + 1) u ≡ clocks ls (w + 1) v → w + 1 ≤ i → clock_of u i ≡ clock_of v i)
        → cond b (clocks ls (w + 1) u) (clock_text l (clock_of u w) ∷ clocks ls (w + 1) u) ≡ cond c (clocks ls (w + 1) v) (clock_text l (clock_of v w) ∷ clocks ls (w + 1) v)
        → clock_of u i ≡ clock_of v i
    by true true zu zv later f = here (zero_is (clock_of u w) zu ∙ sym (zero_is (clock_of v w) zv)) (later f)
    by true false zu zv later f = absurd (not_first l (clock_of v w) (clocks ls (w + 1) v) ls (w + 1) u a.0 a.1 d.0 (sym f))
    by false true zu zv later f = absurd (not_first l (clock_of u w) (clocks ls (w + 1) u) ls (w + 1) v a.0 a.1 d.0 f)
    by false false zu zv later f =
        let b = both_same (clock_text l (clock_of u w)) (clock_text l (clock_of v w)) (clocks ls (w + 1) u) (clocks ls (w + 1) v) f in
        here (decimal_injective (clock_of u w) (clock_of v w) (p w) (q w) (clock_cut l l (clock_of u w) (clock_of v w) a.0 a.0 b.0).1) (later b.1)

-- the clocks of nodes that are not declared are 0
abbrev pub IsDeclaredVector : List Decl → List ℕ → Type 0
IsDeclaredVector ds v = IsVector v × ((n : ℕ) → length (labels_of kinds.Node ds) ≤ n → clock_of v n ≡ 0)

pub small_clocks : (ds : List Decl) → AreLabels ds → (v : List ℕ) → IsDeclaredVector ds v → (n : ℕ) → clock_of v n < 2 ^ 64
small_clocks ds a v d n = elim (cases_lt n 32) [
  | inl k ↦ omega (arith, d.0.most n k)
  | inr k ↦ let z = d.1 n (omega (arith, a.few kinds.Node, k)) in omega (arith, z)
]

pub AllItems : (ls : List (List ℕ)) (w : ℕ) (v : List ℕ) → AllLabels ls → ((n : ℕ) → clock_of v n < 2 ^ 64) → AreItems 44 (clocks ls w v)
AllItems [] w v a p = tt
AllItems (l ∷ ls) w v a p = by (nat_eq (clock_of v w) 0) (AllItems ls (w + 1) v a.1 p)
  where
    item : IsItem 44 (clock_text l (clock_of v w))
    item = record {
      lacks = of_append (is_not 44) l (58 ∷ decimal (clock_of v w)) (of_all alnum (is_not 44) l (λ b. no_such_letter 44 b (omega arith)) (label_letters l a.0))
          (refl, of_all is_digit (is_not 44) (decimal (clock_of v w)) (λ b. not_among_digits 44 b (omega arith)) (digits_of (clock_of v w) (p w)));
      some = not_empty l 58 (decimal (clock_of v w));
      shown = not_hyphen l 58 (decimal (clock_of v w)) (λ k. absurd (omega (arith, k)));
    }

    by : (b : Bool) → AreItems 44 (clocks ls (w + 1) v) → AreItems 44 (cond b (clocks ls (w + 1) v) (clock_text l (clock_of v w) ∷ clocks ls (w + 1) v))
    by true i = i
    by false i = (item, i)

pub vector_same : (ds : List Decl) → AreLabels ds → (u v : List ℕ) → IsDeclaredVector ds u → IsDeclaredVector ds v → vector_text ds u ≡ vector_text ds v → u ≡ v
vector_same ds a u v p q e =
    same_number_lists u v (p.0.nodes ∙ sym q.0.nodes) (λ n l. elim (cases_lt n (length ls)) [
      | inl k ↦ clocks_same ls 0 u v (a.each kinds.Node) (a.distinct kinds.Node) (small_clocks ds a u p) (small_clocks ds a v q) items n (omega arith) (omega (arith, k))
      | inr k ↦ p.1 n k ∙ sym (q.1 n k)
    ])
  where
    ls : List (List ℕ)
    ls = labels_of kinds.Node ds

    items : clocks ls 0 u ≡ clocks ls 0 v
    items = listed_same (clocks ls 0 u) (clocks ls 0 v) (AllItems ls 0 u (a.each kinds.Node) (small_clocks ds a u p)) (AllItems ls 0 v (a.each kinds.Node) (small_clocks ds a v q)) e

pub vector_plain : (ds : List Decl) → AreLabels ds → (v : List ℕ) → IsDeclaredVector ds v → IsOf is_plain (vector_text ds v)
vector_plain ds a v d = of_listed is_plain (clocks (labels_of kinds.Node ds) 0 v) refl refl (by (labels_of kinds.Node ds) 0 (a.each kinds.Node))
  where
    item : (l : List ℕ) (c : ℕ) → is_label l ≡ true → c < 2 ^ 64 → IsOf is_plain (clock_text l c)
    item l c p q = of_append is_plain l (58 ∷ decimal c) (of_all alnum is_plain l letters_plain (label_letters l p)) (refl, of_all is_digit is_plain (decimal c) digits_plain (digits_of c q))

    step : (l : List ℕ) (c : ℕ) (xs : List (List ℕ)) → is_label l ≡ true → c < 2 ^ 64 → (b : Bool) → AllOf is_plain xs → AllOf is_plain (cond b xs (clock_text l c ∷ xs))
    step l c xs p q true i = i
    step l c xs p q false i = (item l c p q, i)

    by : (ls : List (List ℕ)) (w : ℕ) → AllLabels ls → AllOf is_plain (clocks ls w v)
    by [] w p = tt
    by (l ∷ ls) w p = step l (clock_of v w) (clocks ls (w + 1) v) p.0 (small_clocks ds a v d w) (nat_eq (clock_of v w) 0) (by ls (w + 1) p.1)

pub label_plain : (ds : List Decl) → AreLabels ds → (k : Kind) (n : ℕ) → n < length (labels_of k ds) → IsOf is_plain (label k ds n)
label_plain ds a k n p = of_all alnum is_plain (label k ds n) letters_plain (label_letters (label k ds n) (is_label_of ds a k n p))

pub decimal_plain : (n : ℕ) → n < 2 ^ 64 → IsOf is_plain (decimal n)
decimal_plain n l = of_all is_digit is_plain (decimal n) digits_plain (digits_of n l)
