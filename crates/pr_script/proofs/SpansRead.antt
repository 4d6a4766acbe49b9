-- What was read as a set is one, of few intervals.
use Rattle.std.proofs.Common.{◌≡◌, ℕ, suc, ◌+◌, ◌-◌, ◌<◌, ◌≤◌, Bool, true, false, cond, List, [], ◌∷◌, ◌++◌, length, take, drop, Option, Some, None, Result, Ok, Err, refl, sym, ap, subst, ◌∙◌, arith, length-append}
use Rattle.std.specs.Prelude.{nat_lt, not, ◌==◌}
use Rattle.std.specs.List.{position}
use Rattle.std.specs.Str.{bytes_eq}
use Rattle.std.proofs.lemmas.Bool.Decides.{nat_tests}
use Rattle.pr_names.specs.Byte.{allowed}
use Rattle.pr_names.specs.Name.{IsName}
use Rattle.pr_names.specs.Bound.{IsBound, is_under}
use Rattle.pr_names.specs.Span.{Span, IsSpan}
use Rattle.pr_names.specs.Read.{name_read, unless_bad}
use Rattle.pr_names.specs.Text.{interval_read, ends_read, star_read, single_read, bound_read, in_order, read_at, with_name, with_bound, ends_in_star, whole, one, all_from}
use Rattle.pr_names.specs.declared.bound.Bound.{Bound}
use Rattle.pr_names.specs.declared.bound.Bound.TheVariants.{At, End}
use Rattle.pr_names.specs.declared.name.NameFault.{NameFault}
use Rattle.pr_names.specs.declared.name.NameFault.TheVariants.{Empty, TooLong}
use Rattle.pr_names.specs.declared.fault.IntervalFault.{IntervalFault}
use Rattle.pr_names.specs.declared.fault.IntervalFault.TheVariants as faults
use Rattle.pr_names.proofs.Reading.{none_bad}
use Rattle.pr_names.proofs.Above.{after_is, after_all_is, one_some, all_some}
use Rattle.pr_sets.specs.Ends.{joined}
use Rattle.pr_names.specs.Bound.{bound_lt}
use Rattle.pr_sets.specs.Spans.{IsSet}
use Rattle.pr_sets.specs.Text.{items, items_read, with_item, listed, list_of, with_part, set_read}
use Rattle.pr_sets.specs.declared.fault.SetFault.{SetFault}
use Rattle.pr_sets.specs.declared.fault.SetFault.TheVariants.{TooMany}
use Rattle.pr_sets.proofs.Adding.{Spans, list_is}
use Rattle.pr_script.specs.Sets.{some_set, set_of}

abbrev yes : {A E : Type 0} → A → Result A E
yes x = Ok x

same : {A E : Type 0} (x y : A) → yes {E = E} x ≡ Ok y → x ≡ y
same x y e = cc

-- ---- names

name_if : (t u : Bool) (bs : List ℕ) (o : Option ℕ) (n : List ℕ) → (length bs == 0) ≡ t → nat_lt 64 (length bs) ≡ u → o ≡ position (λ b. not (allowed b)) bs
    → cond t (Err Empty) (cond u (Err (TooLong (length bs))) (unless_bad bs o)) ≡ Ok n → IsName n
name_if true u bs o n et eu eo e = absurd cc
name_if false true bs o n et eu eo e = absurd cc
name_if false false bs (Some at) n et eu eo e = absurd cc
name_if false false bs None n et eu eo e =
    subst (λ (x : List ℕ). IsName x) (same {E = NameFault} bs n e) (record { some = grind (arith, nat_tests); most = grind (arith, nat_tests); each = none_bad bs eo })

name_is_name : (bs n : List ℕ) → name_read bs ≡ Ok n → IsName n
name_is_name bs n e = name_if (length bs == 0) (nat_lt 64 (length bs)) bs (position (λ b. not (allowed b)) bs) n refl refl refl e

with_name_ok : {T : Type 0} (r : Result (List ℕ) NameFault) (f : List ℕ → Result T IntervalFault) (y : T) → with_name r f ≡ Ok y → (n : List ℕ) × (r ≡ Ok n) × (f n ≡ Ok y)
with_name_ok (Ok n) f y e = (n, refl, e)
with_name_ok (Err x) f y e = absurd cc

with_bound_ok : (r : Result Bound IntervalFault) (f : Bound → Result Span IntervalFault) (y : Span) → with_bound r f ≡ Ok y → (b : Bound) × (r ≡ Ok b) × (f b ≡ Ok y)
with_bound_ok (Ok b) f y e = (b, refl, e)
with_bound_ok (Err x) f y e = absurd cc

-- ---- intervals

one_span : (n : List ℕ) → IsName n → IsSpan (one n)
one_span n h = record { lo = h; hi = after_is n h; some = one_some n h }

all_span : (n : List ℕ) → IsName n → IsSpan (all_from n)
all_span n h = record { lo = h; hi = after_all_is n h; some = all_some n h }

whole_span : IsSpan whole
whole_span = record { lo = record { some = omega arith; most = omega arith; each = (refl, tt) }; hi = tt; some = refl }

single_span : (bs : List ℕ) (s : Span) → single_read bs ≡ Ok s → IsSpan s
unfolding single_read
single_span bs s e =
    let a = with_name_ok (name_read bs) (λ n. Ok (one n)) s e in
    subst (λ (x : Span). IsSpan x) (same {E = IntervalFault} (one a.0) s a.2) (one_span a.0 (name_is_name bs a.0 a.1))

star_if : (t : Bool) (front : List ℕ) (s : Span) → cond t (Ok whole) (with_name (name_read front) (λ n. Ok (all_from n))) ≡ Ok s → IsSpan s
star_if true front s e = subst (λ (x : Span). IsSpan x) (same {E = IntervalFault} whole s e) whole_span
star_if false front s e =
    let a = with_name_ok (name_read front) (λ n. Ok (all_from n)) s e in
    subst (λ (x : Span). IsSpan x) (same {E = IntervalFault} (all_from a.0) s a.2) (all_span a.0 (name_is_name front a.0 a.1))

star_span : (front : List ℕ) (s : Span) → star_read front ≡ Ok s → IsSpan s
unfolding star_read
star_span front s e = star_if (length front == 0) front s e

bound_if : (t : Bool) (bs : List ℕ) (b : Bound) → cond t (Ok End) (with_name (name_read bs) (λ n. Ok (At n))) ≡ Ok b → IsBound b
bound_if true bs b e = subst (λ (x : Bound). IsBound x) (same {E = IntervalFault} End b e) tt
bound_if false bs b e =
    let a = with_name_ok (name_read bs) (λ n. Ok (At n)) b e in
    subst (λ (x : Bound). IsBound x) (same {E = IntervalFault} (At a.0) b a.2) (name_is_name bs a.0 a.1)

order_if : (t : Bool) (lo : List ℕ) (hi : Bound) (s : Span) → IsName lo → IsBound hi → is_under lo hi ≡ t → cond t (Ok (record { lo = lo; hi = hi })) (Err faults.Order) ≡ Ok s → IsSpan s
order_if true lo hi s hl hh t e =
    let made : Span = record { lo = lo; hi = hi } in
    subst (λ (x : Span). IsSpan x) (same {E = IntervalFault} made s e) (record { lo = hl; hi = hh; some = t })
order_if false lo hi s hl hh t e = absurd cc

ends_span : (lo hi : List ℕ) (s : Span) → ends_read lo hi ≡ Ok s → IsSpan s
unfolding ends_read
ends_span lo hi s e =
    let a = with_name_ok (name_read lo) (λ n. with_bound (bound_read hi) (in_order n)) s e in
    let b = with_bound_ok (bound_read hi) (in_order a.0) s a.2 in
    order_if (is_under a.0 b.0) a.0 b.0 s (name_is_name lo a.0 a.1) (bound_if (bytes_eq hi (126 ∷ [])) hi b.0 b.1) refl b.2

none_if : (t : Bool) (bs : List ℕ) (s : Span) → cond t (star_read (take (length bs - 1) bs)) (single_read bs) ≡ Ok s → IsSpan s
none_if true bs s e = star_span (take (length bs - 1) bs) s e
none_if false bs s e = single_span bs s e

read_span : (bs : List ℕ) (o : Option ℕ) (s : Span) → read_at bs o ≡ Ok s → IsSpan s
read_span bs (Some at) s e = ends_span (take at bs) (drop (at + 1) bs) s e
read_span bs None s e = none_if (ends_in_star bs) bs s e

interval_span : (bs : List ℕ) (s : Span) → interval_read bs ≡ Ok s → IsSpan s
unfolding interval_read
interval_span bs s e = read_span bs (position (λ b. b == 58) bs) s e

-- ---- lists of intervals

with_item_ok : (k : ℕ) (r : Result Span IntervalFault) (f : Span → Result (List Span) SetFault) (y : List Span) → with_item k r f ≡ Ok y → (s : Span) × (r ≡ Ok s) × (f s ≡ Ok y)
with_item_ok k (Ok s) f y e = (s, refl, e)
with_item_ok k (Err x) f y e = absurd cc

spans_more : (ss : List Span) (s : Span) → Spans ss → IsSpan s → Spans (ss ++ s ∷ [])
spans_more [] s h hs = (hs, tt)
spans_more (t ∷ ss) s h hs = (h.0, spans_more ss s h.1 hs)

items_spans : (xs : List (List ℕ)) (k : ℕ) (parts out : List Span) → items_read xs k parts ≡ Ok out → Spans parts → Spans out × (length out ≡ length parts + length xs)
unfolding items_read
items_spans [] k parts out e h =
    let i = same {E = SetFault} parts out e in
    (subst (λ (x : List Span). Spans x) i h, ap length (sym i) ∙ omega arith)
items_spans (x ∷ xs) k parts out e h =
    let a = with_item_ok k (interval_read x) (λ s. items_read xs (k + 1) (parts ++ s ∷ [])) out e in
    let r = items_spans xs (k + 1) (parts ++ a.0 ∷ []) out a.2 (spans_more parts a.0 h (interval_span x a.0 a.1)) in
    (r.0, let l = r.1 in let m = length-append parts (a.0 ∷ []) in omega (arith, l, m))

short_if : (t u : Bool) (s r : Span) (ts xs ys : List Span) → length xs ≤ suc (length ts) → length ys ≤ suc (length ts)
    → length (cond t (s ∷ r ∷ ts) (cond u (r ∷ xs) ys)) ≤ suc (suc (length ts))
short_if true u s r ts xs ys hx hy = omega arith
short_if false true s r ts xs ys hx hy = omega arith
short_if false false s r ts xs ys hx hy = omega arith

part_short : (ts : List Span) (s : Span) → length (with_part ts s) ≤ suc (length ts)
unfolding with_part
part_short [] s = omega arith
part_short (t ∷ ts) s = short_if (bound_lt s.hi (At t.lo)) (bound_lt t.hi (At s.lo)) s t ts (with_part ts s) (with_part ts (joined s t)) (part_short ts s) (part_short ts (joined s t))

list_short : (ss : List Span) → length (list_of ss) ≤ length ss
unfolding list_of
list_short [] = omega arith
list_short (s ∷ ss) = let p = part_short (list_of ss) s in let q = list_short ss in omega (arith, p, q)

-- ---- sets

-- a set that a line may name
pub record IsShort (ss : List Span) : Type 0 where
  pub set : IsSet ss
  pub few : length ss ≤ 16
  pub some : 0 < length ss

listed_ok : (r : Result (List Span) SetFault) (ss : List Span) → listed r ≡ Ok ss → (parts : List Span) × (r ≡ Ok parts) × (list_of parts ≡ ss)
listed_ok (Ok parts) ss e = (parts, refl, same {E = SetFault} (list_of parts) ss e)
listed_ok (Err x) ss e = absurd cc

set_if : (t u : Bool) (f : List ℕ) (ss : List Span) → nat_lt 16 (length (items f)) ≡ u → cond t (Ok []) (cond u (Err TooMany) (listed (items_read (items f) 0 []))) ≡ Ok ss → 0 < length ss → IsShort ss
set_if true u f ss eu e some =
    let i = same {E = SetFault} [] ss e in
    absurd (let l = ap length i in omega (arith, l))
set_if false true f ss eu e some = absurd cc
set_if false false f ss eu e some =
    let a = listed_ok (items_read (items f) 0 []) ss e in
    let b = items_spans (items f) 0 [] a.0 a.1 tt in
    let l : length (items f) ≤ 16 = grind (arith, nat_tests) in
    let s = list_short a.0 in
    let m = ap length a.2 in
    record {
      set = subst (λ (x : List Span). IsSet x) a.2 ((list_is a.0 b.0).set);
      few = let n = b.1 in omega (arith, l, s, m, n);
      some = some;
    }

some_is : (r : Result (List Span) SetFault) (ss : List Span) → some_set r ≡ Some ss → (r ≡ Ok ss) × (0 < length ss)
some_is (Ok []) ss e = absurd cc
some_is (Ok (s ∷ rest)) ss e =
    let i : s ∷ rest ≡ ss = cc in
    (ap (λ (x : List Span). Ok x) i, let l = ap length i in omega (arith, l))
some_is (Err x) ss e = absurd cc

pub set_short : (f : List ℕ) (ss : List Span) → set_of f ≡ Some ss → IsShort ss
unfolding set_read
set_short f ss e =
    let p = some_is (set_read f 16) ss e in
    set_if (bytes_eq f (126 ∷ [])) (nat_lt 16 (length (items f))) f ss refl p.0 p.1
