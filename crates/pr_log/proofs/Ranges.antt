-- The names of an interval as a range of a map.
use Rattle.std.proofs.Common.{◌≡◌, ℕ, List, [], ◌∷◌, Bool, true, false, cond, refl, sym, ◌∙◌, ap, subst, filter, ◌&&◌, ◌||◌, not, inl, inr, length, take, get_or, zero, suc, ◌<◌, ◌+◌, arith}
use Rattle.std.specs.Prelude.{Option, Some}
use Rattle.std.specs.Bool.{⊤}
use Rattle.std.specs.Bound.{MatchBound}
use Rattle.std.specs.declared.cmp.Ordering.{Ordering}
use Rattle.std.specs.declared.cmp.Ordering.TheVariants.{Less, Equal, Greater}
use Rattle.std.specs.declared.ops.Bound as std_bound
use Rattle.std.specs.declared.ops.Bound.TheVariants as std
use Rattle.std.specs.Ordering.{is_eq, is_gt, is_le, is_lt, nat_cmp, ordering_reverse}
use Rattle.std.specs.Cmp.Lexicographic.{slice_cmp}
use Rattle.std.specs.BTreeMap.Range.{range_contains}
use Rattle.std.proofs.lemmas.Cmp.{nat_list_cmp_total}
use Rattle.pr_names.specs.Span.{Span, IsSpan, holds}
use Rattle.pr_names.specs.Bound.{is_under}
use Rattle.pr_names.specs.Order.{name_lt}
use Rattle.pr_names.specs.declared.bound.Bound.{Bound}
use Rattle.pr_names.specs.declared.bound.Bound.TheVariants.{At, End}
use Rattle.pr_names.proofs.Places.{lt_cmp}
use Rattle.pr_sets.specs.Spans.{has}
use Rattle.pr_log.specs.Latest.{IsAbove, clock_by}
use Rattle.pr_log.specs.Ranges.{range_end}
use Rattle.pr_log.proofs.LastClocks.{same_name}
use Rattle.pr_log.proofs.Names.{either_test}

abbrev R : List ℕ → List ℕ → Ordering
R a b = slice_cmp nat_cmp a b

-- ---- what lies in an interval lies in its range

not_after : (a b : List ℕ) → name_lt b a ≡ false → is_le (R a b) ≡ true
not_after a b e = by (R b a) (sym (lt_cmp b a) ∙ e) (R a b) (nat_list_cmp_total.antisymm a b)
  where
    by : (r : Ordering) → is_lt r ≡ false → (s : Ordering) → s ≡ ordering_reverse r → is_le s ≡ true
    by Less neg s is = absurd (cc)
    by Equal neg s is = ap is_le is
    by Greater neg s is = ap is_le is

before_end : (a b : List ℕ) → name_lt a b ≡ true → is_le (R b a) ≡ false
before_end a b e = by (R a b) (sym (lt_cmp a b) ∙ e) (R b a) (nat_list_cmp_total.antisymm b a)
  where
    by : (r : Ordering) → is_lt r ≡ true → (s : Ordering) → s ≡ ordering_reverse r → is_le s ≡ false
    by Less pos s is = ap is_le is
    by Equal pos s is = absurd (cc)
    by Greater pos s is = absurd (cc)

both : (a b : Bool) → (not a && b) ≡ true → (a ≡ false) × (b ≡ true)
both true b e = absurd (cc)
both false b e = (refl, e)

and_not : (a b : Bool) → a ≡ true → b ≡ false → (a && not b) ≡ true
and_not a b e f = ap (λ x. x && not b) e ∙ ap not f

pub in_range : (s : Span) (o : List ℕ) → holds s o ≡ true → range_contains R (std.Included s.lo) (range_end s.hi) o ≡ true
in_range s o h = by s.hi (both (name_lt o s.lo) _ h)
  where
    by : (hi : Bound) → (name_lt o s.lo ≡ false) × (is_under o hi ≡ true) → range_contains R (std.Included s.lo) (range_end hi) o ≡ true
    by (At n) (from, to) = and_not (is_le (R s.lo o)) (is_le (R n o)) (not_after s.lo o from) (before_end o n to)
    by End (from, to) = and_not (is_le (R s.lo o)) false (not_after s.lo o from) refl

-- the range goes forward
pub forward : (s : Span) (lo : List ℕ) (end : std_bound.Bound (List ℕ)) → lo ≡ s.lo → end ≡ range_end s.hi → IsSpan s
    → MatchBound end (λ b. is_gt (R lo b) ≡ false) (λ b. is_gt (R lo b) ≡ false) ⊤
forward s lo end from to span = subst (λ (e : std_bound.Bound (List ℕ)). MatchBound e (λ b. is_gt (R lo b) ≡ false) (λ b. is_gt (R lo b) ≡ false) ⊤) (sym to) (by s.hi span.some)
  where
    least : (n : List ℕ) → name_lt s.lo n ≡ true → is_gt (R lo n) ≡ false
    least n lt = subst (λ (l : List ℕ). is_gt (R l n) ≡ false) (sym from) (less (R s.lo n) (sym (lt_cmp s.lo n) ∙ lt))
      where
        less : (r : Ordering) → is_lt r ≡ true → is_gt r ≡ false
        less Less pos = refl
        less Equal pos = refl
        less Greater pos = absurd (cc)

    by : (hi : Bound) → is_under s.lo hi ≡ true → MatchBound (range_end hi) (λ b. is_gt (R lo b) ≡ false) (λ b. is_gt (R lo b) ≡ false) ⊤
    by (At n) lt = least n lt
    by End lt = tt

-- ---- what is kept for a name is among the entries of its range

kept_in : (p : List ℕ → Bool) (es : List (List ℕ × ℕ)) (o : List ℕ) → p o ≡ true → clock_by (filter (λ e. p e.0) es) o ≡ clock_by es o
kept_in p [] o in_ = refl
kept_in p ((k, c) ∷ es) o in_ = elim (either_test (is_eq (R o k))) [
  | inl equal ↦
      let same : o ≡ k = same_name o k equal in
      ap (λ (l : List (List ℕ × ℕ)). clock_by l o) (kept (p k) (ap p (sym same) ∙ in_)) ∙ here (clock_by (filter (λ e. p e.0) es) o) (clock_by es o) (is_eq (R o k)) equal
  | inr other ↦ there (p k) other (kept_in p es o in_) ∙ sym (ap (λ t. cond t (Some c) (clock_by es o)) other)
]
  where
    kept : (b : Bool) → b ≡ true → cond b ((k, c) ∷ filter (λ e. p e.0) es) (filter (λ e. p e.0) es) ≡ (k, c) ∷ filter (λ e. p e.0) es
    kept b e = ap (λ t. cond t ((k, c) ∷ filter (λ e. p e.0) es) (filter (λ e. p e.0) es)) e

    here : (a b : Option ℕ) (t : Bool) → t ≡ true → cond t (Some c) a ≡ cond t (Some c) b
    here a b t e = ap (λ t. cond t (Some c) a) e ∙ sym (ap (λ t. cond t (Some c) b) e)

    there : (b : Bool) → is_eq (R o k) ≡ false → clock_by (filter (λ e. p e.0) es) o ≡ clock_by es o → clock_by (cond b ((k, c) ∷ filter (λ e. p e.0) es) (filter (λ e. p e.0) es)) o ≡ clock_by es o
    there true other more = ap (λ t. cond t (Some c) (clock_by (filter (λ e. p e.0) es) o)) other ∙ more
    there false other more = more

pub above_in : (s : Span) (lo : List ℕ) (end : std_bound.Bound (List ℕ)) (es rest : List (List ℕ × ℕ)) (c : ℕ) (o : List ℕ) → lo ≡ s.lo → end ≡ range_end s.hi
    → rest ≡ filter (λ e. range_contains R (std.Included lo) end e.0) es → holds s o ≡ true → IsAbove es c o → IsAbove rest c o
above_in s lo end es rest c o from to is h (k, at, past) = (
  k,
  ap (λ (l : List (List ℕ × ℕ)). clock_by l o) (is ∙ ap (λ (l : List ℕ). filter (λ e. range_contains R (std.Included l) end e.0) es) from ∙ ap (λ (b : std_bound.Bound (List ℕ)). filter (λ e. range_contains R (std.Included s.lo) b e.0) es) to)
      ∙ kept_in (range_contains R (std.Included s.lo) (range_end s.hi)) es o (in_range s o h) ∙ at,
  past,
)

-- ---- intervals one after the other

-- the name is in none of the intervals up to this place
pub none_more : (ss : List Span) (i : ℕ) (s d : Span) (o : List ℕ) → i < length ss → s ≡ get_or ss i d → has (take i ss) o ≡ false → holds s o ≡ false → has (take (i + 1) ss) o ≡ false
none_more [] i s d o lt is before this = absurd (omega arith)
none_more (t ∷ ss) zero s d o lt is before this = ap (λ b. b || false) (ap (λ (x : Span). holds x o) (sym is) ∙ this)
none_more (t ∷ ss) (suc i) s d o lt is before this =
    let parts = neither (holds t o) (has (take i ss) o) before in
    let next : suc i + 1 ≡ suc (i + 1) = omega arith in
    ap (λ (n : ℕ). has (take n (t ∷ ss)) o) next ∙ ap (λ b. b || has (take (i + 1) ss) o) parts.0 ∙ none_more ss i s d o (omega arith) is parts.1 this
  where
    neither : (a b : Bool) → (a || b) ≡ false → (a ≡ false) × (b ≡ false)
    neither true b e = absurd (cc)
    neither false b e = (refl, e)
