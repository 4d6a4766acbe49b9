-- The walk over the known names that a set lacks.
use Rattle.std.proofs.Common.{◌≡◌, ℕ, zero, suc, ◌-◌, ◌<◌, ◌≤◌, inl, inr, List, [], ◌∷◌, find, get_or, length, refl, sym, ◌∙◌, ap, subst, arith}
use Rattle.std.specs.Prelude.{Bool, true, false, ◌&&◌, not, IsTrue, Option, None, Some, Contains}
use Rattle.pr_names.specs.Name.{IsName}
use Rattle.pr_names.specs.Order.{name_lt}
use Rattle.pr_names.specs.Bound.{IsBound, bound_lt, is_under}
use Rattle.pr_names.specs.Span.{Span, holds}
use Rattle.pr_names.specs.declared.bound.Bound.{Bound}
use Rattle.pr_names.specs.declared.bound.Bound.TheVariants.{At, End}
use Rattle.pr_sets.specs.Spans.{IsSet, has}
use Rattle.pr_sets.proofs.Lookups.{Begun, has_last, has_none}
use Rattle.pr_marks.specs.Table.{is_after}
use Rattle.pr_snap.specs.Walk.{HasUpTo, IsEndOf, name_at}
use Rattle.pr_snap.proofs.Choice.{by_test}
use Rattle.pr_snap.proofs.Found.{first_found, found_first, found_is_one, none_found, none_passes, same_found}
use Rattle.pr_snap.proofs.Known.{after_later, and_false}
use Rattle.pr_snap.proofs.KnownNames.{has_one, starts_in_order}
use Rattle.pr_snap.proofs.NameOrder.{lt_trans, lt_le, not_before, not_itself, one_way, which}
use Rattle.pr_snap.proofs.Names.{Rise}
use Rattle.pr_snap.proofs.Targets.{both_of, of_both}

-- ---- the end of an interval

span_lo_hi : (ss : List Span) (d : Span) (i : ℕ) → IsSet ss → i < length ss → IsTrue (is_under (get_or ss i d).lo (get_or ss i d).hi) × IsBound (get_or ss i d).hi
span_lo_hi [] d i set lt = absurd (omega (arith, lt))
span_lo_hi (s ∷ ss) d zero set lt = (set.0.some, set.0.hi)
span_lo_hi (s ∷ ss) d (suc i) set lt = span_lo_hi ss d i set.2 (omega (arith, lt))

next_begins : (ss : List Span) (d : Span) (i : ℕ) → IsSet ss → suc i < length ss → IsTrue (bound_lt (get_or ss i d).hi (At (get_or ss (suc i) d).lo))
next_begins [] d i set lt = absurd (omega (arith, lt))
next_begins (s ∷ []) d i set lt = absurd (omega (arith, lt))
next_begins (s ∷ (t ∷ ss)) d zero set lt = set.1
next_begins (s ∷ (t ∷ ss)) d (suc i) set lt = next_begins (t ∷ ss) d i set.2 (omega (arith, lt))

held : (s : Span) (o : List ℕ) → name_lt o s.lo ≡ false → is_under o s.hi ≡ true → holds s o ≡ true
held s o a b = ap (λ (t : Bool). not t && is_under o s.hi) a ∙ b

-- where the last interval that begins by then has the name, it has all names up to its end
up_to_end : (ss : List Span) (d : Span) (a : List ℕ) (k : ℕ) → k < length ss → name_lt a (get_or ss k d).lo ≡ false → HasUpTo ss a (get_or ss k d).hi
up_to_end ss d a k lt begun o from under = has_one ss d o k lt (held (get_or ss k d) o (not_before o a (get_or ss k d).lo from begun) under)

-- its end is not in the set
end_is_out : (ss : List Span) (d : Span) (k : ℕ) (e : List ℕ) → IsSet ss → k < length ss → (get_or ss k d).hi ≡ At e → has ss e ≡ false
end_is_out ss d k e set lt is =
    let part = span_lo_hi ss d k set lt in
    let lo : name_lt (get_or ss k d).lo e ≡ true = subst (λ (b : Bound). IsTrue (is_under (get_or ss k d).lo b)) is part.0 in
    let named : IsName e = subst IsBound is part.1 in
    let begun : Begun ss e (suc k) = record {
      most = omega (arith, lt);
      begun = λ i x h. one_way (get_or ss i x).lo e (before i x (omega (arith, h)) lo);
      later = λ i x h within. after i x (omega (arith, h)) within;
    } in
    sym (has_last ss e (suc k) (get_or ss k d) d set named begun (omega arith) (ap (λ (n : ℕ). get_or ss n d) (less_one k)))
    ∙ ap (is_under e) is ∙ not_itself e
  where
    less_one : (k : ℕ) → k ≡ suc k - 1
    less_one k = omega arith

    same_at : (i : ℕ) (x : Span) → i < length ss → get_or ss i x ≡ get_or ss i d
    same_at i x h = any ss i x h
      where
        any : (ts : List Span) (i : ℕ) (x : Span) → i < length ts → get_or ts i x ≡ get_or ts i d
        any [] i x h = absurd (omega (arith, h))
        any (t ∷ ts) zero x h = refl
        any (t ∷ ts) (suc i) x h = any ts i x (omega (arith, h))

    before : (i : ℕ) (x : Span) → i ≤ k → name_lt (get_or ss k d).lo e ≡ true → name_lt (get_or ss i x).lo e ≡ true
    before i x le lo =
        subst (λ (s : Span). name_lt s.lo e ≡ true) (sym (same_at i x (omega (arith, le, lt))))
        (elim (which (get_or ss i d).lo (get_or ss k d).lo) [
          | inl h ↦ lt_trans (get_or ss i d).lo (get_or ss k d).lo e h lo
          | inr (inl h) ↦ subst (λ (y : List ℕ). name_lt y e ≡ true) (sym h) lo
          | inr (inr h) ↦ absurd (let bad : true ≡ false = sym h ∙ starts_in_order ss d k i set le lt in cc)
        ])

    after : (i : ℕ) (x : Span) → suc k ≤ i → i < length ss → name_lt e (get_or ss i x).lo ≡ true
    after i x le within =
        let next : name_lt e (get_or ss (suc k) d).lo ≡ true = subst (λ (b : Bound). IsTrue (bound_lt b (At (get_or ss (suc k) d).lo))) is (next_begins ss d k set (omega (arith, le, within))) in
        subst (λ (s : Span). name_lt e s.lo ≡ true) (sym (same_at i x within)) (lt_le e (get_or ss (suc k) d).lo (get_or ss i d).lo next (starts_in_order ss d i (suc k) set le within))

pub end_in : (names parts : List Span) (d part : Span) (a : List ℕ) (end : Bound) (k : ℕ) → parts ≡ names → IsSet names
    → ((i : ℕ) (e : Span) → i < k → name_lt a (get_or parts i e).lo ≡ false) → k ≤ length parts → 0 < k → part ≡ get_or parts (k - 1) d → end ≡ part.hi → is_under a end ≡ true → IsEndOf names a (Some end)
end_in names parts d part a end k same set begun most some at is under =
    by end refl
  where
    last : ℕ
    last = k - 1

    lt : last < length parts
    lt = omega (arith, most, some)

    set_of_parts : IsSet parts
    set_of_parts = subst IsSet (sym same) set

    hi_is : (get_or parts last d).hi ≡ end
    hi_is = sym (is ∙ ap (λ (s : Span). s.hi) at)

    up_to : (b : Bound) → b ≡ end → HasUpTo names a b
    up_to b e = subst (λ (ss : List Span). HasUpTo ss a b) same (subst (HasUpTo parts a) (hi_is ∙ sym e) (up_to_end parts d a last lt (begun last d (omega (arith, some)))))

    by : (b : Bound) → b ≡ end → IsEndOf names a (Some b)
    by End e = up_to End e
    by (At n) e = (
      subst (λ (x : Bound). is_under a x ≡ true) (sym e) under,
      up_to (At n) e,
      subst (λ (ss : List Span). has ss n ≡ false) same (end_is_out parts d last n set_of_parts lt (hi_is ∙ sym e)),
    )

pub none_begun_lacks : (names parts : List Span) (a : List ℕ) (k : ℕ) → parts ≡ names → IsSet names → IsName a → k ≤ length parts
    → ((i : ℕ) (e : Span) → i < k → name_lt a (get_or parts i e).lo ≡ false) → ((i : ℕ) (e : Span) → k ≤ i → i < length parts → name_lt a (get_or parts i e).lo ≡ true)
    → k ≡ 0 → has names a ≡ false
none_begun_lacks names parts a k same set named most begun later none =
    subst (λ (ss : List Span). has ss a ≡ false) same
    (sym (has_none parts a k (subst IsSet (sym same) set) named (record { most = most; begun = begun; later = later }) (omega (arith, none))))

pub ended_lacks : (names parts : List Span) (d part : Span) (a : List ℕ) (end : Bound) (k : ℕ) → parts ≡ names → IsSet names → IsName a → k ≤ length parts
    → ((i : ℕ) (e : Span) → i < k → name_lt a (get_or parts i e).lo ≡ false) → ((i : ℕ) (e : Span) → k ≤ i → i < length parts → name_lt a (get_or parts i e).lo ≡ true)
    → 0 < k → part ≡ get_or parts (k - 1) d → end ≡ part.hi → is_under a end ≡ false → has names a ≡ false
ended_lacks names parts d part a end k same set named most begun later some at is over =
    subst (λ (ss : List Span). has ss a ≡ false) same
    (sym (has_last parts a k part d (subst IsSet (sym same) set) named (record { most = most; begun = begun; later = later }) some at) ∙ sym (ap (is_under a) is) ∙ over)

-- ---- the walk

abbrev pub is_next_out : Option (List ℕ) → List Span → List ℕ → Bool
is_next_out last names o = is_after last o && not (has names o)

not_true : (b : Bool) → not b ≡ true → b ≡ false
not_true true h = absurd (cc)
not_true false h = refl

-- a name that is next, or comes later, is not before the name that was found
from_it : (last : Option (List ℕ)) (ns : List (List ℕ)) (name o : List ℕ) → Rise ns → find (is_after last) ns ≡ Some name → Contains ns o → is_after last o ≡ true → name_lt o name ≡ false
from_it last ns name o rise is c after = elim (found_first (is_after last) ns name o rise is c after) [
  | inl same ↦ subst (λ (x : List ℕ). name_lt x name ≡ false) same (not_itself name)
  | inr lt ↦ one_way name o lt
]

pub out_here : (names : List Span) (last : Option (List ℕ)) (ns : List (List ℕ)) (name : List ℕ) → Rise ns → find (is_after last) ns ≡ Some name → has names name ≡ false
    → find (is_next_out last names) ns ≡ Some name
out_here names last ns name rise is h =
    let one = found_is_one (is_after last) ns name is in
    first_found (is_next_out last names) ns name rise one.0 (of_both (is_after last name) (not (has names name)) one.1 (ap not h)) (λ o c passes.
    from_it last ns name o rise is c (both_of (is_after last o) (not (has names o)) passes).0)

pub none_out : (names : List Span) (last : Option (List ℕ)) (ns : List (List ℕ)) → find (is_after last) ns ≡ None → find (is_next_out last names) ns ≡ None
none_out names last ns is = none_passes (is_next_out last names) ns (λ o c. ap (λ (b : Bool). b && not (has names o)) (none_found (is_after last) ns o is c))

-- the interval of the name that was found has all names from there on
pub all_in : (names : List Span) (last : Option (List ℕ)) (ns : List (List ℕ)) (name : List ℕ) → Rise ns → find (is_after last) ns ≡ Some name → HasUpTo names name End
    → find (is_next_out last names) ns ≡ None
all_in names last ns name rise is up_to = none_passes (is_next_out last names) ns (λ o c. by_test (is_after last o)
    (λ t. let h : has names o ≡ true = up_to o (from_it last ns name o rise is c t) refl in ap (λ (b : Bool). is_after last o && not b) h ∙ and_false (is_after last o))
    (λ f. ap (λ (b : Bool). b && not (has names o)) f))

-- a known name that the set lacks is not before the end of the interval
not_below : (names : List Span) (last : Option (List ℕ)) (ns : List (List ℕ)) (name e o : List ℕ) → Rise ns → find (is_after last) ns ≡ Some name → HasUpTo names name (At e)
    → Contains ns o → is_after last o ≡ true → has names o ≡ false → name_lt o e ≡ false
not_below names last ns name e o rise is up_to c after out = by_test (name_lt o e)
    (λ lt. absurd (let bad : true ≡ false = sym (up_to o (from_it last ns name o rise is c after) lt) ∙ out in cc))
    (λ f. f)

-- the end of the interval is known
pub at_end : (names : List Span) (last : Option (List ℕ)) (ns : List (List ℕ)) (name e : List ℕ) → Rise ns → find (is_after last) ns ≡ Some name → IsEndOf names name (Some (At e)) → Contains ns e
    → find (is_next_out last names) ns ≡ Some e
at_end names last ns name e rise is end c =
    let one = found_is_one (is_after last) ns name is in
    first_found (is_next_out last names) ns e rise c (of_both (is_after last e) (not (has names e)) (after_later last name e one.1 end.0) (ap not end.2)) (λ o d passes.
    let parts = both_of (is_after last o) (not (has names o)) passes in
    not_below names last ns name e o rise is end.1 d parts.0 (not_true (has names o) parts.1))

-- it is not: the walk goes on behind it
pub behind_end : (names : List Span) (last : Option (List ℕ)) (ns : List (List ℕ)) (name e : List ℕ) → Rise ns → find (is_after last) ns ≡ Some name → IsEndOf names name (Some (At e)) → (Contains ns e → ⊥)
    → find (is_next_out last names) ns ≡ find (is_next_out (Some e) names) ns
behind_end names last ns name e rise is end unknown = same_found (is_next_out last names) (is_next_out (Some e) names) ns (λ o c. by_test (has names o)
    (λ t. ap (λ (b : Bool). is_after last o && not b) t ∙ and_false (is_after last o) ∙ sym (ap (λ (b : Bool). name_lt e o && not b) t ∙ and_false (name_lt e o)))
    (λ f. ap (λ (b : Bool). b && not (has names o)) (same o c f)))
  where
    passed : (o : List ℕ) → Contains ns o → has names o ≡ false → is_after last o ≡ true → name_lt e o ≡ true
    passed o c out after = elim (which e o) [
      | inl lt ↦ lt
      | inr (inl same) ↦ absurd (unknown (subst (λ (x : List ℕ). Contains ns x) (sym same) c))
      | inr (inr lt) ↦ absurd (let bad : true ≡ false = sym lt ∙ not_below names last ns name e o rise is end.1 c after out in cc)
    ]

    same : (o : List ℕ) → Contains ns o → has names o ≡ false → is_after last o ≡ name_lt e o
    same o c out = by_test (is_after last o)
        (λ t. t ∙ sym (passed o c out t))
        (λ f. by_test (name_lt e o)
        (λ lt. absurd (let bad : true ≡ false = sym (after_later last name o (found_is_one (is_after last) ns name is).1 (lt_trans name e o end.0 lt)) ∙ f in cc))
        (λ not. f ∙ sym not))

-- ---- the end as a name

pub end_at : (names : List Span) (name : List ℕ) (end : Bound) (e : List ℕ) → IsEndOf names name (Some end) → Some e ≡ name_at end → IsEndOf names name (Some (At e))
end_at names name (At n) e is same = subst (λ (x : List ℕ). IsEndOf names name (Some (At x))) (some_is n e (sym same)) is
  where
    some_is : (x y : List ℕ) → Some x ≡ Some y → x ≡ y
    some_is x y e = cc
end_at names name End e is same = absurd (cc)

pub end_open : (names : List Span) (name : List ℕ) (end : Bound) → IsEndOf names name (Some end) → None ≡ name_at end → HasUpTo names name End
end_open names name (At n) is none = absurd (cc)
end_open names name End is none = is
