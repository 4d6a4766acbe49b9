-- The walk over the known names of a set.
use Rattle.std.proofs.Common.{◌≡◌, ℕ, zero, suc, ◌<◌, ◌≤◌, ◌⊎◌, inl, inr, List, [], ◌∷◌, find, filter, get_or, length, refl, sym, ◌∙◌, ap, subst, arith}
use Rattle.std.proofs.lemmas.Bool.Decides.{nat_tests}
use Rattle.std.specs.Prelude.{Bool, nat_lt, true, false, ◌&&◌, ◌||◌, not, IsTrue, Option, None, Some, Contains}
use Rattle.pr_names.specs.Name.{IsName}
use Rattle.pr_names.specs.Order.{name_lt}
use Rattle.pr_names.specs.Bound.{is_under}
use Rattle.pr_names.specs.Span.{Span, holds}
use Rattle.pr_names.specs.declared.bound.Bound.{Bound}
use Rattle.pr_names.specs.declared.bound.Bound.TheVariants.{At, End}
use Rattle.pr_sets.specs.Spans.{IsSet, has}
use Rattle.pr_sets.proofs.Lookups.{Begun, begun_first}
use Rattle.pr_marks.specs.Table.{is_after}
use Rattle.pr_snap.proofs.Names.{Rise}
use Rattle.pr_snap.proofs.Known.{after_later, and_false, fewer_past}
use Rattle.pr_snap.proofs.Targets.{both_of, of_both}
use Rattle.pr_snap.specs.Walk.{IsFirstPast}
use Rattle.pr_snap.proofs.NameOrder.{lt_trans, not_before, not_itself, one_way, which}
use Rattle.pr_snap.proofs.Choice.{by_test}
use Rattle.pr_snap.proofs.Found.{first_found, found_first, found_is_one, none_found, none_passes, same_found}

-- ---- intervals

-- where the set has the name, one of its intervals does
pub in_one : (ss : List Span) (d : Span) (o : List ℕ) → has ss o ≡ true → (i : ℕ) × (i < length ss) × (holds (get_or ss i d) o ≡ true)
in_one [] d o h = absurd (cc)
in_one (s ∷ ss) d o h = by_test (holds s o)
    (λ t. (zero, omega arith, t))
    (λ f. let r = in_one ss d o (sym (ap (λ (b : Bool). b || has ss o) f) ∙ h) in (suc r.0, omega (arith, r.1), r.2))

or_later : (p q : Bool) → q ≡ true → (p || q) ≡ true
or_later true q h = refl
or_later false q h = h

pub has_one : (ss : List Span) (d : Span) (o : List ℕ) (i : ℕ) → i < length ss → holds (get_or ss i d) o ≡ true → has ss o ≡ true
has_one [] d o i lt h = absurd (omega (arith, lt))
has_one (s ∷ ss) d o zero lt h = ap (λ (b : Bool). b || has ss o) h
has_one (s ∷ ss) d o (suc i) lt h = or_later (holds s o) (has ss o) (has_one ss d o i (omega (arith, lt)) h)

pub start_named : (ss : List Span) (d : Span) (i : ℕ) → IsSet ss → i < length ss → IsName (get_or ss i d).lo
start_named [] d i set lt = absurd (omega (arith, lt))
start_named (s ∷ ss) d zero set lt = set.0.lo
start_named (s ∷ ss) d (suc i) set lt = start_named ss d i set.2 (omega (arith, lt))

start_held : (ss : List Span) (d : Span) (i : ℕ) → IsSet ss → i < length ss → has ss (get_or ss i d).lo ≡ true
start_held [] d i set lt = absurd (omega (arith, lt))
start_held (s ∷ ss) d zero set lt =
    let under : is_under s.lo s.hi ≡ true = set.0.some in
    ap (λ (b : Bool). (not b && is_under s.lo s.hi) || has ss s.lo) (not_itself s.lo) ∙ ap (λ (b : Bool). b || has ss s.lo) under
start_held (s ∷ ss) d (suc i) set lt = or_later (holds s (get_or ss i d).lo) (has ss (get_or ss i d).lo) (start_held ss d i set.2 (omega (arith, lt)))

-- no interval begins before one that stands before it
pub starts_in_order : (ss : List Span) (d : Span) (i k : ℕ) → IsSet ss → k ≤ i → i < length ss → name_lt (get_or ss i d).lo (get_or ss k d).lo ≡ false
starts_in_order ss d i k set le lt =
    not_true (name_lt (get_or ss i d).lo (get_or ss k d).lo)
    (begun_first ss (get_or ss i d).lo set (start_named ss d i set lt) k i d le lt (ap not (not_itself (get_or ss i d).lo)))
  where
    not_true : (b : Bool) → not b ≡ true → b ≡ false
    not_true true h = absurd (cc)
    not_true false h = refl

pub first_of : (p q : Bool) → (not p && q) ≡ true → (p ≡ false) × (q ≡ true)
first_of true q h = absurd (cc)
first_of false q h = (refl, h)

under_too : (a b : List ℕ) (end : Bound) → name_lt a b ≡ true → is_under b end ≡ true → is_under a end ≡ true
under_too a b (At e) h g = lt_trans a b e h g
under_too a b End h g = refl

-- an interval that begins with a name or before it, and has a later one, has the name too
held_between : (s : Span) (a o : List ℕ) → name_lt a s.lo ≡ false → name_lt a o ≡ true → holds s o ≡ true → holds s a ≡ true
held_between s a o begun lt h =
    let both = first_of (name_lt o s.lo) (is_under o s.hi) h in
    ap (λ (b : Bool). not b && is_under a s.hi) begun ∙ under_too a o s.hi lt both.1

-- a later name of the set is in an interval that begins past the name
later_in : (ss : List Span) (d : Span) (a o : List ℕ) (k : ℕ) → Begun ss a k → has ss a ≡ false → name_lt a o ≡ true → has ss o ≡ true
    → (i : ℕ) × (k ≤ i) × (i < length ss) × (holds (get_or ss i d) o ≡ true)
later_in ss d a o k b out lt h =
    let one = in_one ss d o h in
    elim (low_or_high one.0 k) [
      | inl low ↦ absurd (let bad : true ≡ false = sym (has_one ss d a one.0 one.1 (held_between (get_or ss one.0 d) a o (b.begun one.0 d low) lt one.2)) ∙ out in cc)
      | inr high ↦ (one.0, high, one.1, one.2)
    ]
  where
    low_or_high : (i k : ℕ) → (i < k) ⊎ (k ≤ i)
    low_or_high i zero = inr (omega arith)
    low_or_high zero (suc k) = inl (omega arith)
    low_or_high (suc i) (suc k) = elim (low_or_high i k) [ inl l ↦ inl (omega (arith, l)) | inr h ↦ inr (omega (arith, h)) ]

pub none_past : (ss : List Span) (d : Span) (a : List ℕ) (k : ℕ) → Begun ss a k → has ss a ≡ false → length ss ≤ k → IsFirstPast ss a None
none_past ss d a k b out end o lt = by_test (has ss o)
    (λ h. let in_ = later_in ss d a o k b out lt h in absurd (omega (arith, in_.1, in_.2, end)))
    (λ h. h)

pub first_is_past : (ss : List Span) (d : Span) (a : List ℕ) (k : ℕ) → IsSet ss → Begun ss a k → has ss a ≡ false → k < length ss → IsFirstPast ss a (Some (get_or ss k d).lo)
first_is_past ss d a k set b out within = (
  b.later k d (omega arith) within,
  start_held ss d k set within,
  λ o lt h.
      let in_ = later_in ss d a o k b out lt h in
      not_before o (get_or ss in_.0 d).lo (get_or ss k d).lo (first_of (name_lt o (get_or ss in_.0 d).lo) (is_under o (get_or ss in_.0 d).hi) in_.3).0
      (starts_in_order ss d in_.0 k set in_.1 in_.2),
)

within : (k n : ℕ) → true ≡ nat_lt k n → k < n
within k n h = grind (arith, nat_tests)

past_all : (k n : ℕ) → false ≡ nat_lt k n → n ≤ k
past_all k n h = grind (arith, nat_tests)

-- the interval that begins next, if there is one
pub next_start : (names parts : List Span) (d part : Span) (a lo : List ℕ) (k : ℕ) → parts ≡ names → IsSet names → k ≤ length parts
    → ((i : ℕ) (e : Span) → i < k → name_lt a (get_or parts i e).lo ≡ false) → ((i : ℕ) (e : Span) → k ≤ i → i < length parts → name_lt a (get_or parts i e).lo ≡ true)
    → has names a ≡ false → true ≡ nat_lt k (length parts) → part ≡ get_or parts k d → lo ≡ part.lo → IsFirstPast names a (Some lo)
next_start names parts d part a lo k same set most begun later out some at is =
    subst (λ (x : List ℕ). IsFirstPast names a (Some x)) (sym (is ∙ ap (λ (s : Span). s.lo) at))
    (subst (λ (ss : List Span). IsFirstPast ss a (Some (get_or parts k d).lo)) same
    (first_is_past parts d a k (subst IsSet (sym same) set) (record { most = most; begun = begun; later = later }) (ap (λ (ss : List Span). has ss a) same ∙ out) (within k (length parts) some)))

pub no_start : (names parts : List Span) (d : Span) (a : List ℕ) (k : ℕ) → parts ≡ names → k ≤ length parts
    → ((i : ℕ) (e : Span) → i < k → name_lt a (get_or parts i e).lo ≡ false) → ((i : ℕ) (e : Span) → k ≤ i → i < length parts → name_lt a (get_or parts i e).lo ≡ true)
    → has names a ≡ false → false ≡ nat_lt k (length parts) → IsFirstPast names a None
no_start names parts d a k same most begun later out none =
    subst (λ (ss : List Span). IsFirstPast ss a None) same
    (none_past parts d a k (record { most = most; begun = begun; later = later }) (ap (λ (ss : List Span). has ss a) same ∙ out) (past_all k (length parts) none))

-- ---- the walk

abbrev pub is_next : Option (List ℕ) → List Span → List ℕ → Bool
is_next last names o = is_after last o && has names o

pub is_next_of : (last : Option (List ℕ)) (names : List Span) (o : List ℕ) → is_after last o ≡ true → has names o ≡ true → is_next last names o ≡ true
is_next_of last names o t h = of_both (is_after last o) (has names o) t h

-- the next name is none of the set's: what is next comes after it
past_it : (names : List Span) (last : Option (List ℕ)) (ns : List (List ℕ)) (name o : List ℕ) → Rise ns → find (is_after last) ns ≡ Some name → has names name ≡ false
    → Contains ns o → is_after last o ≡ true → has names o ≡ true → name_lt name o ≡ true
past_it names last ns name o rise is out c after h = elim (found_first (is_after last) ns name o rise is c after) [
  | inl same ↦ absurd (let bad : true ≡ false = sym h ∙ sym (ap (has names) same) ∙ out in cc)
  | inr lt ↦ lt
]

-- it is one of the set's
pub here : (names : List Span) (last : Option (List ℕ)) (ns : List (List ℕ)) (name : List ℕ) → Rise ns → find (is_after last) ns ≡ Some name → has names name ≡ true
    → find (is_next last names) ns ≡ Some name
here names last ns name rise is h =
    let one = found_is_one (is_after last) ns name is in
    first_found (is_next last names) ns name rise one.0 (of_both (is_after last name) (has names name) one.1 h) (λ o c passes.
    elim (found_first (is_after last) ns name o rise is c (both_of (is_after last o) (has names o) passes).0) [
      | inl same ↦ subst (λ (x : List ℕ). name_lt x name ≡ false) same (not_itself name)
      | inr lt ↦ one_way name o lt
    ])

-- no name is left
pub none_left : (names : List Span) (last : Option (List ℕ)) (ns : List (List ℕ)) → find (is_after last) ns ≡ None → find (is_next last names) ns ≡ None
none_left names last ns is = none_passes (is_next last names) ns (λ o c. ap (λ (b : Bool). b && has names o) (none_found (is_after last) ns o is c))

-- no name of the set is left
pub none_of_set : (names : List Span) (last : Option (List ℕ)) (ns : List (List ℕ)) (name : List ℕ) → Rise ns → find (is_after last) ns ≡ Some name → has names name ≡ false
    → IsFirstPast names name None → find (is_next last names) ns ≡ None
none_of_set names last ns name rise is out none = none_passes (is_next last names) ns (λ o c. by_test (is_next last names o)
    (λ t.
    let parts = both_of (is_after last o) (has names o) t in
    absurd (let bad : true ≡ false = sym parts.1 ∙ none o (past_it names last ns name o rise is out c parts.0 parts.1) in cc))
    (λ f. f))

-- the first name of the set past it is known
pub at_start : (names : List Span) (last : Option (List ℕ)) (ns : List (List ℕ)) (name first : List ℕ) → Rise ns → find (is_after last) ns ≡ Some name → has names name ≡ false
    → IsFirstPast names name (Some first) → Contains ns first → find (is_next last names) ns ≡ Some first
at_start names last ns name first rise is out past c =
    let one = found_is_one (is_after last) ns name is in
    first_found (is_next last names) ns first rise c (of_both (is_after last first) (has names first) (after_later last name first one.1 past.0) past.1) (λ o d passes.
    let parts = both_of (is_after last o) (has names o) passes in
    past.2 o (past_it names last ns name o rise is out d parts.0 parts.1) parts.1)

-- the first name of the set past it is not known: the walk goes on behind that one
pub behind_start : (names : List Span) (last : Option (List ℕ)) (ns : List (List ℕ)) (name first : List ℕ) → Rise ns → find (is_after last) ns ≡ Some name → has names name ≡ false
    → IsFirstPast names name (Some first) → (Contains ns first → ⊥) → find (is_next last names) ns ≡ find (is_next (Some first) names) ns
behind_start names last ns name first rise is out past unknown = same_found (is_next last names) (is_next (Some first) names) ns (λ o c. by_test (has names o)
    (λ h. ap (λ (b : Bool). b && has names o) (same o c h))
    (λ f. ap (λ (b : Bool). is_after last o && b) f ∙ and_false (is_after last o) ∙ sym (ap (λ (b : Bool). name_lt first o && b) f ∙ and_false (name_lt first o))))
  where
    passed : (o : List ℕ) → Contains ns o → has names o ≡ true → is_after last o ≡ true → name_lt first o ≡ true
    passed o c h after = elim (which first o) [
      | inl lt ↦ lt
      | inr (inl e) ↦ absurd (unknown (subst (λ (x : List ℕ). Contains ns x) (sym e) c))
      | inr (inr lt) ↦ absurd (let bad : true ≡ false = sym lt ∙ past.2 o (past_it names last ns name o rise is out c after h) h in cc)
    ]

    same : (o : List ℕ) → Contains ns o → has names o ≡ true → is_after last o ≡ name_lt first o
    same o c h = by_test (is_after last o)
        (λ t. t ∙ sym (passed o c h t))
        (λ f. by_test (name_lt first o)
        (λ lt. absurd (let bad : true ≡ false = sym (after_later last name o (found_is_one (is_after last) ns name is).1 (lt_trans name first o past.0 lt)) ∙ f in cc))
        (λ not. f ∙ sym not))

-- ---- fewer names are left

pub fewer_next : (last : Option (List ℕ)) (names : List Span) (ns : List (List ℕ)) (name : List ℕ) → Some name ≡ find (is_next last names) ns → length (filter (is_after (Some name)) ns) < length (filter (is_after last) ns)
fewer_next last names ns name is =
    let one = found_is_one (is_next last names) ns name (sym is) in
    fewer_past last ns name one.0 (both_of (is_after last name) (has names name) one.1).0

-- ---- a set that is named in two ways

pub named_so : (r last : Option (List ℕ)) (names same : List Span) (ns : List (List ℕ)) → names ≡ same → r ≡ find (is_next last names) ns → r ≡ find (is_next last same) ns
named_so r last names same ns e is = subst (λ (x : List Span). r ≡ find (is_next last x) ns) e is

pub next_in_set : (last : Option (List ℕ)) (names same : List Span) (ns : List (List ℕ)) (name : List ℕ) → names ≡ same → Some name ≡ find (is_next last names) ns → IsTrue (has same name)
next_in_set last names same ns name e is =
    subst (λ (x : List Span). IsTrue (has x name)) e (both_of (is_after last name) (has names name) (found_is_one (is_next last names) ns name (sym is)).1).1
