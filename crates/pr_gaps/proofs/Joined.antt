-- Ranges that lie apart, with one taken out or put in. A set of ranges is the end of each by its start.
use Rattle.std.proofs.Common.{◌≡◌, ℕ, ◌≤◌, ◌<◌, ◌+◌, Option, None, Some, Bool, true, false, cond, refl, sym, ◌∙◌, ap, arith, nat_eq, inl, inr}
use Rattle.std.specs.Prelude.{◌⊎◌, ◌↔◌, Err, List, Ok, OnErr, OnOk, Result, min, max}
use Rattle.std.specs.Option.{IsSome, IfNone}
use Rattle.std.specs.Ordering.{is_eq, is_lt, is_gt, nat_cmp}
use Rattle.std.proofs.lemmas.Bool.{cases_lt}
use Rattle.std.proofs.lemmas.Bool.Decides.{nat_tests}
use Rattle.pr_gaps.specs.Ranges.{AreApart, Has, HasClock, IsIn}

eq_nat : (x y : ℕ) → is_eq (nat_cmp x y) ≡ nat_eq x y
eq_nat x y = grind (arith, nat_tests)

-- a number is this one, or another
this_or : (x y : ℕ) → (x ≡ y) ⊎ (is_eq (nat_cmp x y) ≡ false)
this_or x y = grind (arith, nat_tests)

this : (x y : ℕ) → x ≡ y → is_eq (nat_cmp x y) ≡ true
this x y e = grind (arith, nat_tests)

some_some : {A : Type 0} (x y : A) → Some x ≡ Some y → x ≡ y
some_some x y e = cc

-- ---- a range is taken out

-- what is left was there
pub left : (f g : ℕ → Option ℕ) (s : ℕ) → ((q : ℕ) → g q ≡ cond (is_eq (nat_cmp s q)) None (f q)) → (t e : ℕ) → g t ≡ Some e → f t ≡ Some e
left f g s out t e is = elim (this_or s t) [
  | inl here ↦ absurd (gone (sym is ∙ out t ∙ ap (λ b. cond b None (f t)) (this s t here)))
  | inr other ↦ ap (λ b. cond b None (f t)) (sym other) ∙ sym (out t) ∙ is
]
  where
    gone : Some e ≡ None → ⊥
    gone h = cc

pub has_left : (f g : ℕ → Option ℕ) (s : ℕ) → ((q : ℕ) → g q ≡ cond (is_eq (nat_cmp s q)) None (f q)) → (c : ℕ) → Has g c → Has f c
has_left f g s out c (t, e, is, from, to) = (t, e, left f g s out t e is, from, to)

-- a clock that was in a range is in what is left, or in the range that was taken out
pub still : (f g : ℕ → Option ℕ) (s e c : ℕ) → f s ≡ Some e → ((q : ℕ) → g q ≡ cond (is_eq (nat_cmp s q)) None (f q)) → Has f c → Has g c ⊎ ((s ≤ c) × (c ≤ e))
still f g s e c at out (t, u, is, from, to) = elim (this_or s t) [
  | inl here ↦ inr ((omega (arith, here, from)), omega (arith, to, some_some u e (sym is ∙ ap f (sym here) ∙ at)))
  | inr other ↦ inl (t, u, out t ∙ ap (λ b. cond b None (f t)) other ∙ is, from, to)
]

pub still_apart : (f g : ℕ → Option ℕ) (s : ℕ) → ((q : ℕ) → g q ≡ cond (is_eq (nat_cmp s q)) None (f q)) → AreApart f → AreApart g
still_apart f g s out apart = record {
  some = λ t e is. apart.some t e (left f g s out t e is);
  gap = λ t e u d is has less. apart.gap t e u d (left f g s out t e is) (left f g s out u d has) less;
}

-- ---- a range is put in

pub put_in : (f h : ℕ → Option ℕ) (lo hi : ℕ) → ((q : ℕ) → h q ≡ cond (is_eq (nat_cmp lo q)) (Some hi) (f q)) → (t e : ℕ) → h t ≡ Some e → ((t ≡ lo) × (e ≡ hi)) ⊎ (f t ≡ Some e)
put_in f h lo hi in_ t e is = elim (this_or lo t) [
  | inl here ↦ inl (sym here, some_some e hi (sym is ∙ in_ t ∙ ap (λ b. cond b (Some hi) (f t)) (this lo t here)))
  | inr other ↦ inr (ap (λ b. cond b (Some hi) (f t)) (sym other) ∙ sym (in_ t) ∙ is)
]

-- none of the ranges touches the clocks that are put in
abbrev pub AreFar : (ℕ → Option ℕ) → ℕ → ℕ → Type 0
AreFar f lo hi = (s e : ℕ) → f s ≡ Some e → (e + 1 < lo) ⊎ (hi + 1 < s)

pub now_apart : (f h : ℕ → Option ℕ) (lo hi : ℕ) → ((q : ℕ) → h q ≡ cond (is_eq (nat_cmp lo q)) (Some hi) (f q)) → AreApart f → AreFar f lo hi → 1 ≤ lo → lo ≤ hi → hi ≤ 4611686018427387903 → AreApart h
now_apart f h lo hi in_ apart far one order most = record {
  some = λ s e is. elim (put_in f h lo hi in_ s e is) [ inl new ↦ (omega (arith, new.0), (omega (arith, new.0, new.1), omega (arith, new.1))) | inr old ↦ apart.some s e old ];
  gap = λ s e t d is has less. elim (put_in f h lo hi in_ s e is) [
    | inl new ↦ elim (put_in f h lo hi in_ t d has) [
      | inl also ↦ absurd (omega (arith, new.0, also.0, less))
      | inr old ↦ elim (far t d old) [
        | inl before ↦ absurd (omega (arith, new.0, less, before, (apart.some t d old).1.0))
        | inr after ↦ omega (arith, new.1, after)
      ]
    ]
    | inr was ↦ elim (put_in f h lo hi in_ t d has) [
      | inl new ↦ elim (far s e was) [
        | inl before ↦ omega (arith, new.0, before)
        | inr after ↦ absurd (omega (arith, new.0, less, after, order))
      ]
      | inr old ↦ apart.gap s e t d was old less
    ]
  ];
}

-- the clocks are those of the ranges and those that were put in
pub now_has : (f h : ℕ → Option ℕ) (lo hi c : ℕ) → ((q : ℕ) → h q ≡ cond (is_eq (nat_cmp lo q)) (Some hi) (f q)) → Has h c → Has f c ⊎ ((lo ≤ c) × (c ≤ hi))
now_has f h lo hi c in_ (t, e, is, from, to) = elim (put_in f h lo hi in_ t e is) [
  | inl new ↦ inr (omega (arith, new.0, from), omega (arith, new.1, to))
  | inr old ↦ inl (t, e, old, from, to)
]

pub has_now : (f h : ℕ → Option ℕ) (lo hi c : ℕ) → ((q : ℕ) → h q ≡ cond (is_eq (nat_cmp lo q)) (Some hi) (f q)) → AreApart f → AreFar f lo hi → lo ≤ hi → Has f c ⊎ ((lo ≤ c) × (c ≤ hi)) → Has h c
has_now f h lo hi c in_ apart far order (inl (t, e, is, from, to)) = elim (this_or lo t) [
  | inl here ↦ elim (far t e is) [ inl before ↦ absurd (omega (arith, here, before, (apart.some t e is).1.0)) | inr after ↦ absurd (omega (arith, here, after, order)) ]
  | inr other ↦ (t, e, in_ t ∙ ap (λ b. cond b (Some hi) (f t)) other ∙ is, from, to)
]
has_now f h lo hi c in_ apart far order (inr (from, to)) = (lo, hi, in_ lo ∙ ap (λ b. cond b (Some hi) (f lo)) (this lo lo refl), from, to)

-- ---- one turn: a near range is taken out, and the clocks grow by it

near_hull : (lo hi s e m c : ℕ) → m ≡ min lo s → lo ≤ hi → s ≤ e → s ≤ hi + 1 → lo ≤ e + 1 → m ≤ c → c ≤ max hi e → ((s ≤ c) × (c ≤ e)) ⊎ ((lo ≤ c) × (c ≤ hi))
near_hull lo hi s e m c is order some up down from to = grind (arith, nat_tests)

hull_has : (lo hi s e m c : ℕ) → m ≡ min lo s → ((s ≤ c) × (c ≤ e)) ⊎ ((lo ≤ c) × (c ≤ hi)) → (m ≤ c) × (c ≤ max hi e)
hull_has lo hi s e m c is either = grind (arith, nat_tests)

pub turn_to : (f g : ℕ → Option ℕ) (lo hi s e m c : ℕ) → m ≡ min lo s → f s ≡ Some e → ((q : ℕ) → g q ≡ cond (is_eq (nat_cmp s q)) None (f q)) → lo ≤ hi → s ≤ e → s ≤ hi + 1 → lo ≤ e + 1 → Has g c ⊎ ((m ≤ c) × (c ≤ max hi e)) → Has f c ⊎ ((lo ≤ c) × (c ≤ hi))
turn_to f g lo hi s e m c m_is at out order some up down (inl (t, u, is, from, to)) = inl (t, u, left f g s out t u is, from, to)
turn_to f g lo hi s e m c m_is at out order some up down (inr (from, to)) = elim (near_hull lo hi s e m c m_is order some up down from to) [ inl old ↦ inl (s, e, at, old.0, old.1) | inr new ↦ inr new ]

pub turn_from : (f g : ℕ → Option ℕ) (lo hi s e m c : ℕ) → m ≡ min lo s → f s ≡ Some e → ((q : ℕ) → g q ≡ cond (is_eq (nat_cmp s q)) None (f q)) → Has f c ⊎ ((lo ≤ c) × (c ≤ hi)) → Has g c ⊎ ((m ≤ c) × (c ≤ max hi e))
turn_from f g lo hi s e m c m_is at out (inl has) = elim (still f g s e c at out has) [ inl more ↦ inl more | inr here ↦ inr (hull_has lo hi s e m c m_is (inl here)) ]
turn_from f g lo hi s e m c m_is at out (inr new) = inr (hull_has lo hi s e m c m_is (inr new))

pub min_first : (lo s : ℕ) → lo < s → lo ≡ min lo s
min_first lo s less = grind (arith, nat_tests)

min_start : (lo s : ℕ) → s ≤ lo → s ≡ min lo s
min_start lo s le = grind (arith, nat_tests)

-- ---- the last near range begins at or before the clocks: it grows, and no other is near

-- no range begins between this start and the clock after `hi`
abbrev pub IsLast : (ℕ → Option ℕ) → ℕ → ℕ → Type 0
IsLast f hi s = (t u : ℕ) → f t ≡ Some u → (t ≤ s) ⊎ (hi + 1 < t)

-- the ranges without the one that begins here
abbrev without : (ℕ → Option ℕ) → ℕ → ℕ → Option ℕ
without f s q = cond (is_eq (nat_cmp s q)) None (f q)

grown_in : (f h : ℕ → Option ℕ) (s e : ℕ) → ((q : ℕ) → h q ≡ cond (is_eq (nat_cmp s q)) (Some e) (f q)) → (q : ℕ) → h q ≡ cond (is_eq (nat_cmp s q)) (Some e) (without f s q)
grown_in f h s e in_ q = in_ q ∙ twice (is_eq (nat_cmp s q))
  where
    twice : (b : Bool) → cond b (Some e) (f q) ≡ cond b (Some e) (cond b None (f q))
    twice true = refl
    twice false = refl

far_without : (f : ℕ → Option ℕ) (hi s e : ℕ) → AreApart f → f s ≡ Some e → IsLast f hi s → AreFar (without f s) s (max hi e)
far_without f hi s e apart at last t u is = elim (order s t) [
  | inl here ↦ absurd (gone (sym (ap (λ b. cond b None (f t)) (this s t here)) ∙ is))
  | inr (inl less) ↦ inl (apart.gap t u s e was at less)
  | inr (inr more) ↦ elim (last t u was) [
    | inl le ↦ absurd (omega (arith, le, more))
    | inr past ↦ inr (beyond past (apart.gap s e t u at was more))
  ]
]
  where
    was : f t ≡ Some u
    was = left f (without f s) s (λ q. refl) t u is

    order : (x y : ℕ) → (x ≡ y) ⊎ ((y < x) ⊎ (x < y))
    order x y = grind (arith, nat_tests)

    gone : None ≡ Some u → ⊥
    gone h = cc

    beyond : hi + 1 < t → e + 1 < t → max hi e + 1 < t
    beyond past more = grind (arith, nat_tests)

pub grown_apart : (f h : ℕ → Option ℕ) (lo hi s e : ℕ) → AreApart f → f s ≡ Some e → IsLast f hi s → ((q : ℕ) → h q ≡ cond (is_eq (nat_cmp s q)) (Some (max hi e)) (f q)) → s ≤ lo → lo ≤ hi → hi ≤ 4611686018427387903 → AreApart h
grown_apart f h lo hi s e apart at last in_ le order most =
    let k = apart.some s e at in
    now_apart (without f s) h s (max hi e) (grown_in f h s (max hi e) in_) (still_apart f (without f s) s (λ q. refl) apart) (far_without f hi s e apart at last) k.0 (omega (arith, k.1.0)) (omega (arith, k.1.1))

pub grown_same : (f h : ℕ → Option ℕ) (lo hi s e : ℕ) → AreApart f → f s ≡ Some e → IsLast f hi s → ((q : ℕ) → h q ≡ cond (is_eq (nat_cmp s q)) (Some (max hi e)) (f q)) → s ≤ lo → lo ≤ hi → lo ≤ e + 1 → (c : ℕ) → Has h c ↔ (Has f c ⊎ ((lo ≤ c) × (c ≤ hi)))
grown_same f h lo hi s e apart at last in_ le order down c =
    let k = apart.some s e at in
    let in_g = grown_in f h s (max hi e) in_ in
    let m : s ≡ min lo s = min_start lo s le in (
      (λ has. turn_to f (without f s) lo hi s e s c m at (λ q. refl) order k.1.0 (omega arith) down (now_has (without f s) h s (max hi e) c in_g has)),
      (λ either. has_now (without f s) h s (max hi e) c in_g (still_apart f (without f s) s (λ q. refl) apart) (far_without f hi s e apart at last) (omega (arith, k.1.0)) (turn_from f (without f s) lo hi s e s c m at (λ q. refl) either)),
    )

-- ---- the clocks from 1 on

-- a range that touches the clocks up to one is taken out, and they go on to its end
pub run_grows : (f g : ℕ → Option ℕ) (last s e c : ℕ) → AreApart f → f s ≡ Some e → s ≤ last + 1 → ((q : ℕ) → g q ≡ cond (is_eq (nat_cmp s q)) None (f q)) → (((1 ≤ c) × (c ≤ max last e)) ⊎ Has g c) ↔ (((1 ≤ c) × (c ≤ last)) ⊎ Has f c)
run_grows f g last s e c apart at touches out = (to, from)
  where
    within : c ≤ max last e → (c ≤ last) ⊎ ((s ≤ c) × (c ≤ e))
    within le = elim (cases_lt last c) [ inl past ↦ inr (omega (arith, past, touches), omega (arith, past, le)) | inr here ↦ inl here ]

    to : ((1 ≤ c) × (c ≤ max last e)) ⊎ Has g c → ((1 ≤ c) × (c ≤ last)) ⊎ Has f c
    to (inl (one, le)) = elim (within le) [ inl here ↦ inl (one, here) | inr there ↦ inr (s, e, at, there.0, there.1) ]
    to (inr has) = inr (has_left f g s out c has)

    from : ((1 ≤ c) × (c ≤ last)) ⊎ Has f c → ((1 ≤ c) × (c ≤ max last e)) ⊎ Has g c
    from (inl (one, le)) = inl (one, omega (arith, le))
    from (inr has) = elim (still f g s e c at out has) [ inl more ↦ inr more | inr here ↦ inl (omega (arith, here.0, (apart.some s e at).0), omega (arith, here.1)) ]

-- clocks that follow those from 1 on are told too
pub run_told : (last lo hi m c : ℕ) (Other : Type 0) → m ≡ max last hi → 1 ≤ lo → lo ≤ last + 1 → (((1 ≤ c) × (c ≤ m)) ⊎ Other) ↔ ((((1 ≤ c) × (c ≤ last)) ⊎ Other) ⊎ ((lo ≤ c) × (c ≤ hi)))
run_told last lo hi m c Other is some touches = (to, from)
  where
    to : ((1 ≤ c) × (c ≤ m)) ⊎ Other → (((1 ≤ c) × (c ≤ last)) ⊎ Other) ⊎ ((lo ≤ c) × (c ≤ hi))
    to (inl (one, le)) = elim (cases_lt last c) [ inl past ↦ inr (omega (arith, past, touches), omega (arith, past, le, is)) | inr here ↦ inl (inl (one, here)) ]
    to (inr other) = inl (inr other)

    from : (((1 ≤ c) × (c ≤ last)) ⊎ Other) ⊎ ((lo ≤ c) × (c ≤ hi)) → ((1 ≤ c) × (c ≤ m)) ⊎ Other
    from (inl (inl (one, le))) = inl (one, omega (arith, le, is))
    from (inl (inr other)) = inr other
    from (inr (low, high)) = inl (omega (arith, some, low), omega (arith, high, is))

-- clocks that are told behind others, or not
abbrev pub IsGrown : List (ℕ × ℕ) → List (ℕ × ℕ) → ℕ → ℕ → Type 0
IsGrown old new lo hi = (c : ℕ) → IsIn new c ↔ (IsIn old c ⊎ ((lo ≤ c) × (c ≤ hi)))

pub told_too : {X E : Type 0} (r : Result X E) (last : ℕ) (old new : List (ℕ × ℕ)) (lo hi : ℕ) → OnOk r (IsGrown old new lo hi)
    → OnOk r ((c : ℕ) → HasClock (record { last = last; others = new }) c ↔ (HasClock (record { last = last; others = old }) c ⊎ ((lo ≤ c) × (c ≤ hi))))
told_too (Err e) last old new lo hi grown = tt
told_too (Ok x) last old new lo hi grown = λ c. (
  (λ has. elim has [ inl run ↦ inl (inl run) | inr there ↦ elim ((grown c).0 there) [ inl was ↦ inl (inr was) | inr more ↦ inr more ] ]),
  (λ either. elim either [ inl was ↦ elim was [ inl run ↦ inl run | inr there ↦ inr ((grown c).1 (inl there)) ] | inr more ↦ inr ((grown c).1 (inr more)) ]),
)

pub not_there_yet : {X E : Type 0} (r : Result X E) (old new : List (ℕ × ℕ)) (lo hi c : ℕ) → OnOk r (IsGrown old new lo hi) → OnErr r ((k : ℕ) → IsIn new k → IsIn old k) → c < lo → (IsIn old c → ⊥) → IsIn new c → ⊥
not_there_yet (Ok x) old new lo hi c grown lost less none has = elim ((grown c).0 has) [ inl was ↦ none was | inr more ↦ omega (arith, more.0, less) ]
not_there_yet (Err e) old new lo hi c grown lost less none has = none (lost c has)

-- ---- near and far

pub far_before : (f : ℕ → Option ℕ) (lo hi s e : ℕ) → AreApart f → f s ≡ Some e → e + 1 < lo → ((t : ℕ) → is_gt (nat_cmp t (hi + 1)) ≡ false → IsSome (f t) → is_lt (nat_cmp s t) ≡ false) → AreFar f lo hi
far_before f lo hi s e apart at before last t u is = elim (up_to t (hi + 1)) [
  | inl within ↦ elim (not_after s t (last t within (is_some (f t) u is))) [
    | inl same ↦ inl (omega (arith, before, some_some u e (sym is ∙ ap f same ∙ at)))
    | inr less ↦ inl (omega (arith, apart.gap t u s e is at less, before, (apart.some s e at).1.0))
  ]
  | inr past ↦ inr past
]
  where
    up_to : (t h : ℕ) → (is_gt (nat_cmp t h) ≡ false) ⊎ (h < t)
    up_to t h = grind (arith, nat_tests)

    not_after : (s t : ℕ) → is_lt (nat_cmp s t) ≡ false → (t ≡ s) ⊎ (t < s)
    not_after s t h = grind (arith, nat_tests)

    is_some : (x : Option ℕ) (u : ℕ) → x ≡ Some u → IsSome x
    is_some None u h = cc
    is_some (Some y) u h = refl

pub far_all : (f : ℕ → Option ℕ) (lo hi : ℕ) → ((t : ℕ) → is_gt (nat_cmp t (hi + 1)) ≡ false → f t ≡ None) → AreFar f lo hi
far_all f lo hi none t u is = elim (up_to t (hi + 1)) [ inl within ↦ absurd (gone (sym is ∙ none t within)) | inr past ↦ inr past ]
  where
    up_to : (t h : ℕ) → (is_gt (nat_cmp t h) ≡ false) ⊎ (h < t)
    up_to t h = grind (arith, nat_tests)

    gone : Some u ≡ None → ⊥
    gone h = cc

pub if_none : {X A B : Type 0} (x : Option X) → IfNone x A → (A → B) → IfNone x B
if_none None h f = f h
if_none (Some y) h f = tt

pub on_err : {X E A : Type 0} (r : Result X E) → A → OnErr r A
on_err (Ok x) a = tt
on_err (Err e) a = a
