-- The marks that conflict with an earlier one, listed beside all.
use Rattle.std.proofs.Common.{◌≡◌, ◌∙◌, ◌⊎◌, ◌≤◌, ◌<◌, ◌+◌, ◌-◌, ℕ, zero, suc, List, [], ◌∷◌, None, Result, Ok, Err, Bool, true, false, IsTrue, refl, sym, ap, subst, filter, length, get_or, ◌&&◌, inl, inr, arith}
use Rattle.std.specs.Prelude.{Contains, OnOk}
use Rattle.std.proofs.lemmas.List.Elements.{Contains-get_or}
use Rattle.std.proofs.lemmas.List.Kept.{AllPairs-filter}
use Rattle.pr_stamps.proofs.Contained.{contains_none, first_or_later, is_first, is_later}
use Rattle.pr_stamps.specs.Marks.{is_conflict}
use Rattle.pr_stamps.specs.Point.{Point, is_before, is_missed}
use Rattle.pr_stamps.specs.declared.mark.Mark.{Mark}
use Rattle.pr_marks.specs.Conflicting.{HasStamp, IsFree, ListsConflicts}
use Rattle.pr_marks.specs.Row.{Rises, with_mark}
use Rattle.pr_marks.proofs.FromLast.{conflict_too, no_conflict, not_back}
use Rattle.pr_marks.proofs.Placed.{before_other, before_trans, neither_before, by_test, less_or, not_before_itself, rises_with}

pub clash : {A : Type 0} (b : Bool) → b ≡ true → b ≡ false → A
clash true h g = cc
clash false h g = cc

pub on_ok : {T E A B : Type 0} (r : Result T E) → (A → B) → OnOk r A → OnOk r B
on_ok (Ok x) f h = f h
on_ok (Err e) f h = tt

-- a mark comes after each that it conflicts with
pub conflict_order : (x y : Mark) → is_conflict x y ≡ true → IsTrue (is_before x.stamp y.stamp)
conflict_order x y e = second (is_missed y.prev x.stamp) (is_before x.stamp y.stamp) e
  where
    second : (a b : Bool) → (a && b) ≡ true → IsTrue b
    second true b e = e
    second false b e = cc

-- ---- one more mark is listed

stamp_later : (x : Mark) (xs : List Mark) (s : Point) → HasStamp xs s → HasStamp (x ∷ xs) s
stamp_later x xs s h = let lt : h.0 < length xs = h.1 in (suc h.0, omega (arith, lt), h.2)

stamp_first : (x : Mark) (xs : List Mark) (s : Point) → x.stamp ≡ s → HasStamp (x ∷ xs) s
stamp_first x xs s e = (zero, omega arith, λ d. e)

stamp_cases : (x : Mark) (xs : List Mark) (s : Point) → HasStamp (x ∷ xs) s → (x.stamp ≡ s) ⊎ HasStamp xs s
stamp_cases x xs s h = by h.0 h.1 h.2
  where
    by : (k : ℕ) → k < length (x ∷ xs) → ((d : Mark) → (get_or (x ∷ xs) k d).stamp ≡ s) → (x.stamp ≡ s) ⊎ HasStamp xs s
    by zero lt is = inl (is x)
    by (suc k) lt is = inr (k, omega (arith, lt), is)

pub stamps_stay : (xs : List Mark) (m : Mark) (s : Point) → HasStamp xs s → HasStamp (with_mark xs m) s
stamps_stay [] m s h = let lt : h.0 < 0 = h.1 in absurd (omega (arith, lt))
stamps_stay (x ∷ xs) m s h =
    by_test (is_before x.stamp m.stamp)
    (λ e. rw e (elim (stamp_cases x xs s h) [
      | inl here ↦ stamp_first x (with_mark xs m) s here
      | inr there ↦ stamp_later x (with_mark xs m) s (stamps_stay xs m s there)
    ]))
    (λ e. rw e (by_test (is_before m.stamp x.stamp)
    (λ g. rw g (stamp_later m (x ∷ xs) s h))
    (λ g. rw g h)))

pub stamp_put : (xs : List Mark) (m : Mark) → HasStamp (with_mark xs m) m.stamp
stamp_put [] m = stamp_first m [] m.stamp refl
stamp_put (x ∷ xs) m =
    by_test (is_before x.stamp m.stamp)
    (λ e. rw e (stamp_later x (with_mark xs m) m.stamp (stamp_put xs m)))
    (λ e. rw e (by_test (is_before m.stamp x.stamp)
    (λ g. rw g (stamp_first m (x ∷ xs) m.stamp refl))
    (λ g. rw g (stamp_first x xs m.stamp (neither_before x.stamp m.stamp e g)))))

-- ---- one more mark is kept

with_cases : (xs : List Mark) (m y : Mark) → Contains (with_mark xs m) y → (m ≡ y) ⊎ Contains xs y
with_cases [] m y = λ c. first_or_later m [] y c
with_cases (x ∷ xs) m y =
    by_test (is_before x.stamp m.stamp)
    (λ e. rw e (λ c. elim (first_or_later x (with_mark xs m) y c) [
      | inl here ↦ inr (subst (Contains (x ∷ xs)) here (is_first x xs))
      | inr there ↦ elim (with_cases xs m y there) [
        | inl new ↦ inl new
        | inr old ↦ inr (is_later x xs y old)
      ]
    ]))
    (λ e. rw e (by_test (is_before m.stamp x.stamp)
    (λ g. rw g (λ c. first_or_later m (x ∷ xs) y c))
    (λ g. rw g (λ c. inr c))))

-- where a stamp's place is among marks
abbrev pub AreBefore : List Mark → Point → ℕ → Type 0
AreBefore xs s at = (k : ℕ) (d : Mark) → k < at → IsTrue (is_before (get_or xs k d).stamp s)

abbrev pub AreNotBefore : List Mark → Point → ℕ → Type 0
AreNotBefore xs s at = (k : ℕ) (d : Mark) → at ≤ k → k < length xs → is_before (get_or xs k d).stamp s ≡ false

abbrev pub IsNotAt : List Mark → Point → ℕ → Type 0
IsNotAt xs s at = (d : Mark) → at < length xs → ¬ ((get_or xs at d).stamp ≡ s)

-- what the one before a new mark's place conflicts with it, where any mark does
this_listed : (marks new : List Mark) (m x : Mark) (at : ℕ) → Rises marks → at ≤ length marks → AreBefore marks m.stamp at → AreNotBefore marks m.stamp at → ((k : ℕ) (d : Mark) → k + 1 ≡ at → is_conflict (get_or marks k d) m ≡ true → HasStamp new m.stamp) → Contains marks x → is_conflict x m ≡ true → HasStamp new m.stamp
this_listed marks new m x at rise within before after this c e = elim (less_or c.0 at) [
  | inl less ↦
      let end : at - 1 + 1 ≡ at = omega (arith, less) in
      this (at - 1) x end (elim (less_or c.0 (at - 1)) [
        | inl early ↦ conflict_too x (get_or marks (at - 1) x) m (subst (λ (y : Mark). IsTrue (is_before y.stamp (get_or marks (at - 1) x).stamp)) c.2 (rise c.0 (at - 1) x early (omega (arith, within, less)))) (before (at - 1) x (omega (arith, less))) e
        | inr from ↦ let same : c.0 ≡ at - 1 = omega (arith, less, from) in subst (λ (y : Mark). is_conflict y m ≡ true) (sym c.2 ∙ ap (λ k. get_or marks k x) same) e
      ])
  | inr from ↦ clash (is_before x.stamp m.stamp) (conflict_order x m e) (subst (λ (y : Mark). is_before y.stamp m.stamp ≡ false) c.2 (after c.0 x from c.1))
]

-- a mark behind that conflicts with a new mark is the next one, or was listed
behind_listed : (marks listed new : List Mark) (m y : Mark) (at : ℕ) → Rises marks → ListsConflicts marks listed → AreBefore marks m.stamp at → AreNotBefore marks m.stamp at → IsNotAt marks m.stamp at → ((s : Point) → HasStamp listed s → HasStamp new s) → ((d : Mark) → at < length marks → is_conflict m (get_or marks at d) ≡ true → HasStamp new (get_or marks at d).stamp) → Contains marks y → is_conflict m y ≡ true → HasStamp new y.stamp
behind_listed marks listed new m y at rise old before after other stay behind c e = elim (less_or c.0 at) [
  | inl less ↦ clash (is_before m.stamp y.stamp) (conflict_order m y e) (not_back y.stamp m.stamp (subst (λ (z : Mark). IsTrue (is_before z.stamp m.stamp)) c.2 (before c.0 y less)))
  | inr from ↦
      let lt : at < length marks = omega (arith, from, c.1) in
      elim (less_or at c.0) [
        | inl past ↦
            let mz : IsTrue (is_before m.stamp (get_or marks at y).stamp) = before_other (get_or marks at y).stamp m.stamp (after at y (omega arith) lt) (other y lt) in
            let zy : IsTrue (is_before (get_or marks at y).stamp y.stamp) = subst (λ (z : Mark). IsTrue (is_before (get_or marks at y).stamp z.stamp)) c.2 (rise at c.0 y past c.1) in
            stay y.stamp (old.each (get_or marks at y) y (Contains-get_or marks at y lt) c (conflict_too m (get_or marks at y) y mz zy e))
        | inr upto ↦
            let same : get_or marks at y ≡ y = (let here : at ≡ c.0 = omega (arith, from, upto) in ap (λ k. get_or marks k y) here) ∙ c.2 in
            subst (λ (z : Mark). HasStamp new z.stamp) same (behind y lt (subst (λ (z : Mark). is_conflict m z ≡ true) (sym same) e))
      ]
]

pub added : (marks listed new : List Mark) (m : Mark) (at : ℕ) → Rises marks → ListsConflicts marks listed → Rises new → at ≤ length marks → AreBefore marks m.stamp at → AreNotBefore marks m.stamp at → IsNotAt marks m.stamp at → ((s : Point) → HasStamp listed s → HasStamp new s) → ((k : ℕ) (d : Mark) → k + 1 ≡ at → is_conflict (get_or marks k d) m ≡ true → HasStamp new m.stamp) → ((d : Mark) → at < length marks → is_conflict m (get_or marks at d) ≡ true → HasStamp new (get_or marks at d).stamp) → ListsConflicts (with_mark marks m) new
added marks listed new m at rise old rises within before after other stay this behind = record {
  rise = rises;
  each = λ x y cx cy e. elim (with_cases marks m y cy) [
    | inl this_one ↦ elim (with_cases marks m x cx) [
      | inl itself ↦ clash (is_conflict x y) e (subst (λ (z : Mark). is_conflict x z ≡ false) (sym itself ∙ this_one) (no_conflict x x (not_before_itself x.stamp x.stamp refl)))
      | inr one ↦ subst (λ (z : Mark). HasStamp new z.stamp) this_one (this_listed marks new m x at rise within before after this one (subst (λ (z : Mark). is_conflict x z ≡ true) (sym this_one) e))
    ]
    | inr later ↦ elim (with_cases marks m x cx) [
      | inl new_one ↦ behind_listed marks listed new m y at rise old before after other stay behind later (subst (λ (z : Mark). is_conflict z y ≡ true) (sym new_one) e)
      | inr one ↦ stay y.stamp (old.each x y one later e)
    ]
  ];
}

-- the list has more stamps, of the same marks
pub more_listed : (marks listed new : List Mark) → ListsConflicts marks listed → Rises new → ((s : Point) → HasStamp listed s → HasStamp new s) → ListsConflicts marks new
more_listed marks listed new old rises stay = record { rise = rises; each = λ x y cx cy e. stay y.stamp (old.each x y cx cy e) }

-- ---- fewer marks

kept_contains : (p : Mark → Bool) (xs : List Mark) (y : Mark) → Contains (filter p xs) y → Contains xs y × (p y ≡ true)
kept_contains p [] y = λ c. absurd (contains_none y c)
kept_contains p (x ∷ xs) y =
    by_test (p x)
    (λ e. rw e (λ c. elim (first_or_later x (filter p xs) y c) [
      | inl here ↦ (subst (Contains (x ∷ xs)) here (is_first x xs), subst (λ z. p z ≡ true) here e)
      | inr there ↦ let t = kept_contains p xs y there in (is_later x xs y t.0, t.1)
    ]))
    (λ e. rw e (λ c. let t = kept_contains p xs y c in (is_later x xs y t.0, t.1)))

kept_stamp : (q : Point → Bool) (xs : List Mark) (s : Point) → q s ≡ true → HasStamp xs s → HasStamp (filter (λ (m : Mark). q m.stamp) xs) s
kept_stamp q [] s t h = h
kept_stamp q (x ∷ xs) s t h = elim (stamp_cases x xs s h) [
  | inl here ↦ rw (ap q here ∙ t) (stamp_first x (filter (λ (m : Mark). q m.stamp) xs) s here)
  | inr there ↦
      by_test (q x.stamp)
      (λ e. rw e (stamp_later x (filter (λ (m : Mark). q m.stamp) xs) s (kept_stamp q xs s t there)))
      (λ e. rw e (kept_stamp q xs s t there))
]

pub fewer : (q : Point → Bool) (marks listed : List Mark) → ListsConflicts marks listed → ListsConflicts (filter (λ (m : Mark). q m.stamp) marks) (filter (λ (m : Mark). q m.stamp) listed)
fewer q marks listed old = record {
  rise = AllPairs-filter (λ (x : Mark) (y : Mark). IsTrue (is_before x.stamp y.stamp)) (λ (m : Mark). q m.stamp) listed old.rise;
  each = λ x y cx cy e.
      let kx = kept_contains (λ (m : Mark). q m.stamp) marks x cx in
      let ky = kept_contains (λ (m : Mark). q m.stamp) marks y cy in
      kept_stamp q listed y.stamp ky.1 (old.each x y kx.0 ky.0 e);
}

-- fewer marks, in the words of the code
pub fewer_kept : (q : Point → Bool) (marks listed kept left : List Mark) → Rises marks → ListsConflicts marks listed → kept ≡ filter (λ (m : Mark). q m.stamp) marks → left ≡ filter (λ (m : Mark). q m.stamp) listed → Rises kept × ListsConflicts kept left
fewer_kept q marks listed kept left rise old is those = (
  subst Rises (sym is) (AllPairs-filter (λ (x : Mark) (y : Mark). IsTrue (is_before x.stamp y.stamp)) (λ (m : Mark). q m.stamp) marks rise),
  subst (λ l. ListsConflicts l left) (sym is) (subst (ListsConflicts (filter (λ (m : Mark). q m.stamp) marks)) (sym those) (fewer q marks listed old)),
)

-- one mark more, in the words of the code
pub added_in : (marks listed a b e kept new : List Mark) (m : Mark) (at : ℕ) → a ≡ marks → b ≡ marks → e ≡ marks → kept ≡ with_mark marks m → Rises marks → ListsConflicts marks listed → Rises new → at ≤ length a → AreBefore a m.stamp at → AreNotBefore a m.stamp at → IsNotAt b m.stamp at → ((s : Point) → HasStamp listed s → HasStamp new s) → ((k : ℕ) (d : Mark) → k + 1 ≡ at → is_conflict (get_or e k d) m ≡ true → HasStamp new m.stamp) → ((d : Mark) → at < length e → is_conflict m (get_or e at d) ≡ true → HasStamp new (get_or e at d).stamp) → Rises kept × ListsConflicts kept new
added_in marks listed a b e kept new m at one two three is rise old rises within before after other stay this behind = (
  subst Rises (sym is) (rises_with marks m rise),
  subst (λ l. ListsConflicts l new) (sym is) (added marks listed new m at rise old rises
      (subst (λ (l : List Mark). at ≤ length l) one within)
      (subst (λ l. AreBefore l m.stamp at) one before)
      (subst (λ l. AreNotBefore l m.stamp at) one after)
      (subst (λ l. IsNotAt l m.stamp at) two other)
      stay
      (subst (λ (l : List Mark). (k : ℕ) (d : Mark) → k + 1 ≡ at → is_conflict (get_or l k d) m ≡ true → HasStamp new m.stamp) three this)
      (subst (λ (l : List Mark). (d : Mark) → at < length l → is_conflict m (get_or l at d) ≡ true → HasStamp new (get_or l at d).stamp) three behind)),
)

-- ---- the last listed mark before a place

-- a listed stamp up to one that is not listed at its place is before that place
listed_before : (listed : List Mark) (s t : Point) (at : ℕ) → Rises listed → AreNotBefore listed s at → IsNotAt listed s at → (t ≡ s) ⊎ IsTrue (is_before t s) → (h : HasStamp listed t) → h.0 < at
listed_before listed s t at rise after other upto h = elim (less_or h.0 at) [
  | inl less ↦ less
  | inr from ↦ elim upto [
    | inl same ↦ elim (less_or at h.0) [
      | inl past ↦ clash (is_before (get_or listed at d).stamp s) (subst (λ u. IsTrue (is_before (get_or listed at d).stamp u)) (h.2 d ∙ same) (rise at h.0 d past h.1)) (after at d (omega arith) (omega (arith, past, h.1)))
      | inr here ↦
          let is : at ≡ h.0 = omega (arith, from, here) in
          absurd (other d (omega (arith, is, h.1)) (ap (λ k. (get_or listed k d).stamp) is ∙ h.2 d ∙ same))
    ]
    | inr before ↦ clash (is_before t s) before (subst (λ u. is_before u s ≡ false) (h.2 d) (after h.0 d from h.1))
  ]
]
  where
    d : Mark
    d = record { stamp = s; prev = None }

-- a mark up to this one has its stamp or comes before it
up_to : (marks : List Mark) (at k : ℕ) (d : Mark) → Rises marks → at < length marks → k ≤ at → ((get_or marks k d).stamp ≡ (get_or marks at d).stamp) ⊎ IsTrue (is_before (get_or marks k d).stamp (get_or marks at d).stamp)
up_to marks at k d rise lt le = elim (less_or k at) [
  | inl less ↦ inr (rise k at d less lt)
  | inr from ↦ let same : k ≡ at = omega (arith, le, from) in inl (ap (λ i. (get_or marks i d).stamp) same)
]

-- none of those listed is up to this place
pub all_free : (marks listed : List Mark) (s : Point) (at : ℕ) (d : Mark) → Rises marks → ListsConflicts marks listed → at < length marks → s ≡ (get_or marks at d).stamp → AreNotBefore listed s 0 → IsNotAt listed s 0 → (k : ℕ) → k ≤ at → IsFree marks (get_or marks k d)
all_free marks listed s at d rise lists lt is after other k le x c =
    by_test (is_conflict x (get_or marks k d))
    (λ e.
    let h = lists.each x (get_or marks k d) c (Contains-get_or marks k d (omega (arith, le, lt))) e in
    let early : h.0 < 0 = listed_before listed s (get_or marks k d).stamp 0 lists.rise after other (subst (λ u. ((get_or marks k d).stamp ≡ u) ⊎ IsTrue (is_before (get_or marks k d).stamp u)) (sym is) (up_to marks at k d rise lt le)) h in
    absurd (omega (arith, early)))
    (λ e. e)

-- those behind the last listed one are free
pub rest_free : (marks listed : List Mark) (s t : Point) (at before last : ℕ) (d : Mark) → Rises marks → ListsConflicts marks listed → at < length marks → s ≡ (get_or marks at d).stamp → before ≤ length listed → AreNotBefore listed s before → IsNotAt listed s before → t ≡ (get_or listed (before - 1) d).stamp → AreNotBefore marks t last → (k : ℕ) → last + 1 ≤ k → k ≤ at → IsFree marks (get_or marks k d)
rest_free marks listed s t at before last d rise lists lt is within after other least behind k from le x c =
    by_test (is_conflict x (get_or marks k d))
    (λ e.
    let h = lists.each x (get_or marks k d) c (Contains-get_or marks k d (omega (arith, le, lt))) e in
    let early : h.0 < before = listed_before listed s (get_or marks k d).stamp before lists.rise after other (subst (λ u. ((get_or marks k d).stamp ≡ u) ⊎ IsTrue (is_before (get_or marks k d).stamp u)) (sym is) (up_to marks at k d rise lt le)) h in
    let next : IsTrue (is_before (get_or marks last d).stamp (get_or marks k d).stamp) = rise last k d (omega (arith, from)) (omega (arith, le, lt)) in
    let most : IsTrue (is_before (get_or marks last d).stamp t) = elim (up_to listed (before - 1) h.0 d lists.rise (omega (arith, within, early)) (omega (arith, early))) [
      | inl same ↦ subst (λ u. IsTrue (is_before (get_or marks last d).stamp u)) (sym (h.2 d) ∙ same ∙ sym least) next
      | inr less ↦ before_trans (get_or marks last d).stamp (get_or marks k d).stamp t next (subst (λ u. IsTrue (is_before u t)) (h.2 d) (subst (λ u. IsTrue (is_before (get_or listed h.0 d).stamp u)) (sym least) less))
    ] in
    clash (is_before (get_or marks last d).stamp t) most (behind last d (omega arith) (omega (arith, from, le, lt))))
    (λ e. e)
