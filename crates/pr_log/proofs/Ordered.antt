-- Entries in the order of their clocks, and others behind them.
use Rattle.std.proofs.Common.{◌≡◌, ℕ, ◌≤◌, ◌<◌, ◌+◌, ◌-◌, zero, suc, List, [], ◌∷◌, ◌++◌, length, get_or, take, drop, Option, None, Some, Bool, true, false, cond, refl, sym, ◌∙◌, ap, subst, arith, inl, inr, nat_le, nat_lt, nat_eq, not}
use Rattle.std.specs.Prelude.{IfSome, IfNone, filter, remove, zip, ◌≢◌}
use Rattle.std.specs.Borrow.{Bor}
use Rattle.std.specs.BTreeMap.{insert_entry}
use Rattle.std.specs.BTreeMap.Range.{IsLeBy, IsLtBy}
use Rattle.std.specs.Option.{IsSome, is_some, option_or}
use Rattle.std.specs.declared.cmp.Ordering.{Ordering}
use Rattle.std.specs.declared.cmp.Ordering.TheVariants.{Less, Equal, Greater}
use Rattle.std.specs.Ordering.{is_eq, match_ordering, nat_cmp}
use Rattle.std.proofs.lemmas.Bool.Decides.{nat_tests}
use Rattle.std.proofs.lemmas.List.{get_or-drop, get_or_default, length-drop, take_all}
use Rattle.std.proofs.lemmas.Map.Entries.{lookup-filter-keys}
use Rattle.pr_inval.specs.declared.write_rec.WriteRec.{WriteRec}
use Rattle.pr_log.specs.Entries.{IsFirstEntry, IsLesserEntry, Rise, entry_of, without}
use Rattle.pr_log.specs.Known.{IsForgottenUpTo, at_clock, count_above}
use Rattle.pr_log.proofs.Clocks.{key_up_to, less_key, less_or, none_of, some_none, this_key, this_or}
use Rattle.pr_log.proofs.Counts.{count_insert}
use Rattle.pr_log.proofs.Merge.{count_more, one}

abbrev Entries : Type 0
Entries = List (ℕ × WriteRec)

-- ---- two lists, one behind the other

pub at_both : (xs ys : Entries) (c : ℕ) → at_clock (xs ++ ys) c ≡ option_or (at_clock xs c) (at_clock ys c)
at_both [] ys c = refl
at_both (e ∷ xs) ys c = first (is_eq (nat_cmp c e.0)) (at_clock xs c) (at_both xs ys c)
  where
    first : {r : Option WriteRec} (b : Bool) (x : Option WriteRec) → r ≡ option_or x (at_clock ys c) → cond b (Some e.1) r ≡ option_or (cond b (Some e.1) x) (at_clock ys c)
    first true x h = refl
    first false x h = h

pub count_both : (xs ys : Entries) (c : ℕ) → count_above (xs ++ ys) c ≡ count_above xs c + count_above ys c
count_both [] ys c = omega arith
count_both (e ∷ xs) ys c = omega (arith, count_more e (xs ++ ys) c, count_more e xs c, count_both xs ys c)

-- ---- rising clocks, each with its write

rise_tail : (k : ℕ) (cs : List ℕ) → Rise (k ∷ cs) → Rise cs
rise_tail k cs h i j d lt within = h (suc i) (suc j) d (omega (arith, lt)) (omega (arith, within))

pub rise_drop : (cs : List ℕ) (i : ℕ) → Rise cs → Rise (drop i cs)
rise_drop cs i h a b d lt within = omega (
  arith,
  h (i + a) (i + b) d (omega (arith, lt)) (omega (arith, within, length-drop i cs)),
  get_or-drop i cs a d,
  get_or-drop i cs b d,
)

at_index : (cs : List ℕ) (ws : List WriteRec) (i d : ℕ) (w : WriteRec) → Rise cs → length cs ≡ length ws → i < length cs → at_clock (zip cs ws) (get_or cs i d) ≡ Some (get_or ws i w)
at_index [] ws i d w h pairs lt = absurd (omega (arith, lt))
at_index (k ∷ cs) [] i d w h pairs lt = absurd (omega (arith, pairs))
at_index (k ∷ cs) (v ∷ ws) zero d w h pairs lt = ap (λ b. cond b (Some v) (at_clock (zip cs ws) k)) (this_key k k refl)
at_index (k ∷ cs) (v ∷ ws) (suc i) d w h pairs lt =
    let below : k < get_or cs i d = h 0 (suc i) d (omega arith) lt in
    ap (λ b. cond b (Some v) (at_clock (zip cs ws) (get_or cs i d))) (apart (get_or cs i d) k below) ∙ at_index cs ws i d w (rise_tail k cs h) (omega (arith, pairs)) (omega (arith, lt))
  where
    apart : (c k : ℕ) → k < c → is_eq (nat_cmp c k) ≡ false
    apart c k lt = grind (arith, nat_tests)

found_index : (cs : List ℕ) (ws : List WriteRec) (c d : ℕ) → IsSome (at_clock (zip cs ws) c) → (i : ℕ) × (i < length cs) × (get_or cs i d ≡ c)
found_index [] ws c d some = absurd (nothing some)
  where
    nothing : IsSome {T = WriteRec} None → ⊥
    nothing e = cc
found_index (k ∷ cs) [] c d some = absurd (nothing some)
  where
    nothing : IsSome {T = WriteRec} None → ⊥
    nothing e = cc
found_index (k ∷ cs) (w ∷ ws) c d some = elim (this_or c k) [
  | inl here ↦ (0, omega arith, sym here)
  | inr other ↦
      let t = found_index cs ws c d (subst (λ b. IsSome (cond b (Some w) (at_clock (zip cs ws) c))) other some) in
      (suc t.0, omega (arith, t.1), t.2)
]

-- none of the clocks is this one
none_at : (cs : List ℕ) (ws : List WriteRec) (c : ℕ) → ((i d : ℕ) → i < length cs → get_or cs i d ≢ c) → at_clock (zip cs ws) c ≡ None
none_at cs ws c other = none_of (at_clock (zip cs ws) c) (λ some. let t = found_index cs ws c 0 some in other t.0 0 t.1 t.2)

-- ---- the first entry above a clock

-- the clocks up to one come first
pub up_to_first : (cs : List ℕ) (c i j d : ℕ) → Rise cs → i ≤ j → j < length cs → nat_le (get_or cs j d) c ≡ true → nat_le (get_or cs i d) c ≡ true
up_to_first cs c i j d rise le lt t = elim (less_or i j) [
  | inl before ↦ lesser (get_or cs i d) (get_or cs j d) (rise i j d before lt) t
  | inr from ↦ let same : i ≡ j = omega (arith, le, from) in ap (λ k. nat_le (get_or cs k d) c) same ∙ t
]
  where
    lesser : (a b : ℕ) → a < b → nat_le b c ≡ true → nat_le a c ≡ true
    lesser a b lt t = grind (arith, nat_tests)

is_up_to : (a c : ℕ) → nat_le a c ≡ true → a ≤ c
is_up_to a c t = grind (arith, nat_tests)

is_above : (a c : ℕ) → nat_le a c ≡ false → c < a
is_above a c t = grind (arith, nat_tests)

-- ---- the clocks from a place on

abbrev part : List ℕ → ℕ → List ℕ
part cs i = take (length cs - i) (drop i cs)

part_is : (cs : List ℕ) (i : ℕ) → part cs i ≡ drop i cs
part_is cs i = take_all (length cs - i) (drop i cs) (omega (arith, length-drop i cs))

part_at : (cs : List ℕ) (i k d : ℕ) → get_or (part cs i) k d ≡ get_or cs (i + k) d
part_at cs i k d = ap (λ l. get_or l k d) (part_is cs i) ∙ get_or-drop i cs k d

part_length : (cs : List ℕ) (i : ℕ) → length (part cs i) ≡ length cs - i
part_length cs i = ap length (part_is cs i) ∙ length-drop i cs

pub rise_part : (cs : List ℕ) (i : ℕ) → Rise cs → Rise (part cs i)
rise_part cs i h = subst Rise (sym (part_is cs i)) (rise_drop cs i h)

-- those before a place with a clock up to this one
pub up_to_before : (cs : List ℕ) (c at k e d : ℕ) → Rise cs → at < length cs → get_or cs at e ≤ c → k < at → get_or cs k d ≤ c
up_to_before cs c at k e d h lt le before = omega (arith, h k at d before lt, le, get_or_default cs at d e lt)

-- and the one at the place before, of so many
pub up_to_last : (cs : List ℕ) (c n k e d : ℕ) → Rise cs → n ≤ length cs → get_or cs (n - 1) e ≤ c → k < n → get_or cs k d ≤ c
up_to_last cs c n k e d h most le before = elim (less_or k (n - 1)) [
  | inl less ↦ up_to_before cs c (n - 1) k e d h (omega (arith, most, before)) le less
  | inr from ↦
      let same : k ≡ n - 1 = omega (arith, from, before) in
      subst (λ i. get_or cs i d ≤ c) (sym same) (omega (arith, le, get_or_default cs (n - 1) d e (omega (arith, most, before))))
]

-- how many are up to the clock is known of a part before which all are
pub within_part : (cs : List ℕ) (c i r k d : ℕ) → ((k d : ℕ) → k < i → get_or cs k d ≤ c) → (i ≤ k → k < i + r → nat_le (get_or (part cs i) (k - i) d) c ≡ true) → k < i + r → get_or cs k d ≤ c
within_part cs c i r k d before within lt = elim (less_or k i) [
  | inl less ↦ before k d less
  | inr from ↦
      let same : i + (k - i) ≡ k = omega (arith, from) in
      omega (arith, is_up_to (get_or (part cs i) (k - i) d) c (within from lt), part_at cs i (k - i) d, ap (λ j. get_or cs j d) same)
]

pub above_part : (cs : List ℕ) (c i r k d : ℕ) → (r ≤ k - i → k - i < length (part cs i) → nat_le (get_or (part cs i) (k - i) d) c ≡ false) → i + r ≤ k → k < length cs → c < get_or cs k d
above_part cs c i r k d above le lt =
    let same : i + (k - i) ≡ k = omega (arith, le) in
    omega (arith, is_above (get_or (part cs i) (k - i) d) c (above (omega (arith, le)) (omega (arith, le, lt, part_length cs i))), part_at cs i (k - i) d, ap (λ j. get_or cs j d) same)

pub none_in_order : (cs : List ℕ) (ws : List WriteRec) (c at : ℕ) → at ≡ length cs → ((k d : ℕ) → k < at → get_or cs k d ≤ c) → IsFirstEntry (zip cs ws) c None
none_in_order cs ws c at end within k above = none_at cs ws k (λ i d lt same. omega (arith, within i d (omega (arith, lt, end)), same, above))

pub first_in_order : (cs : List ℕ) (ws : List WriteRec) (c at d : ℕ) (w : WriteRec) → Rise cs → length cs ≡ length ws → at < length cs → ((k d : ℕ) → k < at → get_or cs k d ≤ c) → ((k d : ℕ) → at ≤ k → k < length cs → c < get_or cs k d) → IsFirstEntry (zip cs ws) c (Some (get_or cs at d, get_or ws at w))
first_in_order cs ws c at d w rise pairs lt within above = (
  above at d (omega arith) lt,
  at_index cs ws at d w rise pairs lt,
  λ k past some.
      let t = found_index cs ws k d some in
      elim (less_or at t.0) [
        | inl later ↦ omega (arith, rise at t.0 d later t.1, t.2)
        | inr upto ↦ elim (less_or t.0 at) [
          | inl before ↦ absurd (omega (arith, within t.0 d before, t.2, past))
          | inr from ↦ let same : t.0 ≡ at = omega (arith, upto, from) in omega (arith, ap (λ i. get_or cs i d) same, t.2)
        ]
      ],
)

-- ---- of the two lists

lesser_first : (xs ys : Entries) (c : ℕ) (a b : ℕ × WriteRec) → IsFirstEntry xs c (Some a) → IsFirstEntry ys c (Some b) → a.0 ≤ b.0 → IsFirstEntry (xs ++ ys) c (Some a)
lesser_first xs ys c a b one two le = (
  one.0,
  at_both xs ys a.0 ∙ ap (λ r. option_or r (at_clock ys a.0)) one.1,
  λ k past some. either (at_clock xs k) (at_clock ys k) (subst IsSome (at_both xs ys k) some) (one.2 k past) (λ there. omega (arith, le, two.2 k past there)),
)
  where
    either : {P : Type 0} (r s : Option WriteRec) → IsSome (option_or r s) → (IsSome r → P) → (IsSome s → P) → P
    either None s some f g = g some
    either (Some w) s some f g = f refl

pub first_both : (xs ys : Entries) (c : ℕ) (a b r : Option (ℕ × WriteRec)) → IsFirstEntry xs c a → IsFirstEntry ys c b → IsLesserEntry a b r → IsFirstEntry (xs ++ ys) c r
first_both xs ys c None b r one two is = subst (IsFirstEntry (xs ++ ys) c) (sym is) (behind b two)
  where
    behind : (b : Option (ℕ × WriteRec)) → IsFirstEntry ys c b → IsFirstEntry (xs ++ ys) c b
    behind None two = λ k past. at_both xs ys k ∙ ap (λ q. option_or q (at_clock ys k)) (one k past) ∙ two k past
    behind (Some b) two = (
      two.0,
      at_both xs ys b.0 ∙ ap (λ q. option_or q (at_clock ys b.0)) (one b.0 two.0) ∙ two.1,
      λ k past some. two.2 k past (subst IsSome (at_both xs ys k ∙ ap (λ q. option_or q (at_clock ys k)) (one k past)) some),
    )
first_both xs ys c (Some a) None r one two is = subst (IsFirstEntry (xs ++ ys) c) (sym is) (
  one.0,
  at_both xs ys a.0 ∙ ap (λ q. option_or q (at_clock ys a.0)) one.1,
  λ k past some. one.2 k past (subst IsSome (at_both xs ys k ∙ ap (option_or (at_clock xs k)) (two k past) ∙ alone (at_clock xs k)) some),
)
  where
    alone : (q : Option WriteRec) → option_or q None ≡ q
    alone None = refl
    alone (Some w) = refl
first_both xs ys c (Some a) (Some b) r one two is = elim is [
  | inl first ↦ subst (IsFirstEntry (xs ++ ys) c) (sym first.0) (lesser_first xs ys c a b one two first.1)
  | inr second ↦ subst (IsFirstEntry (xs ++ ys) c) (sym second.0) (
    two.0,
    at_both xs ys b.0 ∙ ap (λ q. option_or q (at_clock ys b.0)) (none_of (at_clock xs b.0) (λ some. omega (arith, one.2 b.0 two.0 some, second.1))) ∙ two.1,
    λ k past some. either (at_clock xs k) (at_clock ys k) (subst IsSome (at_both xs ys k) some) (λ there. omega (arith, second.1, one.2 k past there)) (two.2 k past),
  )
]
  where
    either : {P : Type 0} (r s : Option WriteRec) → IsSome (option_or r s) → (IsSome r → P) → (IsSome s → P) → P
    either None s some f g = g some
    either (Some w) s some f g = f refl

-- what the ordered map says of its first entry above a clock
pub first_late : (ys : Entries) (c : ℕ) (r : Option (ℕ × Bor WriteRec)) → IfSome r (λ e. at_clock ys e.0 ≡ Some e.1.now) → IfSome r (λ e. c < e.0) → IfSome r (λ e. (d : ℕ) → IsLtBy nat_cmp c d → IsSome (at_clock ys d) → IsLeBy nat_cmp e.0 d) → IfNone r ((d : ℕ) → IsLtBy nat_cmp c d → at_clock ys d ≡ None) → IsFirstEntry ys c (entry_of r)
first_late ys c None entry above first none = λ k past. none k (less_key c k past)
first_late ys c (Some e) entry above first none = (above, entry, λ k past some. key_up_to e.0 k (first k (less_key c k past) some))

-- no write stands in no entries
pub no_late : (ys : Entries) → length ys ≡ 0 → (c : ℕ) → at_clock ys c ≡ None
no_late [] none c = refl
no_late (e ∷ ys) none c = absurd (omega (arith, none))

-- ---- an entry more

pub past_last : (cs : List ℕ) (c e : ℕ) → Rise cs → nat_lt (get_or cs (length cs - 1) e) c ≡ true → (k d : ℕ) → k < length cs → get_or cs k d < c
past_last cs c e rise past k d lt = elim (less_or k (length cs - 1)) [
  | inl before ↦ omega (arith, rise k (length cs - 1) d before (omega (arith, lt)), last, less (get_or cs (length cs - 1) e) past)
  | inr from ↦ let same : k ≡ length cs - 1 = omega (arith, lt, from) in omega (arith, ap (λ i. get_or cs i d) same, last, less (get_or cs (length cs - 1) e) past)
]
  where
    last : get_or cs (length cs - 1) d ≡ get_or cs (length cs - 1) e
    last = get_or_default cs (length cs - 1) d e (omega (arith, lt))

    less : (a : ℕ) → nat_lt a c ≡ true → a < c
    less a t = grind (arith, nat_tests)

-- a clock and its write are pushed
pub zip_pushed : (cs new : List ℕ) (ws more : List WriteRec) (k : ℕ) (w : WriteRec) → length cs ≡ length ws → new ≡ cs ++ k ∷ [] → more ≡ ws ++ w ∷ [] → zip new more ≡ zip cs ws ++ (k, w) ∷ []
zip_pushed cs new ws more k w pairs is those = (λ i. zip (is i) (those i)) ∙ behind cs ws pairs
  where
    behind : (cs : List ℕ) (ws : List WriteRec) → length cs ≡ length ws → zip (cs ++ k ∷ []) (ws ++ w ∷ []) ≡ zip cs ws ++ (k, w) ∷ []
    behind [] [] pairs = refl
    behind [] (v ∷ ws) pairs = absurd (omega (arith, pairs))
    behind (c ∷ cs) [] pairs = absurd (omega (arith, pairs))
    behind (c ∷ cs) (v ∷ ws) pairs = ap (λ l. (c, v) ∷ l) (behind cs ws (omega (arith, pairs)))

one_more : (q : Option WriteRec) (c k : ℕ) (w : WriteRec) (r : Option WriteRec) → (k ≡ c → option_or q r ≡ None) → option_or (option_or q (cond (is_eq (nat_cmp c k)) (Some w) None)) r ≡ cond (is_eq (nat_cmp k c)) (Some w) (option_or q r)
one_more q c k w r none = elim (this_or c k) [
  | inl here ↦
      let nothing : option_or q r ≡ None = none (sym here) in
      ap (λ b. option_or (option_or q (cond b (Some w) None)) r) (this_key c k here) ∙ found q r nothing ∙ ap (λ b. cond b (Some w) (option_or q r)) (sym (this_key k c (sym here)))
  | inr other ↦
      ap (λ b. option_or (option_or q (cond b (Some w) None)) r) other ∙ ap (λ x. option_or x r) (alone q) ∙ ap (λ b. cond b (Some w) (option_or q r)) (sym (turned c k other))
]
  where
    found : (q r : Option WriteRec) → option_or q r ≡ None → option_or (option_or q (Some w)) r ≡ Some w
    found None r h = refl
    found (Some x) r h = absurd (some_none x h)

    alone : (q : Option WriteRec) → option_or q None ≡ q
    alone None = refl
    alone (Some x) = refl

    turned : (c k : ℕ) → is_eq (nat_cmp c k) ≡ false → is_eq (nat_cmp k c) ≡ false
    turned c k h = grind (arith, nat_tests)

pub pushed : (xs new ys : Entries) (k c : ℕ) (w : WriteRec) → at_clock (xs ++ ys) k ≡ None → new ≡ xs ++ (k, w) ∷ [] → at_clock (new ++ ys) c ≡ cond (is_eq (nat_cmp k c)) (Some w) (at_clock (xs ++ ys) c)
pushed xs new ys k c w none is =
    ap (λ l. at_clock (l ++ ys) c) is
    ∙ at_both (xs ++ (k, w) ∷ []) ys c
    ∙ ap (λ q. option_or q (at_clock ys c)) (at_both xs ((k, w) ∷ []) c)
    ∙ one_more (at_clock xs c) c k w (at_clock ys c) (λ here. sym (at_both xs ys c) ∙ ap (at_clock (xs ++ ys)) (sym here) ∙ none)
    ∙ ap (cond (is_eq (nat_cmp k c)) (Some w)) (sym (at_both xs ys c))

pub count_pushed : (xs new ys : Entries) (k c : ℕ) (w : WriteRec) → new ≡ xs ++ (k, w) ∷ [] → count_above (new ++ ys) c ≤ count_above (xs ++ ys) c + 1
count_pushed xs new ys k c w is =
    omega (arith, ap (λ l. count_above (l ++ ys) c) is, count_both (xs ++ (k, w) ∷ []) ys c, count_both xs ((k, w) ∷ []) c, count_both xs ys c, count_more (k, w) [] c, small (nat_lt c k))
  where
    small : (b : Bool) → one b ≤ 1
    small true = omega arith
    small false = omega arith

pub count_inserted : (xs ys new : Entries) (k c : ℕ) (w : WriteRec) → new ≡ insert_entry nat_cmp ys k w → count_above (xs ++ new) c ≤ count_above (xs ++ ys) c + 1
count_inserted xs ys new k c w is = omega (arith, count_both xs new c, count_both xs ys c, ap (λ l. count_above l c) is, count_insert ys k w c)

pub inserted : (xs ys new : Entries) (k c : ℕ) (w : WriteRec) → at_clock (xs ++ ys) k ≡ None → at_clock new c ≡ cond (is_eq (nat_cmp k c)) (Some w) (at_clock ys c) → at_clock (xs ++ new) c ≡ cond (is_eq (nat_cmp k c)) (Some w) (at_clock (xs ++ ys) c)
inserted xs ys new k c w none is = at_both xs new c ∙ ap (option_or (at_clock xs c)) is ∙ by ∙ ap (cond (is_eq (nat_cmp k c)) (Some w)) (sym (at_both xs ys c))
  where
    nothing : (q r : Option WriteRec) → option_or q r ≡ None → option_or q (Some w) ≡ Some w
    nothing None r h = refl
    nothing (Some x) r h = absurd (some_none x h)

    by : option_or (at_clock xs c) (cond (is_eq (nat_cmp k c)) (Some w) (at_clock ys c)) ≡ cond (is_eq (nat_cmp k c)) (Some w) (option_or (at_clock xs c) (at_clock ys c))
    by = elim (this_or k c) [
      | inl here ↦
          let e = this_key k c here in
          ap (λ b. option_or (at_clock xs c) (cond b (Some w) (at_clock ys c))) e
          ∙ nothing (at_clock xs c) (at_clock ys c) (sym (at_both xs ys c) ∙ ap (at_clock (xs ++ ys)) (sym here) ∙ none)
          ∙ ap (λ b. cond b (Some w) (option_or (at_clock xs c) (at_clock ys c))) (sym e)
      | inr other ↦ ap (λ b. option_or (at_clock xs c) (cond b (Some w) (at_clock ys c))) other ∙ ap (λ b. cond b (Some w) (option_or (at_clock xs c) (at_clock ys c))) (sym other)
    ]

-- ---- entries less

kept : (test : ℕ → Bool) (es : Entries) (c : ℕ) → at_clock (filter (λ e. test e.0) es) c ≡ cond (test c) (at_clock es c) None
kept test es c = lookup-filter-keys (λ k. is_eq (nat_cmp c k)) test (test c) (λ k e. ap test (sym (same c k e))) es
  where
    same : (c k : ℕ) → is_eq (nat_cmp c k) ≡ true → c ≡ k
    same c k e = grind (arith, nat_tests)

both_kept : (test : Bool) (q r : Option WriteRec) → option_or (cond test q None) (cond test r None) ≡ cond test (option_or q r) None
both_kept true q r = refl
both_kept false q r = refl

-- none of the entries is that of the clock
whole : (es : Entries) (c : ℕ) → at_clock es c ≡ None → without c es ≡ es
whole [] c none = refl
whole (e ∷ es) c none = by (is_eq (nat_cmp c e.0)) (nat_eq e.0 c) (alike c e.0) none (whole es c)
  where
    alike : (a b : ℕ) → is_eq (nat_cmp a b) ≡ nat_eq b a
    alike a b = grind (arith, nat_tests)

    by : (a b : Bool) → a ≡ b → cond a (Some e.1) (at_clock es c) ≡ None → (at_clock es c ≡ None → without c es ≡ es) → cond (not b) (e ∷ without c es) (without c es) ≡ e ∷ es
    by true b same none more = absurd (some_none e.1 none)
    by false true same none more = cc
    by false false same none more = ap (λ l. e ∷ l) (more none)

pub without_both : (xs ys : Entries) (c : ℕ) → without c (xs ++ ys) ≡ without c xs ++ without c ys
without_both [] ys c = refl
without_both (e ∷ xs) ys c = by (nat_eq e.0 c) (without_both xs ys c)
  where
    by : (b : Bool) → without c (xs ++ ys) ≡ without c xs ++ without c ys → cond (not b) (e ∷ without c (xs ++ ys)) (without c (xs ++ ys)) ≡ cond (not b) (e ∷ without c xs) (without c xs) ++ without c ys
    by true h = h
    by false h = ap (λ l. e ∷ l) h

none_first : (xs ys : Entries) (c : ℕ) → at_clock (xs ++ ys) c ≡ None → at_clock xs c ≡ None
none_first xs ys c none = by (at_clock xs c) (at_clock ys c) (sym (at_both xs ys c) ∙ none)
  where
    by : (q r : Option WriteRec) → option_or q r ≡ None → q ≡ None
    by None r h = refl
    by (Some w) r h = absurd (some_none w h)

none_second : (xs ys : Entries) (c : ℕ) → at_clock (xs ++ ys) c ≡ None → at_clock ys c ≡ None
none_second xs ys c none = by (at_clock xs c) (at_clock ys c) (sym (at_both xs ys c) ∙ none)
  where
    by : (q r : Option WriteRec) → option_or q r ≡ None → r ≡ None
    by None r h = h
    by (Some w) r h = absurd (some_none w h)

alone : (k : ℕ) (w : WriteRec) → without k ((k, w) ∷ []) ≡ []
alone k w = ap (λ b. cond (not b) ((k, w) ∷ []) []) same
  where
    same : nat_eq k k ≡ true
    same = grind (arith, nat_tests)

nothing_behind : (xs : Entries) → xs ++ [] ≡ xs
nothing_behind [] = refl
nothing_behind (e ∷ xs) = ap (λ l. e ∷ l) (nothing_behind xs)

pub pushed_back : (xs new ys : Entries) (k : ℕ) (w : WriteRec) → at_clock (xs ++ ys) k ≡ None → new ≡ xs ++ (k, w) ∷ [] → without k (new ++ ys) ≡ xs ++ ys
pushed_back xs new ys k w none is =
    without_both new ys k
    ∙ ap (λ l. without k l ++ without k ys) is
    ∙ ap (λ l. l ++ without k ys) (without_both xs ((k, w) ∷ []) k ∙ ap (λ l. without k xs ++ l) (alone k w) ∙ nothing_behind (without k xs) ∙ whole xs k (none_first xs ys k none))
    ∙ ap (λ l. xs ++ l) (whole ys k (none_second xs ys k none))

placed_back : (ys : Entries) (k : ℕ) (w : WriteRec) → at_clock ys k ≡ None → without k (insert_entry nat_cmp ys k w) ≡ ys
placed_back [] k w none = alone k w
placed_back (e ∷ ys) k w none = placed (nat_cmp k e.0) refl none (placed_back ys k w) (whole (e ∷ ys) k none)
  where
    other : (a b : ℕ) → nat_cmp a b ≡ Greater → nat_eq b a ≡ false
    other a b h = grind (arith, nat_tests)

    first : (b : Bool) → b ≡ false → (l : Entries) → cond (not b) (e ∷ l) l ≡ e ∷ l
    first true h l = cc
    first false h l = refl

    placed : (o : Ordering) → nat_cmp k e.0 ≡ o → cond (is_eq o) (Some e.1) (at_clock ys k) ≡ None → (at_clock ys k ≡ None → without k (insert_entry nat_cmp ys k w) ≡ ys) → without k (e ∷ ys) ≡ e ∷ ys → without k (match_ordering o ((k, w) ∷ e ∷ ys) ((e.0, w) ∷ ys) (e ∷ insert_entry nat_cmp ys k w)) ≡ e ∷ ys
    placed Less at none more all = without_both ((k, w) ∷ []) (e ∷ ys) k ∙ ap (λ l. l ++ without k (e ∷ ys)) (alone k w) ∙ all
    placed Equal at none more all = absurd (some_none e.1 none)
    placed Greater at none more all = first (nat_eq e.0 k) (other k e.0 at) (without k (insert_entry nat_cmp ys k w)) ∙ ap (λ l. e ∷ l) (more none)

pub inserted_back : (xs ys new : Entries) (k : ℕ) (w : WriteRec) → at_clock (xs ++ ys) k ≡ None → new ≡ insert_entry nat_cmp ys k w → without k (xs ++ new) ≡ xs ++ ys
inserted_back xs ys new k w none is =
    without_both xs new k ∙ ap (λ l. l ++ without k new) (whole xs k (none_first xs ys k none)) ∙ ap (λ l. xs ++ l) (ap (without k) is ∙ placed_back ys k w (none_second xs ys k none))

pub taken_out : (xs new ys less : Entries) (c : ℕ) → new ≡ without c xs → less ≡ without c ys → new ++ less ≡ without c (xs ++ ys)
taken_out xs new ys less c is those = (λ i. is i ++ those i) ∙ sym (without_both xs ys c)

-- the clock is not in the list, or it is taken out with its write
pub zip_without : (cs : List ℕ) (ws : List WriteRec) (c : ℕ) → ((i d : ℕ) → i < length cs → get_or cs i d ≢ c) → zip cs ws ≡ without c (zip cs ws)
zip_without cs ws c other = sym (whole (zip cs ws) c (none_at cs ws c other))

pub zip_removed : (cs : List ℕ) (ws : List WriteRec) (at c d : ℕ) → Rise cs → length cs ≡ length ws → at < length cs → get_or cs at d ≡ c → zip (remove cs at) (remove ws at) ≡ without c (zip cs ws)
zip_removed [] ws at c d rise pairs lt here = absurd (omega (arith, lt))
zip_removed (k ∷ cs) [] at c d rise pairs lt here = absurd (omega (arith, pairs))
zip_removed (k ∷ cs) (w ∷ ws) zero c d rise pairs lt here =
    zip_without cs ws c (λ i e within same. omega (arith, rise 0 (suc i) e (omega arith) (omega (arith, within)), same, here))
    ∙ sym (ap (λ b. cond (not b) ((k, w) ∷ without c (zip cs ws)) (without c (zip cs ws))) (same_clock k here))
  where
    same_clock : (k : ℕ) → k ≡ c → nat_eq k c ≡ true
    same_clock k e = grind (arith, nat_tests)
zip_removed (k ∷ cs) (w ∷ ws) (suc at) c d rise pairs lt here =
    ap (λ l. (k, w) ∷ l) (zip_removed cs ws at c d (rise_tail k cs rise) (omega (arith, pairs)) (omega (arith, lt)) here)
    ∙ sym (ap (λ b. cond (not b) ((k, w) ∷ without c (zip cs ws)) (without c (zip cs ws))) (lower k (omega (arith, rise 0 (suc at) d (omega arith) lt, here))))
  where
    lower : (k : ℕ) → k < c → nat_eq k c ≡ false
    lower k lt = grind (arith, nat_tests)

-- ---- whether a clock has an entry

-- the slice is of the clocks
pub has_place : (slice cs : List ℕ) (ws : List WriteRec) (c : ℕ) (r : Option ℕ) → slice ≡ cs → Rise cs → length cs ≡ length ws → IfSome r (λ at. at < length slice) → IfSome r (λ at. (d : ℕ) → get_or slice at d ≡ c) → IfNone r ((k d : ℕ) → k < length slice → get_or slice k d ≢ c) → is_some r ≡ is_some (at_clock (zip cs ws) c)
has_place slice cs ws c None same rise pairs within found none =
    sym (ap is_some (none_at cs ws c (subst (λ (l : List ℕ). (k d : ℕ) → k < length l → get_or l k d ≢ c) same none)))
has_place slice cs ws c (Some at) same rise pairs within found none =
    there cs ws rise pairs (subst (λ (l : List ℕ). at < length l) same within) (subst (λ (l : List ℕ). (d : ℕ) → get_or l at d ≡ c) same found)
  where
    there : (cs : List ℕ) (ws : List WriteRec) → Rise cs → length cs ≡ length ws → at < length cs → ((d : ℕ) → get_or cs at d ≡ c) → true ≡ is_some (at_clock (zip cs ws) c)
    there [] ws rise pairs within found = absurd (omega (arith, within))
    there (k ∷ cs) [] rise pairs within found = absurd (omega (arith, pairs))
    there (k ∷ cs) (w ∷ ws) rise pairs within found =
        sym (ap is_some (ap (at_clock (zip (k ∷ cs) (w ∷ ws))) (sym (found k)) ∙ at_index (k ∷ cs) (w ∷ ws) at k w rise pairs within))

pub some_first : (xs ys : Entries) (c : ℕ) (a : Bool) → a ≡ true → a ≡ is_some (at_clock xs c) → a ≡ is_some (at_clock (xs ++ ys) c)
some_first xs ys c a has first = has ∙ by (at_clock xs c) (at_clock ys c) (sym has ∙ first) ∙ ap is_some (sym (at_both xs ys c))
  where
    by : (q r : Option WriteRec) → true ≡ is_some q → true ≡ is_some (option_or q r)
    by None r h = cc
    by (Some w) r h = refl

pub some_second : (xs ys : Entries) (c : ℕ) (a b : Bool) → a ≡ false → a ≡ is_some (at_clock xs c) → b ≡ is_some (at_clock ys c) → b ≡ is_some (at_clock (xs ++ ys) c)
some_second xs ys c a b no_first first second = second ∙ by (at_clock xs c) (at_clock ys c) (sym no_first ∙ first) ∙ ap is_some (sym (at_both xs ys c))
  where
    by : (q r : Option WriteRec) → false ≡ is_some q → is_some r ≡ is_some (option_or q r)
    by None r h = refl
    by (Some w) r h = cc

-- the clocks up to one are dropped with their writes
pub zip_dropped : (cs : List ℕ) (ws : List WriteRec) (n c : ℕ) → ((k d : ℕ) → k < n → get_or cs k d ≤ c) → ((k d : ℕ) → n ≤ k → k < length cs → c < get_or cs k d) → zip (drop n cs) (drop n ws) ≡ filter (λ e. nat_lt c e.0) (zip cs ws)
zip_dropped [] ws zero c within above = refl
zip_dropped [] ws (suc n) c within above = refl
zip_dropped (k ∷ cs) [] zero c within above = refl
zip_dropped (k ∷ cs) [] (suc n) c within above = nothing (drop n cs)
  where
    nothing : (l : List ℕ) → zip {X = WriteRec} l [] ≡ []
    nothing [] = refl
    nothing (x ∷ l) = refl
zip_dropped (k ∷ cs) (w ∷ ws) zero c within above =
    ap (λ l. (k, w) ∷ l) (zip_dropped cs ws zero c (λ i d lt. absurd (omega (arith, lt))) (λ i d from lt. above (suc i) d (omega arith) (omega (arith, lt))))
    ∙ sym (ap (λ b. cond b ((k, w) ∷ filter (λ e. nat_lt c e.0) (zip cs ws)) (filter (λ e. nat_lt c e.0) (zip cs ws))) (is_past k (above 0 k (omega arith) (omega arith))))
  where
    is_past : (k : ℕ) → c < k → nat_lt c k ≡ true
    is_past k lt = grind (arith, nat_tests)
zip_dropped (k ∷ cs) (w ∷ ws) (suc n) c within above =
    zip_dropped cs ws n c (λ i d lt. within (suc i) d (omega (arith, lt))) (λ i d from lt. above (suc i) d (omega (arith, from)) (omega (arith, lt)))
    ∙ sym (ap (λ b. cond b ((k, w) ∷ filter (λ e. nat_lt c e.0) (zip cs ws)) (filter (λ e. nat_lt c e.0) (zip cs ws))) (not_past k (within 0 k (omega arith))))
  where
    not_past : (k : ℕ) → k ≤ c → nat_lt c k ≡ false
    not_past k le = grind (arith, nat_tests)

count_kept : (test : ℕ → Bool) (es : Entries) (c : ℕ) → count_above (filter (λ e. test e.0) es) c ≤ count_above es c
count_kept test [] c = omega arith
count_kept test (e ∷ es) c = picked (test e.0) (count_kept test es c)
  where
    picked : (b : Bool) → count_above (filter (λ x. test x.0) es) c ≤ count_above es c → count_above (cond b (e ∷ filter (λ x. test x.0) es) (filter (λ x. test x.0) es)) c ≤ count_above (e ∷ es) c
    picked true so_far = omega (arith, count_more e es c, count_more e (filter (λ x. test x.0) es) c, so_far)
    picked false so_far = omega (arith, count_more e es c, so_far)

pub forgot : (clock : ℕ) (xs new ys less : Entries) → new ≡ filter (λ e. nat_lt clock e.0) xs → less ≡ filter (λ e. nat_lt clock e.0) ys → IsForgottenUpTo clock (xs ++ ys) (new ++ less)
forgot clock xs new ys less is those = record {
  gone = λ c within. left c ∙ ap (λ b. cond b (at_clock (xs ++ ys) c) None) (not_above c within);
  kept = λ c above. left c ∙ ap (λ b. cond b (at_clock (xs ++ ys) c) None) (is_past c above);
  few = λ c. omega (arith, count_both new less c, count_both xs ys c, count_kept (nat_lt clock) xs c, count_kept (nat_lt clock) ys c, ap (λ l. count_above l c) is, ap (λ l. count_above l c) those);
}
  where
    left : (c : ℕ) → at_clock (new ++ less) c ≡ cond (nat_lt clock c) (at_clock (xs ++ ys) c) None
    left c =
        at_both new less c
        ∙ ap (λ l. option_or (at_clock l c) (at_clock less c)) is
        ∙ ap (λ l. option_or (at_clock (filter (λ e. nat_lt clock e.0) xs) c) (at_clock l c)) those
        ∙ ap (λ q. option_or q (at_clock (filter (λ e. nat_lt clock e.0) ys) c)) (kept (nat_lt clock) xs c)
        ∙ ap (option_or (cond (nat_lt clock c) (at_clock xs c) None)) (kept (nat_lt clock) ys c)
        ∙ both_kept (nat_lt clock c) (at_clock xs c) (at_clock ys c)
        ∙ ap (λ q. cond (nat_lt clock c) q None) (sym (at_both xs ys c))

    not_above : (c : ℕ) → c ≤ clock → nat_lt clock c ≡ false
    not_above c within = grind (arith, nat_tests)

    is_past : (c : ℕ) → clock < c → nat_lt clock c ≡ true
    is_past c above = grind (arith, nat_tests)
