-- The turns of the loop that reads sets, and intervals put in order.
use Rattle.std.proofs.Common.{◌≡◌, ℕ, suc, ◌+◌, ◌-◌, ◌<◌, ◌≤◌, ◌⊎◌, Bool, true, false, refl, sym, ap, ◌∙◌, subst, arith, inl, inr, List, [], ◌∷◌, ◌++◌, length, take, drop, length-drop, get_or}
use Rattle.std.specs.Prelude.{◌==◌, not, nat_lt, cond, Some, None, Result, Ok, Err, IfErr, All, count_by, ◌||◌}
use Rattle.std.specs.List.{position, position_or_len, onto_first, list_any}
use Rattle.std.specs.List.Sorted.{IsPermutation, IsSortedByKey}
use Rattle.std.specs.Cmp.Lexicographic.{slice_cmp}
use Rattle.std.specs.Result.{IsErrAnd}
use Rattle.std.specs.Ordering.{is_lt, nat_cmp}
use Rattle.std.proofs.lemmas.Bool.Decides.{leb_tells}
use Rattle.std.proofs.lemmas.List.{take_all}
use Rattle.std.proofs.lemmas.List.Elements.{All-head, All-tail}
use Rattle.std.proofs.lemmas.List.Sorted.{All-permutation, list_any-IsPermutation}
use Rattle.std.proofs.lemmas.List.Splits.{slice_split_first, length-slice_split}
use Rattle.std.specs.Str.{bytes_eq}
use Rattle.pr_names.specs.Order.{name_lt}
use Rattle.pr_names.specs.Span.{Span, IsSpan, holds}
use Rattle.pr_names.specs.Text.{interval_read}
use Rattle.pr_names.specs.declared.fault.IntervalFault.{IntervalFault}
use Rattle.pr_names.proofs.Place.{from_place}
use Rattle.pr_names.proofs.Places.{lt_cmp, lt_tells}
use Rattle.pr_sets.specs.Joining.{puts}
use Rattle.pr_sets.specs.Spans.{has, IsSet}
use Rattle.pr_sets.specs.Text.{items, items_read, list_of, listed, set_read, with_item}
use Rattle.pr_sets.specs.declared.fault.SetFault.{SetFault}
use Rattle.pr_sets.specs.declared.fault.SetFault.TheVariants.{Item, NoMemory, TooMany}
use Rattle.pr_sets.proofs.Adding.{Spans, list_is}
use Rattle.pr_sets.proofs.Apart.{set_of}
use Rattle.pr_sets.proofs.Joins.{Ready, Rising, puts_keep, puts_names}
use Rattle.pr_sets.proofs.Same.{same_list}

-- ---- items

-- where a comma is found
found_is : (p : ℕ → Bool) (bs : List ℕ) (at : ℕ) → Some at ≡ position p bs → (at ≡ position_or_len p bs) × (position_or_len p bs < length bs)
found_is p bs at h = elim (leb_tells (suc (position_or_len p bs)) (length bs)) [
  | inl e ↦ let g = rw e.0 at h in (cc, omega (arith, e.1))
  | inr e ↦ let g = rw e.0 at h in absurd (cc)
]

items_cut : (bs : List ℕ) (at : ℕ) → Some at ≡ position (λ b. b == 44) bs → items bs ≡ take at bs ∷ items (drop (at + 1) bs)
items_cut bs at h =
    let found = found_is (λ b. b == 44) bs at h in
    slice_split_first (λ b. b == 44) bs 0 found.1
    ∙ ap (λ i. take i bs ∷ items (drop (i + 1) bs)) (sym found.0)

uncut : (b : Bool) (m l : ℕ) → suc l ≤ cond (not b) (1 + m) 0 → (b ≡ false) × (l ≤ m)
uncut false m l h = (refl, omega arith)
uncut true m l h = absurd (omega arith)

items_whole : (bs : List ℕ) → length bs ≤ position_or_len (λ b. b == 44) bs → items bs ≡ bs ∷ []
items_whole [] h = refl
items_whole (b ∷ bs) h =
    let more = uncut (b == 44) (position_or_len (λ c. c == 44) bs) (length bs) h in
    ap (λ t. cond t ([] ∷ items bs) (onto_first b (items bs))) more.0 ∙ ap (onto_first b) (items_whole bs more.1)

items_last : (bs : List ℕ) → None ≡ position (λ b. b == 44) bs → items bs ≡ bs ∷ []
items_last bs h = elim (leb_tells (suc (position_or_len (λ b. b == 44) bs)) (length bs)) [
  | inl e ↦ let g = rw e.0 at h in absurd (cc)
  | inr e ↦ items_whole bs (omega (arith, e.1))
]

rest_is : (bs : List ℕ) (i : ℕ) → take (length bs - i) (drop i bs) ≡ drop i bs
rest_is bs i = take_all (length bs - i) (drop i bs) (simp length-drop (omega arith))

pub rest_shorter : (bs : List ℕ) (at : ℕ) → at < length bs → length (take (length bs - (at + 1)) (drop (at + 1) bs)) + 1 ≤ length bs
rest_shorter bs at lt = omega (arith, ap length (rest_is bs (at + 1)), length-drop (at + 1) bs)

pub item_turn : (bs : List ℕ) (at k : ℕ) (parts new : List Span) (s : Span) (all : Result (List Span) SetFault) → Some at ≡ position (λ b. b == 44) bs → Ok s ≡ interval_read (take at bs) → new ≡ parts ++ s ∷ [] → items_read (items bs) k parts ≡ all → items_read (items (take (length bs - (at + 1)) (drop (at + 1) bs))) (k + 1) new ≡ all
unfolding items_read
item_turn bs at k parts new s all found is e told =
    ap (λ us. items_read (items us) (k + 1) new) (rest_is bs (at + 1))
    ∙ ap (items_read (items (drop (at + 1) bs)) (k + 1)) e
    ∙ ap (λ r. with_item k r (λ t. items_read (items (drop (at + 1) bs)) (k + 1) (parts ++ t ∷ []))) is
    ∙ ap (λ us. items_read us k parts) (sym (items_cut bs at found))
    ∙ told

pub item_fault : (bs : List ℕ) (at k : ℕ) (parts : List Span) (e : IntervalFault) (all : Result (List Span) SetFault) → Some at ≡ position (λ b. b == 44) bs → Err e ≡ interval_read (take at bs) → items_read (items bs) k parts ≡ all → all ≡ Err (Item k e)
unfolding items_read
item_fault bs at k parts e all found is told =
    sym told
    ∙ ap (λ us. items_read us k parts) (items_cut bs at found)
    ∙ ap (λ r. with_item k r (λ t. items_read (items (drop (at + 1) bs)) (k + 1) (parts ++ t ∷ []))) (sym is)

pub last_turn : (bs : List ℕ) (k : ℕ) (parts new : List Span) (s : Span) (all : Result (List Span) SetFault) → None ≡ position (λ b. b == 44) bs → Ok s ≡ interval_read bs → new ≡ parts ++ s ∷ [] → items_read (items bs) k parts ≡ all → all ≡ Ok new
unfolding items_read
last_turn bs k parts new s all none is e told =
    sym told
    ∙ ap (λ us. items_read us k parts) (items_last bs none)
    ∙ ap (λ r. with_item k r (λ t. items_read [] (k + 1) (parts ++ t ∷ []))) (sym is)
    ∙ ap Ok (sym e)

pub last_fault : (bs : List ℕ) (k : ℕ) (parts : List Span) (e : IntervalFault) (all : Result (List Span) SetFault) → None ≡ position (λ b. b == 44) bs → Err e ≡ interval_read bs → items_read (items bs) k parts ≡ all → all ≡ Err (Item k e)
unfolding items_read
last_fault bs k parts e all none is told =
    sym told
    ∙ ap (λ us. items_read us k parts) (items_last bs none)
    ∙ ap (λ r. with_item k r (λ t. items_read [] (k + 1) (parts ++ t ∷ []))) (sym is)

-- ---- the whole text

pub too_many : (bs : List ℕ) (most : ℕ) → bytes_eq bs (126 ∷ []) ≡ false → most ≤ count_by (λ b. b == 44) bs → set_read bs most ≡ Err TooMany
unfolding set_read
too_many bs most h le =
    ap (λ t. cond t (Ok []) (cond (nat_lt most (length (items bs))) (Err TooMany) (listed (items_read (items bs) 0 [])))) h
    ∙ elim (leb_tells (suc most) (length (items bs))) [ inl e ↦ rw e.0 refl | inr e ↦ absurd (omega (arith, e.1, length-slice_split (λ b. b == 44) bs)) ]

pub few_enough : (bs : List ℕ) (most : ℕ) (all : Result (List Span) SetFault) → bytes_eq bs (126 ∷ []) ≡ false → count_by (λ b. b == 44) bs < most → items_read (items bs) 0 [] ≡ all → set_read bs most ≡ listed all
unfolding set_read
few_enough bs most all h lt e =
    ap (λ t. cond t (Ok []) (cond (nat_lt most (length (items bs))) (Err TooMany) (listed (items_read (items bs) 0 [])))) h
    ∙ elim (leb_tells (suc most) (length (items bs))) [ inl g ↦ absurd (omega (arith, g.1, length-slice_split (λ b. b == 44) bs)) | inr g ↦ rw g.0 (ap listed e) ]

-- ---- intervals put in order

pub spans_of : (ss : List Span) → All IsSpan ss → Spans ss
spans_of [] h = tt
spans_of (s ∷ ss) h = (All-head IsSpan s ss h, spans_of ss (All-tail IsSpan s ss h))

has_any : (ss : List Span) (x : List ℕ) → has ss x ≡ list_any (λ s. holds s x) ss
has_any [] x = refl
has_any (s ∷ ss) x = ap (λ b. holds s x || b) (has_any ss x)

same_reordered : (ss ts : List Span) (x : List ℕ) → IsPermutation ss ts → has ss x ≡ has ts x
same_reordered ss ts x h = has_any ss x ∙ list_any-IsPermutation (λ s. holds s x) ss ts h ∙ sym (has_any ts x)

-- no interval begins before the one in front of it
abbrev pub InOrder : List Span → Type 0
InOrder ss = (k i : ℕ) (d : Span) → i ≡ k + 1 → i < length ss → name_lt (get_or ss i d).lo (get_or ss k d).lo ≡ false

rising_in_order : (s : Span) (ss : List Span) → Spans (s ∷ ss) → InOrder (s ∷ ss) → Rising (from_place s) ss
rising_in_order s [] h o = tt
rising_in_order s (t ∷ ts) h o =
    let le : from_place s ≤ from_place t = elim (lt_tells t.lo s.lo h.1.0.lo h.0.lo) [ inl g ↦ absurd (let f : name_lt t.lo s.lo ≡ false = o 0 1 s (omega arith) (omega arith) in cc) | inr g ↦ g.1 ] in
    (le, h.1.0, rising_in_order t ts h.1 (λ k i d e lt. o (suc k) (suc i) d (omega arith) (omega arith)))

ready_in_order : (ss : List Span) → Spans ss → InOrder ss → Ready [] ss
ready_in_order [] h o = record { at = 0; begin = tt; rise = tt }
ready_in_order (s ∷ ss) h o = record { at = 0; begin = tt; rise = (omega arith, h.0, rising_in_order s ss h o) }

-- intervals in order, joined where they overlap or touch, are the one list of all their names
pub joined_in_order : (parts ordered set : List Span) → All IsSpan parts → IsPermutation parts ordered → InOrder ordered → set ≡ puts [] ordered → (set ≡ list_of parts) × IsSet set
joined_in_order parts ordered set all moved o is =
    let spans = spans_of ordered (All-permutation IsSpan parts ordered moved all) in
    let ready = ready_in_order ordered spans o in
    let P : List Span → Type 0 = λ us. IsSet us in
    let is_set : IsSet set = subst P (sym is) (set_of 0 (puts [] ordered) (puts_keep [] ordered tt ready)) in
    let whole = list_is parts (spans_of parts all) in (
      same_list set (list_of parts) is_set whole.set (λ x hx.
          ap (λ us. has us x) is
          ∙ puts_names [] ordered x tt ready hx
          ∙ sym (same_reordered parts ordered x moved)
          ∙ sym (whole.names x hx)),
      is_set,
    )

-- what the sort by starts gives
pub in_order_of : (ss : List Span) → IsSortedByKey (λ s. s.lo) (slice_cmp nat_cmp) ss → InOrder ss
in_order_of ss h k i d e lt =
    lt_cmp (get_or ss i d).lo (get_or ss k d).lo
    ∙ ap (λ n. is_lt (slice_cmp nat_cmp (get_or ss n d).lo (get_or ss k d).lo)) e
    ∙ h k d (omega arith) (omega arith)

-- the whole text, from what its items give
pub none_read : (bs : List ℕ) (most : ℕ) → bytes_eq bs (126 ∷ []) ≡ true → set_read bs most ≡ Ok []
unfolding set_read
none_read bs most h = ap (λ t. cond t (Ok []) (cond (nat_lt most (length (items bs))) (Err TooMany) (listed (items_read (items bs) 0 [])))) h

-- a fault that is handed on
pub handed_on : (r : Result (List Span) SetFault) (f : SetFault) (P : SetFault → Type 0) → IsErrAnd r (λ g. g ≡ f) → P f → IfErr r P
handed_on (Ok set) f P h p = absurd h
handed_on (Err e) f P h p = subst P (sym h) p

pub item_refused : (bs : List ℕ) (most : ℕ) (f : SetFault) → bytes_eq bs (126 ∷ []) ≡ false → count_by (λ b. b == 44) bs < most → ((f ≡ NoMemory) ⊎ (items_read (items bs) 0 [] ≡ Err f)) → (f ≡ NoMemory) ⊎ (set_read bs most ≡ Err f)
item_refused bs most f h lt (inl e) = inl e
item_refused bs most f h lt (inr e) = inr (few_enough bs most (Err f) h lt e)
