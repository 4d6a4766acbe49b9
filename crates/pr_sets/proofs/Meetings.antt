-- The turns of the loops that ask whether sets meet, and whether one lies within another.
use Rattle.std.proofs.Common.{◌≡◌, ℕ, zero, suc, ◌+◌, ◌<◌, ◌≤◌, Bool, true, false, refl, sym, ap, ◌∙◌, subst, arith, inl, inr, List, [], ◌∷◌, drop, length, length-drop, get_or}
use Rattle.std.specs.Prelude.{◌||◌, ◌&&◌, ◌==◌, ◌↔◌, IsTrue}
use Rattle.std.proofs.lemmas.Bool.{false≢true}
use Rattle.std.proofs.lemmas.Bool.Decides.{leb_tells, eqb_tells}
use Rattle.pr_names.specs.Span.{Overlap, Span, IsSpan, holds}
use Rattle.pr_names.proofs.Overlaps.{overlap_of}
use Rattle.pr_names.proofs.Place.{place, from_place, to_place}
use Rattle.pr_names.proofs.Places.{bound_most, holds_tells, span_some}
use Rattle.pr_sets.specs.Spans.{has, IsSet, Meet, Within}
use Rattle.pr_sets.proofs.Apart.{Apart, apart_of, drop_apart}
use Rattle.pr_sets.proofs.SpanEnds.{shared_tells}
use Rattle.pr_sets.proofs.Intersections.{shared_is}
use Rattle.pr_sets.proofs.Parts.{shared_list, shared_of}
use Rattle.pr_sets.proofs.Same.{has_first, has_from, holds_at, holds_not, is_reached, none_before}
use Rattle.pr_sets.proofs.Turns.{drop_is, drop_past}

-- intervals that do not overlap share nothing
pub nothing_shared : (s t : Span) → IsSpan s → IsSpan t → (Overlap s t → ⊥) → [] ≡ shared_list s t
nothing_shared s t hs ht apart = elim (shared_tells s t hs ht) [
  | inl u ↦ absurd (let some = span_some u.0 u.1.is_span in apart (overlap_of s t hs ht (omega (arith, u.1.from, u.1.to)) (omega (arith, u.1.from, u.1.to))))
  | inr g ↦ sym g.0
]

-- sets that share nothing do not meet
pub none_shared : (a b : List Span) → IsSet a → IsSet b → [] ≡ shared_of a b → Meet (has a) (has b) → ⊥
none_shared a b ha hb h m =
    false≢true (ap (λ us. has us m.0) h ∙ (shared_is a b ha hb).names m.0 m.1 ∙ ap (λ t. t && has b m.0) m.2 ∙ m.3)

or_true : (b : Bool) → (b || true) ≡ true
or_true true = refl
or_true false = refl

in_rest : (s : Span) (ss : List Span) (x : List ℕ) → has ss x ≡ true → has (s ∷ ss) x ≡ true
in_rest s ss x h = ap (λ b. holds s x || b) h ∙ or_true (holds s x)

has_among : (ss : List Span) (i : ℕ) (s : Span) (x : List ℕ) → i < length ss → s ≡ get_or ss i s → holds s x ≡ true → has ss x ≡ true
has_among [] i s x lt is h = absurd (omega arith)
has_among (t ∷ ts) zero s x lt is h = ap (λ b. b || has ts x) (ap (λ u. holds u x) (sym is) ∙ h)
has_among (t ∷ ts) (suc i) s x lt is h = in_rest t ts x (has_among ts i s x (omega arith) is h)

-- sets meet where two of their intervals overlap
pub overlap_meets : (a b : List Span) (i j : ℕ) (s t : Span) → i < length a → j < length b → s ≡ get_or a i s → t ≡ get_or b j t → Overlap s t → Meet (has a) (has b)
overlap_meets a b i j s t la lb is it o = (o.0, o.1, has_among a i s o.0 la is o.2, has_among b j t o.0 lb it o.3)

pub span_at : (ss : List Span) (i : ℕ) (s : Span) → IsSet ss → i < length ss → s ≡ get_or ss i s → IsSpan s
span_at [] i s h lt is = absurd (omega arith)
span_at (t ∷ ts) zero s h lt is = let P : Span → Type 0 = λ u. IsSpan u in subst P (sym is) h.0
span_at (t ∷ ts) (suc i) s h lt is = span_at ts i s h.2 (omega arith) is

-- an interval that ends before one of the left set is not used any more
right_passed : (p q : ℕ) (s : Span) (ss : List Span) (t : Span) (ts : List Span) → Apart p (s ∷ ss) → Apart q (t ∷ ts) → to_place t < to_place s → Within (has (s ∷ ss)) (has (t ∷ ts)) ↔ Within (has (s ∷ ss)) (has ts)
right_passed p q s ss t ts hs ht lt = (
  λ h x hx hit. elim (leb_tells (to_place t) (place x)) [
    | inl g ↦ sym (holds_not t ts x ht.1 hx g.1) ∙ h x hx hit
    | inr g ↦
        let w = is_reached t.hi (to_place s) ht.1.hi lt (bound_most s.hi hs.1.hi) in
        let from : from_place s ≤ place x = has_from (from_place s) (s ∷ ss) x (omega arith, hs.1, hs.2) hx hit in
        let yes : has (t ∷ ts) w.0 ≡ true = h w.0 w.1 (holds_at s ss w.0 hs.1 w.1 (omega (arith, w.2, from, g.1)) (omega (arith, w.2, lt))) in
        let no : has (t ∷ ts) w.0 ≡ false = holds_not t ts w.0 ht.1 w.1 (omega (arith, w.2)) ∙ none_before (to_place t + 1) ts w.0 ht.2 w.1 (omega (arith, w.2)) in
        absurd (false≢true (sym no ∙ yes))
  ],
  λ h x hx hit. in_rest t ts x (h x hx hit),
)

-- an interval that lies in one of the right set is done with
left_passed : (p q : ℕ) (s : Span) (ss : List Span) (t : Span) (ts : List Span) → Apart p (s ∷ ss) → Apart q (t ∷ ts) → to_place s ≤ to_place t → from_place t ≤ from_place s → Within (has (s ∷ ss)) (has (t ∷ ts)) ↔ Within (has ss) (has (t ∷ ts))
left_passed p q s ss t ts hs ht le from = (
  λ h x hx hit. h x hx (in_rest s ss x hit),
  λ h x hx hit. elim (holds_tells s x hs.1 hx) [
    | inl e ↦ holds_at t ts x ht.1 hx (omega (arith, e.1)) (omega (arith, e.2))
    | inr e ↦ h x hx (rw e.0 at hit)
  ],
)

-- a name before all others is in none
stands_out : (p q : ℕ) (s : Span) (ss : List Span) (ts : List Span) → Apart p (s ∷ ss) → Apart q ts → from_place s < q → Within (has (s ∷ ss)) (has ts) → ⊥
stands_out p q s ss ts hs ht lt h =
    false≢true (sym (none_before q ts s.lo ht hs.1.lo lt) ∙ h s.lo hs.1.lo (has_first p s ss hs))

-- ---- turns

-- two intervals that stand next, and that what is left answers the question
pub record Facing (a b : List Span) (i j : ℕ) (s t : Span) : Type 0 where
  pub left_set : IsSet a
  pub right_set : IsSet b
  pub left : i < length a
  pub right : j < length b
  pub left_is : s ≡ get_or a i s
  pub right_is : t ≡ get_or b j t
  pub told : Within (has (drop i a)) (has (drop j b)) ↔ Within (has a) (has b)

-- the same, with both lists written out
record Opened (a b : List Span) (i j : ℕ) (s t : Span) : Type 0 where
  at : ℕ
  other : ℕ
  left : Apart at (s ∷ drop (i + 1) a)
  right : Apart other (t ∷ drop (j + 1) b)
  front : drop i a ≡ s ∷ drop (i + 1) a
  back : drop j b ≡ t ∷ drop (j + 1) b
  told : Within (has (s ∷ drop (i + 1) a)) (has (t ∷ drop (j + 1) b)) ↔ Within (has a) (has b)

opened : (a b : List Span) (i j : ℕ) (s t : Span) → Facing a b i j s t → Opened a b i j s t
opened a b i j s t h =
    let front = drop_is a i s h.left h.left_is in
    let back = drop_is b j t h.right h.right_is in
    let left = drop_apart i 0 a (apart_of a h.left_set) in
    let right = drop_apart j 0 b (apart_of b h.right_set) in
    let P : List Span → Type 0 = λ us. Apart left.0 us in
    let Q : List Span → Type 0 = λ us. Apart right.0 us in
    let F : List Span → Type 0 = λ us. Within (has us) (has (drop j b)) ↔ Within (has a) (has b) in
    let G : List Span → Type 0 = λ us. Within (has (s ∷ drop (i + 1) a)) (has us) ↔ Within (has a) (has b) in
    record {
      at = left.0;
      other = right.0;
      left = subst P front left.1;
      right = subst Q back right.1;
      front = front;
      back = back;
      told = subst G back (subst F front h.told);
    }

pub right_step : (a b : List Span) (i j : ℕ) (s t : Span) → Facing a b i j s t → to_place t < to_place s → Within (has (drop i a)) (has (drop (j + 1) b)) ↔ Within (has a) (has b)
right_step a b i j s t h lt =
    let o = opened a b i j s t h in
    let step = right_passed o.at o.other s (drop (i + 1) a) t (drop (j + 1) b) o.left o.right lt in
    let F : List Span → Type 0 = λ us. Within (has us) (has (drop (j + 1) b)) ↔ Within (has a) (has b) in
    subst F (sym o.front) (λ g. o.told.0 (step.1 g), λ g. step.0 (o.told.1 g))

pub left_step : (a b : List Span) (i j : ℕ) (s t : Span) → Facing a b i j s t → to_place s ≤ to_place t → from_place t ≤ from_place s → Within (has (drop (i + 1) a)) (has (drop j b)) ↔ Within (has a) (has b)
left_step a b i j s t h le from =
    let o = opened a b i j s t h in
    let step = left_passed o.at o.other s (drop (i + 1) a) t (drop (j + 1) b) o.left o.right le from in
    let F : List Span → Type 0 = λ us. Within (has (drop (i + 1) a)) (has us) ↔ Within (has a) (has b) in
    subst F (sym o.back) (λ g. o.told.0 (step.1 g), λ g. step.0 (o.told.1 g))

pub not_within : (a b : List Span) (i j : ℕ) (s t : Span) → Facing a b i j s t → from_place s < from_place t → Within (has a) (has b) → ⊥
not_within a b i j s t h lt g =
    let o = opened a b i j s t h in
    stands_out o.at (from_place t) s (drop (i + 1) a) (t ∷ drop (j + 1) b) o.left (omega arith, o.right.1, o.right.2) lt (o.told.1 g)

none_within : (p : ℕ) (ss : List Span) → Apart p ss → 0 < length ss → Within (has ss) (has []) → ⊥
none_within p [] h lt w = absurd (omega arith)
none_within p (s ∷ ss) h lt w = false≢true (w s.lo h.1.lo (has_first p s ss h))

pub within_end : (a b : List Span) (i j : ℕ) (r : Bool) → IsSet a → i ≤ length a → (i < length a → length b ≤ j) → r ≡ (i == length a) → Within (has (drop i a)) (has (drop j b)) ↔ Within (has a) (has b) → IsTrue r ↔ Within (has a) (has b)
within_end a b i j r ha le past e told = elim (eqb_tells i (length a)) [
  | inl g ↦ (λ h. told.0 (λ x hx hit. absurd (false≢true (ap (λ us. has us x) (sym (drop_past i a (omega (arith, g.1)))) ∙ hit))), λ h. e ∙ g.0)
  | inr g ↦
      let lt : i < length a = omega (arith, g.1, le) in
      let found = drop_apart i 0 a (apart_of a ha) in
      let S : List Span → Type 0 = λ vs. Within (has (drop i a)) (has vs) in (
        λ h. absurd (false≢true (sym g.0 ∙ sym e ∙ h)),
        λ h. absurd (none_within found.0 (drop i a) found.1 (omega (arith, length-drop i a, lt)) (subst S (drop_past j b (past lt)) (told.1 h))),
      )
]
