-- Turns of the loops over intervals.
use Rattle.std.proofs.Common.{◌≡◌, ℕ, zero, suc, ◌+◌, ◌<◌, ◌≤◌, refl, sym, ap, ◌∙◌, subst, arith, List, [], ◌∷◌, ◌++◌, ◌-◌, take, drop, length, length-drop, get_or, append_assoc, add-one, drop-cons}
use Rattle.std.specs.Prelude.{Option}
use Rattle.std.specs.Option.{option_to_list}
use Rattle.std.proofs.lemmas.List.{append-nil, take_all}
use Rattle.pr_names.specs.Span.{Span}
use Rattle.pr_names.specs.declared.bound.Bound.{Bound}
use Rattle.pr_names.specs.declared.bound.Bound.TheVariants.{At, End}
use Rattle.pr_names.proofs.Place.{to_place}
use Rattle.pr_sets.specs.Ends.{gap}
use Rattle.pr_sets.specs.Spans.{IsSet}
use Rattle.pr_sets.proofs.Apart.{Apart, apart_of, drop_apart}
use Rattle.pr_sets.proofs.Intersections.{left_done, right_done}
use Rattle.pr_sets.proofs.Parts.{gaps_from, shared_list, shared_of, shared_with}

pub drop_is : (ss : List Span) (i : ℕ) (s : Span) → i < length ss → s ≡ get_or ss i s → drop i ss ≡ s ∷ drop (i + 1) ss
drop_is ss i s lt is =
    drop-cons ss i s lt
    ∙ ap (λ u. u ∷ drop (suc i) ss) (sym is)
    ∙ ap (λ n. s ∷ drop n ss) (sym (add-one i))

pub drop_past : (i : ℕ) (ss : List Span) → length ss ≤ i → drop i ss ≡ []
drop_past zero [] h = refl
drop_past zero (s ∷ ss) h = absurd (omega arith)
drop_past (suc i) [] h = refl
drop_past (suc i) (s ∷ ss) h = drop_past i ss (omega arith)

-- an interval's gap is found, and the rest is still to find
pub gaps_turn : (parts : List Span) (i : ℕ) (s : Span) (b : Bound) (n : List ℕ) (h : Bound) (out new all : List Span) (r : Option Span) → i < length parts → s ≡ get_or parts i s → n ≡ s.lo → h ≡ s.hi → option_to_list r ≡ gap b (At n) → new ≡ out ++ option_to_list r → out ++ gaps_from (drop i parts) b ≡ all → new ++ gaps_from (drop (i + 1) parts) h ≡ all
unfolding gaps_from
gaps_turn parts i s b n h out new all r lt is en eh er ew told =
    rw (ew, er, en, eh)
    (append_assoc out (gap b (At s.lo)) (gaps_from (drop (i + 1) parts) s.hi)
    ∙ ap (λ ss. out ++ gaps_from ss b) (sym (drop_is parts i s lt is)) ∙ told)

pub gaps_end : (parts : List Span) (i : ℕ) (b : Bound) (out new all : List Span) (r : Option Span) → length parts ≤ i → option_to_list r ≡ gap b End → new ≡ out ++ option_to_list r → out ++ gaps_from (drop i parts) b ≡ all → new ≡ all
unfolding gaps_from
gaps_end parts i b out new all r le er ew told = rw (ew, er) (ap (λ ss. out ++ gaps_from ss b) (sym (drop_past i parts le)) ∙ told)

-- two intervals, and what they share
pub record Pair (a b : List Span) (i j : ℕ) (s t : Span) (out new : List Span) (r : Option Span) : Type 0 where
  pub left_set : IsSet a
  pub right_set : IsSet b
  pub left : i < length a
  pub right : j < length b
  pub left_is : s ≡ get_or a i s
  pub right_is : t ≡ get_or b j t
  pub shares : option_to_list r ≡ shared_list s t
  pub adds : new ≡ out ++ option_to_list r
  pub told : out ++ shared_of (drop i a) (drop j b) ≡ shared_of a b

left_apart : {a b : List Span} {i j : ℕ} {s t : Span} {out new : List Span} {r : Option Span} → Pair a b i j s t out new r → (q : ℕ) × Apart q (s ∷ drop (i + 1) a)
left_apart {a} {b} {i} {j} {s} h =
    let found = drop_apart i 0 a (apart_of a h.left_set) in
    let P : List Span → Type 0 = λ ss. Apart found.0 ss in
    (found.0, subst P (drop_is a i s h.left h.left_is) found.1)

right_apart : {a b : List Span} {i j : ℕ} {s t : Span} {out new : List Span} {r : Option Span} → Pair a b i j s t out new r → (q : ℕ) × Apart q (t ∷ drop (j + 1) b)
right_apart {a} {b} {i} {j} {s} {t} h =
    let found = drop_apart j 0 b (apart_of b h.right_set) in
    let P : List Span → Type 0 = λ ss. Apart found.0 ss in
    (found.0, subst P (drop_is b j t h.right h.right_is) found.1)

pub left_turn : {a b : List Span} {i j : ℕ} {s t : Span} {out new : List Span} {r : Option Span} → Pair a b i j s t out new r → to_place s ≤ to_place t → new ++ shared_of (drop (i + 1) a) (drop j b) ≡ shared_of a b
left_turn {a} {b} {i} {j} {s} {t} {out} {new} {r} h le =
    let ss = drop (i + 1) a in
    let ts = drop (j + 1) b in
    let sa = left_apart h in
    let ta = right_apart h in
    let front : drop i a ≡ s ∷ ss = drop_is a i s h.left h.left_is in
    let back : drop j b ≡ t ∷ ts = drop_is b j t h.right h.right_is in
    ap (λ us. us ++ shared_of ss (drop j b)) (h.adds ∙ ap (λ us. out ++ us) h.shares)
    ∙ append_assoc out (shared_list s t) (shared_of ss (drop j b))
    ∙ ap (λ us. out ++ (shared_list s t ++ shared_of ss us)) back
    ∙ ap (λ us. out ++ us) (sym (left_done sa.0 ta.0 s ss t ts sa.1 ta.1 le))
    ∙ ap (λ us. out ++ shared_of us (t ∷ ts)) (sym front)
    ∙ ap (λ us. out ++ shared_of (drop i a) us) (sym back)
    ∙ h.told

pub right_turn : {a b : List Span} {i j : ℕ} {s t : Span} {out new : List Span} {r : Option Span} → Pair a b i j s t out new r → to_place t < to_place s → new ++ shared_of (drop i a) (drop (j + 1) b) ≡ shared_of a b
right_turn {a} {b} {i} {j} {s} {t} {out} {new} {r} h lt =
    let ss = drop (i + 1) a in
    let ts = drop (j + 1) b in
    let sa = left_apart h in
    let ta = right_apart h in
    let front : drop i a ≡ s ∷ ss = drop_is a i s h.left h.left_is in
    let back : drop j b ≡ t ∷ ts = drop_is b j t h.right h.right_is in
    ap (λ us. us ++ shared_of (drop i a) ts) (h.adds ∙ ap (λ us. out ++ us) h.shares)
    ∙ append_assoc out (shared_list s t) (shared_of (drop i a) ts)
    ∙ ap (λ us. out ++ (shared_list s t ++ shared_of us ts)) front
    ∙ ap (λ us. out ++ us) (sym (right_done sa.0 ta.0 s ss t ts sa.1 ta.1 lt))
    ∙ ap (λ us. out ++ shared_of us (t ∷ ts)) (sym front)
    ∙ ap (λ us. out ++ shared_of (drop i a) us) (sym back)
    ∙ h.told

-- where one list of intervals is done, nothing more is shared
none_left : (a : List Span) → shared_of a [] ≡ []
unfolding shared_of shared_with
none_left [] = refl
none_left (s ∷ ss) = none_left ss

pub left_past : (a b out : List Span) (i j : ℕ) → length a ≤ i → out ++ shared_of (drop i a) (drop j b) ≡ shared_of a b → out ≡ shared_of a b
unfolding shared_of
left_past a b out i j le told = sym (append-nil out) ∙ ap (λ us. out ++ shared_of us (drop j b)) (sym (drop_past i a le)) ∙ told

pub right_past : (a b out : List Span) (i j : ℕ) → length b ≤ j → out ++ shared_of (drop i a) (drop j b) ≡ shared_of a b → out ≡ shared_of a b
right_past a b out i j le told =
    sym (append-nil out)
    ∙ ap (λ us. out ++ us) (sym (none_left (drop i a)))
    ∙ ap (λ us. out ++ shared_of (drop i a) us) (sym (drop_past j b le)) ∙ told

-- the slice from a place on is what lies from there on
pub rest_is : (ss : List Span) (i : ℕ) → take (length ss - i) (drop i ss) ≡ drop i ss
rest_is ss i = take_all (length ss - i) (drop i ss) (simp length-drop (omega arith))
