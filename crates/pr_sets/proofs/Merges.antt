-- The turns of the loop that merges two sets.
use Rattle.std.proofs.Common.{◌≡◌, ℕ, ◌+◌, ◌<◌, ◌≤◌, Bool, true, false, refl, sym, ap, ◌∙◌, subst, arith, List, [], ◌∷◌, drop, length, get_or}
use Rattle.std.specs.Prelude.{◌||◌}
use Rattle.pr_names.specs.Name.{IsName}
use Rattle.pr_names.specs.Span.{Span, holds}
use Rattle.pr_names.proofs.Place.{from_place}
use Rattle.pr_sets.specs.Joining.{joined_onto, puts}
use Rattle.pr_sets.specs.Spans.{has, IsSet, IsUnion}
use Rattle.pr_sets.proofs.Apart.{Apart, apart_of, set_of}
use Rattle.pr_sets.proofs.Joins.{Ready, put_begins, put_keeps, put_names, puts_keep, puts_names, ready_first, ready_next, rising_of}
use Rattle.pr_sets.proofs.Lists.{or_none}
use Rattle.pr_sets.proofs.Turns.{drop_is, drop_past}

pub puts_turn : (ss : List Span) (i : ℕ) (s : Span) (ts new all : List Span) → i < length ss → s ≡ get_or ss i s → new ≡ joined_onto ts s → puts ts (drop i ss) ≡ all → puts new (drop (i + 1) ss) ≡ all
unfolding puts
puts_turn ss i s ts new all lt is e told = ap (λ k. puts k (drop (i + 1) ss)) e ∙ sym (ap (puts ts) (drop_is ss i s lt is)) ∙ told

pub puts_end : (ss : List Span) (i : ℕ) (ts all : List Span) → length ss ≤ i → puts ts (drop i ss) ≡ all → ts ≡ all
unfolding puts
puts_end ss i ts all le told = sym (ap (puts ts) (drop_past i ss le)) ∙ told

-- what holds while two sets are merged
pub record Merging (a b : List Span) (i j : ℕ) (k : List Span) : Type 0 where
  pub left : i ≤ length a
  pub right : j ≤ length b
  pub apart : Apart 0 k
  pub ready_left : Ready k (drop i a)
  pub ready_right : Ready k (drop j b)
  pub names : (x : List ℕ) → IsName x → (has k x || (has (drop i a) x || has (drop j b) x)) ≡ (has a x || has b x)

pub merge_begins : (a b : List Span) → IsSet a → IsSet b → Merging a b 0 0 []
merge_begins a b ha hb = record {
  left = omega arith;
  right = omega arith;
  apart = tt;
  ready_left = record { at = 0; begin = tt; rise = rising_of 0 a (apart_of a ha) };
  ready_right = record { at = 0; begin = tt; rise = rising_of 0 b (apart_of b hb) };
  names = λ x hx. refl;
}

from_left : (p q r u : Bool) → ((p || q) || (r || u)) ≡ (p || ((q || r) || u))
from_left true q r u = refl
from_left false true r u = refl
from_left false false r u = refl

from_right : (p q r u : Bool) → ((p || q) || (u || r)) ≡ (p || (u || (q || r)))
from_right true q r u = refl
from_right false true r true = refl
from_right false true r false = refl
from_right false false r u = refl

-- the other list stays ready, where what is put begins no later than its first interval
ready_other : (k : List Span) (s : Span) (ss : List Span) (t : Span) (ts : List Span) → Ready k (s ∷ ss) → Ready k (t ∷ ts) → from_place s ≤ from_place t → Ready (joined_onto k s) (t ∷ ts)
ready_other k s ss t ts r o le = record {
  at = from_place s;
  begin = put_begins k s (ready_first k s ss r);
  rise = (le, o.rise.1, o.rise.2);
}

pub merge_left : (a b : List Span) (i j : ℕ) (k new : List Span) (s t : Span) → i < length a → j < length b → s ≡ get_or a i s → t ≡ get_or b j t → from_place s ≤ from_place t → new ≡ joined_onto k s → Merging a b i j k → Merging a b (i + 1) j new
merge_left a b i j k new s t la lb is it le e h =
    let ss = drop (i + 1) a in
    let ts = drop (j + 1) b in
    let front : drop i a ≡ s ∷ ss = drop_is a i s la is in
    let back : drop j b ≡ t ∷ ts = drop_is b j t lb it in
    let R : List Span → Type 0 = λ us. Ready k us in
    let ready : Ready k (s ∷ ss) = subst R front h.ready_left in
    let other : Ready k (t ∷ ts) = subst R back h.ready_right in
    let N : List Span → Type 0 = λ us. Ready (joined_onto k s) us in
    let M : List Span → Type 0 = λ m. Merging a b (i + 1) j m in
    let begin = ready_first k s ss ready in
    subst M (sym e) (record {
      left = omega arith;
      right = h.right;
      apart = put_keeps 0 k s h.apart ready.rise.1 begin (omega arith);
      ready_left = ready_next k s ss ready;
      ready_right = subst N (sym back) (ready_other k s ss t ts ready other le);
      names = λ x hx.
          ap (λ c. c || (has ss x || has (drop j b) x)) (put_names 0 k s x h.apart ready.rise.1 hx begin)
          ∙ from_left (has k x) (holds s x) (has ss x) (has (drop j b) x)
          ∙ ap (λ us. has k x || (has us x || has (drop j b) x)) (sym front)
          ∙ h.names x hx;
    })

pub merge_right : (a b : List Span) (i j : ℕ) (k new : List Span) (s t : Span) → i < length a → j < length b → s ≡ get_or a i s → t ≡ get_or b j t → from_place t < from_place s → new ≡ joined_onto k t → Merging a b i j k → Merging a b i (j + 1) new
merge_right a b i j k new s t la lb is it lt e h =
    let ss = drop (i + 1) a in
    let ts = drop (j + 1) b in
    let front : drop i a ≡ s ∷ ss = drop_is a i s la is in
    let back : drop j b ≡ t ∷ ts = drop_is b j t lb it in
    let R : List Span → Type 0 = λ us. Ready k us in
    let ready : Ready k (t ∷ ts) = subst R back h.ready_right in
    let other : Ready k (s ∷ ss) = subst R front h.ready_left in
    let N : List Span → Type 0 = λ us. Ready (joined_onto k t) us in
    let M : List Span → Type 0 = λ m. Merging a b i (j + 1) m in
    let begin = ready_first k t ts ready in
    subst M (sym e) (record {
      left = h.left;
      right = omega arith;
      apart = put_keeps 0 k t h.apart ready.rise.1 begin (omega arith);
      ready_left = subst N (sym front) (ready_other k t ts s ss ready other (omega arith));
      ready_right = ready_next k t ts ready;
      names = λ x hx.
          ap (λ c. c || (has (drop i a) x || has ts x)) (put_names 0 k t x h.apart ready.rise.1 hx begin)
          ∙ from_right (has k x) (holds t x) (has ts x) (has (drop i a) x)
          ∙ ap (λ us. has k x || (has (drop i a) x || has us x)) (sym back)
          ∙ h.names x hx;
    })

-- what has the names of both is their union
is_union : (a b k ss : List Span) → Apart 0 k → Ready k ss → ((x : List ℕ) → IsName x → (has k x || has ss x) ≡ (has a x || has b x)) → IsUnion a b (puts k ss)
is_union a b k ss hk ready names = record {
  set = set_of 0 (puts k ss) (puts_keep k ss hk ready);
  names = λ x hx. puts_names k ss x hk ready hx ∙ names x hx;
}

pub left_ends : (a b : List Span) (i j : ℕ) (k : List Span) → length a ≤ i → Merging a b i j k → IsUnion a b (puts (puts k (drop i a)) (drop j b))
unfolding puts
left_ends a b i j k le h =
    let none : drop i a ≡ [] = drop_past i a le in
    let P : List Span → Type 0 = λ us. IsUnion a b (puts (puts k us) (drop j b)) in
    subst P (sym none) (is_union a b k (drop j b) h.apart h.ready_right
    (λ x hx. ap (λ us. has k x || (has us x || has (drop j b) x)) (sym none) ∙ h.names x hx))

pub right_ends : (a b : List Span) (i j : ℕ) (k : List Span) → length b ≤ j → Merging a b i j k → IsUnion a b (puts (puts k (drop i a)) (drop j b))
unfolding puts
right_ends a b i j k le h =
    let none : drop j b ≡ [] = drop_past j b le in
    let P : List Span → Type 0 = λ us. IsUnion a b (puts (puts k (drop i a)) us) in
    subst P (sym none) (is_union a b k (drop i a) h.apart h.ready_left
    (λ x hx. ap (λ c. has k x || c) (sym (or_none (has (drop i a) x))) ∙ ap (λ us. has k x || (has (drop i a) x || has us x)) (sym none) ∙ h.names x hx))
