-- A set of bodies by their hash, and the list that contracts see.
use Rattle.std.proofs.Common.{◌≡◌, ℕ, List, [], ◌∷◌, map, Bool, true, false, refl, sym, ap, ◌∙◌, inl, inr}
use Rattle.std.specs.Prelude.{◌||◌, ◌&&◌, not, nat_eq, IsOk, IfOk, MatchBool, Result, Ok, Err}
use Rattle.std.specs.List.{list_any}
use Rattle.std.specs.List.Sorted.{IsPermutation}
use Rattle.std.specs.Str.{bytes_eq}
use Rattle.std.proofs.lemmas.Bool.{false≢true}
use Rattle.std.proofs.lemmas.Bool.Decides.{eqb_tells}
use Rattle.std.proofs.lemmas.List.Sorted.{IsPermutation-map, list_any-IsPermutation}
use Rattle.std.proofs.lemmas.Slice.Eq.{bytes_eq-Decides}
use Rattle.pr_stamps.specs.Point.{Point, is_this}
use Rattle.pr_inval.specs.Standing.{SentBody, was_sent}
use Rattle.pr_inval.specs.declared.sent_body.SentBody as declared

abbrev pub body_of : declared.SentBody → SentBody
body_of b = record { name = b.name; stamp = record { clock = b.clock; node = b.node } }

abbrev pub same_body : declared.SentBody → declared.SentBody → Bool
same_body a b = bytes_eq a.name b.name && (nat_eq a.clock b.clock && nat_eq a.node b.node)

same_test : (p q : Bool) → (p ≡ true → q ≡ true) → (q ≡ true → p ≡ true) → p ≡ q
same_test true q h g = sym (h refl)
same_test false true h g = g refl
same_test false false h g = refl

bytes_swapped : (a b : List ℕ) → bytes_eq a b ≡ bytes_eq b a
bytes_swapped a b =
    let here = bytes_eq-Decides a b in
    let there = bytes_eq-Decides b a in
    same_test (bytes_eq a b) (bytes_eq b a) (λ h. there.1 (sym (here.0 h))) (λ h. here.1 (sym (there.0 h)))

number_swapped : (a b : ℕ) → nat_eq a b ≡ nat_eq b a
number_swapped a b = elim (eqb_tells a b) [
  | inl e ↦ elim (eqb_tells b a) [ inl f ↦ e.0 ∙ sym f.0 | inr f ↦ absurd (f.1 (sym e.1)) ]
  | inr e ↦ elim (eqb_tells b a) [ inl f ↦ absurd (e.1 (sym f.1)) | inr f ↦ e.0 ∙ sym f.0 ]
]

body_swapped : (q b : declared.SentBody) → same_body q b ≡ is_this b.name (body_of b).stamp q.name (body_of q).stamp
body_swapped q b =
    ap (λ t. t && (nat_eq q.clock b.clock && nat_eq q.node b.node)) (bytes_swapped q.name b.name)
    ∙ ap (λ t. bytes_eq b.name q.name && (t && nat_eq q.node b.node)) (number_swapped q.clock b.clock)
    ∙ ap (λ t. bytes_eq b.name q.name && (nat_eq b.clock q.clock && t)) (number_swapped q.node b.node)

-- a body is found by its name and stamp
pub found : (keys : List declared.SentBody) (q : declared.SentBody) → list_any (same_body q) keys ≡ was_sent (map body_of keys) q.name (body_of q).stamp
found [] q = refl
found (b ∷ keys) q =
    ap (λ t. t || list_any (same_body q) keys) (body_swapped q b)
    ∙ ap (λ t. is_this b.name (body_of b).stamp q.name (body_of q).stamp || t) (found keys q)

reordered : (olds news : List declared.SentBody) (o : List ℕ) (t : Point) → IsPermutation olds news → was_sent (map body_of news) o t ≡ was_sent (map body_of olds) o t
reordered olds news o t h =
    sym (list_any-IsPermutation (λ body. is_this body.name body.stamp o t) (map body_of olds) (map body_of news) (IsPermutation-map body_of olds news h))

-- an order does not matter
pub all_reordered : (olds news : List declared.SentBody) → IsPermutation olds news → was_sent (map body_of news) ≡ was_sent (map body_of olds)
all_reordered olds news h = let e : (o : List ℕ) (t : Point) → was_sent (map body_of news) o t ≡ was_sent (map body_of olds) o t = λ o t. reordered olds news o t h in λ i o t. e o t i

both_tell : (p q : Bool) → (p && q) ≡ true → (p ≡ true) × (q ≡ true)
both_tell true q h = (refl, h)
both_tell false q h = absurd (cc)

same_number : (a b : ℕ) → nat_eq a b ≡ true → a ≡ b
same_number a b h = elim (eqb_tells a b) [ inl e ↦ e.1 | inr e ↦ absurd (false≢true (sym e.0 ∙ h)) ]

same_point : (s t : Point) → s.clock ≡ t.clock → s.node ≡ t.node → s ≡ t
same_point s t c n =
    ap (λ (x : ℕ). let r : Point = record { clock = x; node = s.node } in r) c
    ∙ ap (λ (x : ℕ). let r : Point = record { clock = t.clock; node = x } in r) n

-- a body that is there already
there : (keys : List SentBody) (name o : List ℕ) (stamp t : Point) → was_sent keys name stamp ≡ true → was_sent keys o t ≡ (is_this name stamp o t || was_sent keys o t)
there keys name o stamp t h = either (is_this name stamp o t) refl
  where
    either : (b : Bool) → is_this name stamp o t ≡ b → was_sent keys o t ≡ (b || was_sent keys o t)
    either false e = refl
    either true e =
        let first = both_tell (bytes_eq name o) (nat_eq stamp.clock t.clock && nat_eq stamp.node t.node) e in
        let second = both_tell (nat_eq stamp.clock t.clock) (nat_eq stamp.node t.node) first.1 in
        let point : stamp ≡ t = same_point stamp t (same_number stamp.clock t.clock second.0) (same_number stamp.node t.node second.1) in
        sym (ap (λ n. was_sent keys n t) ((bytes_eq-Decides name o).0 first.0)) ∙ sym (ap (was_sent keys name) point) ∙ h

not_false : (b : Bool) → false ≡ not b → b ≡ true
not_false true h = refl
not_false false h = absurd (cc)

-- one body more
pub noted : {E : Type 0} (r : Result Bool E) (olds news : List declared.SentBody) (k : declared.SentBody) → IsOk r
    → IfOk r (λ added. MatchBool added (IsPermutation (k ∷ olds) news) (news ≡ olds)) → IfOk r (λ added. added ≡ not (list_any (same_body k) olds))
    → (o : List ℕ) (t : Point) → was_sent (map body_of news) o t ≡ (is_this k.name (body_of k).stamp o t || was_sent (map body_of olds) o t)
noted (Ok true) olds news k ok keys added o t = reordered (k ∷ olds) news o t keys
noted (Ok false) olds news k ok keys added o t =
    ap (λ ks. was_sent (map body_of ks) o t) keys
    ∙ there (map body_of olds) k.name o (body_of k).stamp t (sym (found olds k) ∙ not_false (list_any (same_body k) olds) added)
noted (Err e) olds news k ok keys added o t = absurd (cc)
