-- The names of known writes that a subscription leaves out.
use Rattle.std.proofs.Common.{Result, Ok, Err, ◌≡◌, ℕ, ◌≤◌, ◌<◌, ◌+◌, List, Some, Bool, true, false, refl, sym, ◌∙◌, ap, subst, arith, inl, inr, ◌||◌, ◌&&◌, not}
use Rattle.std.specs.Prelude.{◌⊎◌, ◌↔◌, IsTrue}
use Rattle.std.specs.Result.{IfOk}
use Rattle.std.specs.Str.{bytes_eq}
use Rattle.std.proofs.lemmas.Slice.Eq.{bytes_eq-Decides}
use Rattle.pr_stamps.specs.Point.{Point}
use Rattle.pr_names.specs.Name.{IsName}
use Rattle.pr_names.specs.Span.{Span}
use Rattle.pr_sets.specs.Spans.{has, IsSet, IsSetOf}
use Rattle.pr_vectors.specs.Vector.{clock_of}
use Rattle.pr_inval.specs.declared.write_rec.WriteRec.{WriteRec}
use Rattle.pr_log.specs.Known.{Has, IsByStamp, IsFirstAbove, IsOmittedBetween, IsOmittedOf, write_at}
use Rattle.pr_log.proofs.Clocks.{less_or, same_some}
use Rattle.pr_stamps.proofs.Places.{below_or}
use Rattle.pr_log.proofs.Names.{either_test}

true_false : {A : Type 0} → true ≡ false → A
true_false e = cc

-- ---- one write more of a node

pub named : (was same held : Bool) → (was || (same && not held)) ≡ true → was ≡ false → (same ≡ true) × (held ≡ false)
named true same held e n = cc
named false true true e n = cc
named false true false e n = (refl, refl)
named false false held e n = cc

or_true : (a : Bool) → (a || true) ≡ true
or_true true = refl
or_true false = refl

point_is : (p q : Point) → p.clock ≡ q.clock → p.node ≡ q.node → p ≡ q
point_is p q clock node = ap (λ k. record { clock = k; node = p.node }) clock ∙ ap (λ k. record { clock = q.clock; node = k }) node

-- two known writes of a node with one clock are one
pub same_write : (rows : List (List (ℕ × WriteRec))) (n : ℕ) (w x : WriteRec) → Has rows w → Has rows x → w.stamp.node ≡ n → x.stamp.node ≡ n → w.stamp.clock ≡ x.stamp.clock → w ≡ x
same_write rows n w x has_w has_x node_w node_x clock = same_some w x (sym has_w ∙ ap (write_at rows) (point_is w.stamp x.stamp clock (node_w ∙ sym node_x)) ∙ has_x)

pub omit_more : (rows : List (List (ℕ × WriteRec))) (sub : List Span) (n from clock next : ℕ) (w : WriteRec) (o : List ℕ) (now was old : Bool) → next ≡ w.stamp.clock → from ≤ clock → IsFirstAbove rows n clock (Some w) → now ≡ (was || (bytes_eq w.name o && not (has sub w.name))) → IsTrue was ↔ (IsTrue old ⊎ IsOmittedOf rows sub n from clock o) → IsTrue now ↔ (IsTrue old ⊎ IsOmittedOf rows sub n from next o)
omit_more rows sub n from clock next w o now was old next_is above (known, node, past, least) is so_far = (
  (λ h. elim (either_test was) [
    | inl before ↦ elim (so_far.0 before) [
      | inl first ↦ inl first
      | inr omitted ↦ inr (omitted.0, (omitted.1.0, omitted.1.1, omitted.1.2, omitted.1.3, omitted.1.4, omega (arith, omitted.1.5, past, next_is)))
    ]
    | inr new ↦
        let k = named was (bytes_eq w.name o) (has sub w.name) (sym is ∙ h) new in
        let same : w.name ≡ o = (bytes_eq-Decides w.name o).0 k.0 in
        inr (ap (has sub) (sym same) ∙ k.1, (w, known, same, node, omega (arith, above, past), omega (arith, next_is)))
  ]),
  (λ h. is ∙ elim h [
    | inl first ↦ ap (λ b. b || (bytes_eq w.name o && not (has sub w.name))) (so_far.1 (inl first))
    | inr omitted ↦ elim (less_or clock omitted.1.0.stamp.clock) [
      | inr before ↦ ap (λ b. b || (bytes_eq w.name o && not (has sub w.name))) (so_far.1 (inr (omitted.0, (omitted.1.0, omitted.1.1, omitted.1.2, omitted.1.3, omitted.1.4, before))))
      | inl after ↦
          let this : w ≡ omitted.1.0 = same_write rows n w omitted.1.0 known omitted.1.1 node omitted.1.3 (one w.stamp.clock omitted.1.0.stamp.clock next (least omitted.1.0 omitted.1.1 omitted.1.3 after) omitted.1.5 next_is) in
          let name : w.name ≡ o = ap (λ (v : WriteRec). v.name) this ∙ omitted.1.2 in
          ap (λ b. was || (b && not (has sub w.name))) ((bytes_eq-Decides w.name o).1 name) ∙ ap (λ b. was || not b) (ap (has sub) name ∙ omitted.0) ∙ or_true was
    ]
  ]),
)
  where
    one : (a b next : ℕ) → a ≤ b → b ≤ next → next ≡ a → a ≡ b
    one a b next le within is = omega arith

-- no write is left up to the last clock
pub omit_end : (rows : List (List (ℕ × WriteRec))) (sub : List Span) (n from clock to : ℕ) (o : List ℕ) (now old : Bool) → from ≤ clock → ((x : WriteRec) → Has rows x → x.stamp.node ≡ n → clock < x.stamp.clock → to < x.stamp.clock) → IsTrue now ↔ (IsTrue old ⊎ IsOmittedOf rows sub n from clock o) → (clock ≤ to) ⊎ (clock ≡ from) → IsTrue now ↔ (IsTrue old ⊎ IsOmittedOf rows sub n from to o)
omit_end rows sub n from clock to o now old above none so_far within = (
  (λ h. elim (so_far.0 h) [
    | inl first ↦ inl first
    | inr omitted ↦ inr (omitted.0, (omitted.1.0, omitted.1.1, omitted.1.2, omitted.1.3, omitted.1.4, elim within [ inl le ↦ omega (arith, omitted.1.5, le) | inr same ↦ absurd (omega (arith, omitted.1.4, omitted.1.5, same)) ]))
  ]),
  (λ h. elim h [
    | inl first ↦ so_far.1 (inl first)
    | inr omitted ↦ elim (less_or clock omitted.1.0.stamp.clock) [
      | inr before ↦ so_far.1 (inr (omitted.0, (omitted.1.0, omitted.1.1, omitted.1.2, omitted.1.3, omitted.1.4, before)))
      | inl after ↦ absurd (omega (arith, none omitted.1.0 omitted.1.1 omitted.1.3 after, omitted.1.5))
    ]
  ]),
)

-- at the first clock none is omitted
pub omit_none : (rows : List (List (ℕ × WriteRec))) (sub : List Span) (n from : ℕ) (o : List ℕ) (now : Bool) → IsTrue now ↔ (IsTrue now ⊎ IsOmittedOf rows sub n from from o)
omit_none rows sub n from o now = (
  (λ h. inl h),
  (λ h. elim h [ inl first ↦ first | inr omitted ↦ absurd (omega (arith, omitted.1.4, omitted.1.5)) ]),
)

-- ---- one node more

abbrev pub IsOmittedBelow : List (List (ℕ × WriteRec)) → List ℕ → List ℕ → List Span → ℕ → List ℕ → Type 0
IsOmittedBelow rows from to sub n o = (k : ℕ) × (k < n) × IsOmittedOf rows sub k (clock_of from k) (clock_of to k) o

pub omitted_more : (rows : List (List (ℕ × WriteRec))) (from to : List ℕ) (sub : List Span) (n lo hi : ℕ) (o : List ℕ) (now was : Bool) → lo ≡ clock_of from n → hi ≡ clock_of to n → IsTrue now ↔ (IsTrue was ⊎ IsOmittedOf rows sub n lo hi o) → IsTrue was ↔ IsOmittedBelow rows from to sub n o → IsTrue now ↔ IsOmittedBelow rows from to sub (n + 1) o
omitted_more rows from to sub n lo hi o now was lo_is hi_is one so_far = (
  (λ h. elim (one.0 h) [
    | inl old ↦ let k = so_far.0 old in (k.0, omega (arith, k.1), k.2)
    | inr new ↦ (n, omega arith, subst (λ c. IsOmittedOf rows sub n c (clock_of to n) o) lo_is (subst (λ c. IsOmittedOf rows sub n lo c o) hi_is new))
  ]),
  (λ k. one.1 (elim (below_or k.0 n k.1) [
    | inl less ↦ inl (so_far.1 (k.0, less, k.2))
    | inr same ↦ inr (subst (λ c. IsOmittedOf rows sub n lo c o) (sym hi_is) (subst (λ c. IsOmittedOf rows sub n c (clock_of to n) o) (sym lo_is) (subst (λ x. IsOmittedOf rows sub x (clock_of from x) (clock_of to x) o) same k.2)))
  ])),
)

pub none_below : (rows : List (List (ℕ × WriteRec))) (from to : List ℕ) (sub : List Span) (o : List ℕ) → IsTrue false ↔ IsOmittedBelow rows from to sub 0 o
none_below rows from to sub o = ((λ h. true_false (sym h)), (λ k. absurd (omega (arith, k.1))))

omitted_is : (rows : List (List (ℕ × WriteRec))) (from to : List ℕ) (sub : List Span) (o : List ℕ) → IsByStamp rows → IsOmittedBetween rows from to sub o → IsOmittedBelow rows from to sub 32 o
omitted_is rows from to sub o by_stamp (out, (x, known, name, between)) = (x.stamp.node, (by_stamp x.stamp x known).1.known_node, (out, (x, known, name, refl, between.0, between.1)))

is_omitted : (rows : List (List (ℕ × WriteRec))) (from to : List ℕ) (sub : List Span) (o : List ℕ) → IsOmittedBelow rows from to sub 32 o → IsOmittedBetween rows from to sub o
is_omitted rows from to sub o (n, lt, (out, (x, known, name, node, above, within))) =
    (out, (x, known, name, (subst (λ k. clock_of from k < x.stamp.clock) (sym node) above, subst (λ k. x.stamp.clock ≤ clock_of to k) (sym node) within)))

pub set_of_omitted : {E : Type 0} (r : Result (List Span) E) (rows : List (List (ℕ × WriteRec))) (from to : List ℕ) (sub : List Span) (names : List ℕ → Bool) → IsByStamp rows → IfOk r IsSet → IfOk r (λ set. (o : List ℕ) → IsName o → has set o ≡ names o) → ((o : List ℕ) → IsName o → IsTrue (names o) ↔ IsOmittedBelow rows from to sub 32 o) → IfOk r (λ set. IsSetOf set (IsOmittedBetween rows from to sub))
set_of_omitted (Ok set) rows from to sub names by_stamp one same each = record {
  one_list = one;
  has_them = λ o name is. same o name ∙ (each o name).1 (omitted_is rows from to sub o by_stamp is);
  no_others = λ o name is. is_omitted rows from to sub o ((each o name).0 (sym (same o name) ∙ is));
}
set_of_omitted (Err e) rows from to sub names by_stamp one same each = tt

-- behind the last node that has a clock none is omitted
pub omitted_behind : (rows : List (List (ℕ × WriteRec))) (from to : List ℕ) (sub : List Span) (n : ℕ) (o : List ℕ) (now : Bool) → n ≤ 32 → ((k : ℕ) → n ≤ k → k < 32 → clock_of to k ≡ 0) → IsTrue now ↔ IsOmittedBelow rows from to sub n o → IsTrue now ↔ IsOmittedBelow rows from to sub 32 o
omitted_behind rows from to sub n o now most behind so_far = (
  (λ h. let k = so_far.0 h in (k.0, omega (arith, k.1, most), k.2)),
  (λ k. elim (less_or k.0 n) [
    | inl less ↦ so_far.1 (k.0, less, k.2)
    | inr past ↦ absurd (omega (arith, behind k.0 past k.1, k.2.1.4, k.2.1.5))
  ]),
)
