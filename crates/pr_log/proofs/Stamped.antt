-- The known writes, each kept under its stamp.
use Rattle.std.proofs.Common.{◌≡◌, ℕ, ◌≤◌, ◌<◌, List, [], length, get_or, set, Option, None, Some, true, false, cond, refl, sym, ◌∙◌, ap, subst, arith, nat_eq, inl, inr, ◌≢◌}
use Rattle.std.specs.Prelude.{◌⊎◌}
use Rattle.std.specs.Option.{option_or}
use Rattle.std.proofs.lemmas.List.{get_or-set_same, get_or-set_other}
use Rattle.pr_stamps.specs.Point.{Point, IsStamp}
use Rattle.pr_vectors.specs.Vector.{Covers, clock_of}
use Rattle.pr_inval.specs.declared.write_rec.WriteRec.{WriteRec}
use Rattle.pr_log.specs.Known.{at_clock, row_of, write_at, Has, IsByStamp, IsAdded, IsAddedAt, IsFirstAbove, IsFirstIn, IsForgotten, IsForgottenUpTo, IsWithin}
use Rattle.pr_log.proofs.Clocks.{less_or, same_some, some_none, is_some}
use Rattle.pr_log.proofs.Places.{past_end, this_or_other}

-- what stands at a point of this node
pub at_row : (rows : List (List (ℕ × WriteRec))) (n c : ℕ) (x : WriteRec) → IsByStamp rows → at_clock (row_of rows n) c ≡ Some x → (x.stamp ≡ record { clock = c; node = n }) × IsStamp (record { clock = c; node = n })
at_row rows n c x by_stamp is = by_stamp (record { clock = c; node = n }) x is

pub at_row_has : (rows : List (List (ℕ × WriteRec))) (n c : ℕ) (x : WriteRec) → IsByStamp rows → at_clock (row_of rows n) c ≡ Some x → Has rows x
at_row_has rows n c x by_stamp is = subst (λ p. write_at rows p ≡ Some x) (sym (at_row rows n c x by_stamp is).0) is

pub has_at : (rows : List (List (ℕ × WriteRec))) (n : ℕ) (x : WriteRec) → Has rows x → x.stamp.node ≡ n → at_clock (row_of rows n) x.stamp.clock ≡ Some x
has_at rows n x has here = subst (λ k. at_clock (row_of rows k) x.stamp.clock ≡ Some x) here has

-- no clock of a write is 0
pub none_at_zero : (rows : List (List (ℕ × WriteRec))) (n : ℕ) → IsByStamp rows → at_clock (row_of rows n) 0 ≡ None
none_at_zero rows n by_stamp = by (at_clock (row_of rows n) 0) refl
  where
    by : (r : Option WriteRec) → at_clock (row_of rows n) 0 ≡ r → r ≡ None
    by None e = refl
    by (Some x) e = absurd (omega (arith, (at_row rows n 0 x by_stamp e).1.from_one))

-- the first of a row is the first of its node
pub first_is : (rows : List (List (ℕ × WriteRec))) (n c : ℕ) (row : List (ℕ × WriteRec)) (r : Option WriteRec) → IsByStamp rows → row ≡ row_of rows n → IsFirstIn row c r → IsFirstAbove rows n c r
first_is rows n c row None by_stamp is first = λ x has here. elim (less_or c x.stamp.clock) [
  | inl above ↦ absurd (some_none x (sym (has_at rows n x has here) ∙ subst (λ (l : List (ℕ × WriteRec)). at_clock l x.stamp.clock ≡ None) is (first x.stamp.clock above)))
  | inr within ↦ within
]
first_is rows n c row (Some w) by_stamp is (k, above, at, least) =
    let here : at_clock (row_of rows n) k ≡ Some w = subst (λ (l : List (ℕ × WriteRec)). at_clock l k ≡ Some w) is at in
    let stamp = at_row rows n k w by_stamp here in (
      at_row_has rows n k w by_stamp here,
      ap (λ (p : Point). p.node) stamp.0,
      subst (λ (p : Point). c < p.clock) (sym stamp.0) above,
      λ x has same more. subst (λ (p : Point). p.clock ≤ x.stamp.clock) (sym stamp.0) (least x.stamp.clock more (is_some _ x (subst (λ (l : List (ℕ × WriteRec)). at_clock l x.stamp.clock ≡ Some x) (sym is) (has_at rows n x has same)))),
    )

-- ---- a write more

point_is : (p q : Point) → p.clock ≡ q.clock → p.node ≡ q.node → p ≡ q
point_is p q clock node = ap (λ k. record { clock = k; node = p.node }) clock ∙ ap (λ k. record { clock = q.clock; node = k }) node

-- a point is this one, or not
pub point_or : (p q : Point) → (p ≡ q) ⊎ ¬ (p ≡ q)
point_or p q = elim (this_or_other p.clock q.clock) [
  | inl clock ↦ elim (this_or_other p.node q.node) [ inl node ↦ inl (point_is p q clock node) | inr other ↦ inr (λ e. other (ap (λ (x : Point). x.node) e)) ]
  | inr other ↦ inr (λ e. other (ap (λ (x : Point). x.clock) e))
]

-- the write is put where none stands
pub record IsPutAt (f g : Point → Option WriteRec) (write : WriteRec) : Type 0 where
  pub here : g write.stamp ≡ option_or (f write.stamp) (Some write)
  pub others : (p : Point) → ¬ (p ≡ write.stamp) → g p ≡ f p

put_here : (rows : List (List (ℕ × WriteRec))) (n : ℕ) (old new : List (ℕ × WriteRec)) (write : WriteRec) → n ≡ write.stamp.node → n < length rows → old ≡ row_of rows n → IsAddedAt old new write → write_at (set rows n new) write.stamp ≡ option_or (write_at rows write.stamp) (Some write)
put_here rows n old new write here within is added =
    ap (λ k. at_clock (get_or (set rows n new) k []) write.stamp.clock) (sym here)
    ∙ ap (λ (l : List (ℕ × WriteRec)). at_clock l write.stamp.clock) (get_or-set_same rows n new [] within)
    ∙ added write.stamp.clock
    ∙ ap (λ b. cond b (option_or (at_clock old write.stamp.clock) (Some write)) (at_clock old write.stamp.clock)) (same write.stamp.clock)
    ∙ ap (λ (l : List (ℕ × WriteRec)). option_or (at_clock l write.stamp.clock) (Some write)) is
    ∙ ap (λ k. option_or (at_clock (row_of rows k) write.stamp.clock) (Some write)) here
  where
    same : (c : ℕ) → nat_eq c c ≡ true
    same c = grind arith

put_other : (rows : List (List (ℕ × WriteRec))) (n : ℕ) (old new : List (ℕ × WriteRec)) (write : WriteRec) (p : Point) → n ≡ write.stamp.node → n < length rows → old ≡ row_of rows n → IsAddedAt old new write → ¬ (p ≡ write.stamp) → write_at (set rows n new) p ≡ write_at rows p
put_other rows n old new write p here within is added apart = elim (this_or_other p.node n) [
  | inl node ↦
      ap (λ k. at_clock (get_or (set rows n new) k []) p.clock) node
      ∙ ap (λ (l : List (ℕ × WriteRec)). at_clock l p.clock) (get_or-set_same rows n new [] within)
      ∙ added p.clock
      ∙ ap (λ b. cond b (option_or (at_clock old p.clock) (Some write)) (at_clock old p.clock)) (other write.stamp.clock p.clock (λ e. apart (point_is p write.stamp (sym e) (node ∙ here))))
      ∙ ap (λ (l : List (ℕ × WriteRec)). at_clock l p.clock) is
      ∙ ap (λ k. at_clock (row_of rows k) p.clock) (sym node)
  | inr apart_node ↦ let ne : p.node ≢ n = apart_node in ap (λ (l : List (ℕ × WriteRec)). at_clock l p.clock) (get_or-set_other rows n p.node new [] ne)
]
  where
    other : (a b : ℕ) → ¬ (a ≡ b) → nat_eq a b ≡ false
    other a b h = grind arith

pub is_put : (rows : List (List (ℕ × WriteRec))) (n : ℕ) (old new : List (ℕ × WriteRec)) (write : WriteRec) → n ≡ write.stamp.node → n < length rows → old ≡ row_of rows n → IsAddedAt old new write → IsPutAt (write_at rows) (write_at (set rows n new)) write
is_put rows n old new write here within is added = record { here = put_here rows n old new write here within is added; others = λ p. put_other rows n old new write p here within is added }

either : (x : Option WriteRec) (write y : WriteRec) → option_or x (Some write) ≡ Some y → (x ≡ Some y) ⊎ ((x ≡ None) × (write ≡ y))
either None write y e = inr (refl, same_some write y e)
either (Some x) write y e = inl e

pub put_by_stamp : (a b : List (List (ℕ × WriteRec))) (write : WriteRec) → IsStamp write.stamp → IsPutAt (write_at a) (write_at b) write → IsByStamp a → IsByStamp b
put_by_stamp a b write stamp put by_stamp p x is = elim (point_or p write.stamp) [
  | inl here ↦ elim (either (write_at a write.stamp) write x (sym put.here ∙ ap (write_at b) (sym here) ∙ is)) [
    | inl old ↦ by_stamp p x (ap (write_at a) here ∙ old)
    | inr new ↦ (ap (λ (w : WriteRec). w.stamp) (sym new.1) ∙ sym here, subst IsStamp (sym here) stamp)
  ]
  | inr other ↦ by_stamp p x (sym (put.others p other) ∙ is)
]

pub put_added : (a b : List (List (ℕ × WriteRec))) (write : WriteRec) → IsPutAt (write_at a) (write_at b) write → IsByStamp a → IsAdded a b write
put_added a b write put by_stamp x = (
  (λ has. elim (point_or x.stamp write.stamp) [
    | inl here ↦ elim (either (write_at a write.stamp) write x (sym put.here ∙ ap (write_at b) (sym here) ∙ has)) [
      | inl old ↦ inl (ap (write_at a) here ∙ old)
      | inr new ↦ inr (new.1, λ y known same. some_none y (sym known ∙ ap (write_at a) (same ∙ here) ∙ new.0))
    ]
    | inr other ↦ inl (sym (put.others x.stamp other) ∙ has)
  ]),
  (λ h. elim h [
    | inl old ↦ elim (point_or x.stamp write.stamp) [
      | inl here ↦ ap (write_at b) here ∙ put.here ∙ ap (λ o. option_or o (Some write)) (ap (write_at a) (sym here) ∙ old)
      | inr other ↦ put.others x.stamp other ∙ old
    ]
    | inr new ↦ subst (Has b) new.0 (put.here ∙ ap (λ o. option_or o (Some write)) (nothing (write_at a write.stamp) (λ y is. new.1 y (subst (λ p. write_at a p ≡ Some y) (sym (by_stamp write.stamp y is).0) is) ((by_stamp write.stamp y is).0 ∙ ap (λ (w : WriteRec). w.stamp) new.0))))
  ]),
)
  where
    nothing : (o : Option WriteRec) → ((y : WriteRec) → ¬ (o ≡ Some y)) → o ≡ None
    nothing None h = refl
    nothing (Some y) h = absurd (h y refl)

-- ---- writes below a cut are forgotten

forgotten_at : (a b : List (List (ℕ × WriteRec))) (cut : List ℕ) (x : WriteRec) → length a ≡ 32 → length b ≡ 32 → ((n : ℕ) → n < 32 → IsForgottenUpTo (clock_of cut n) (row_of a n) (row_of b n)) → Has b x → Has a x × (clock_of cut x.stamp.node < x.stamp.clock)
forgotten_at a b cut x len_a len_b each has = elim (less_or x.stamp.node 32) [
  | inl within ↦ elim (less_or (clock_of cut x.stamp.node) x.stamp.clock) [
    | inl above ↦ (sym ((each x.stamp.node within).kept x.stamp.clock above) ∙ has, above)
    | inr below ↦ absurd (some_none x (sym has ∙ (each x.stamp.node within).gone x.stamp.clock below))
  ]
  | inr past ↦ absurd (some_none x (sym has ∙ ap (λ (l : List (ℕ × WriteRec)). at_clock l x.stamp.clock) (past_end b x.stamp.node [] (omega (arith, len_b, past)))))
]

kept_at : (a b : List (List (ℕ × WriteRec))) (cut : List ℕ) (x : WriteRec) → IsByStamp a → ((n : ℕ) → n < 32 → IsForgottenUpTo (clock_of cut n) (row_of a n) (row_of b n)) → Has a x → ¬ Covers cut x.stamp → Has b x
kept_at a b cut x by_stamp each has apart = elim (less_or (clock_of cut x.stamp.node) x.stamp.clock) [
  | inl above ↦ (each x.stamp.node (by_stamp x.stamp x has).1.known_node).kept x.stamp.clock above ∙ has
  | inr below ↦ absurd (apart ((by_stamp x.stamp x has).1.from_one, below))
]

pub is_forgotten : (a b : List (List (ℕ × WriteRec))) (cut : List ℕ) → length a ≡ 32 → length b ≡ 32 → IsByStamp a → ((n : ℕ) → n < 32 → IsForgottenUpTo (clock_of cut n) (row_of a n) (row_of b n)) → IsForgotten a b cut
is_forgotten a b cut len_a len_b by_stamp each x = (
  (λ has. let old : Has a x × (clock_of cut x.stamp.node < x.stamp.clock) = forgotten_at a b cut x len_a len_b each has in (old.0, λ covers. omega (arith, covers.1, old.1))),
  (λ h. kept_at a b cut x by_stamp each h.0 h.1),
)

pub forgotten_by_stamp : (a b : List (List (ℕ × WriteRec))) (cut : List ℕ) → length b ≡ 32 → ((n : ℕ) → n < 32 → IsForgottenUpTo (clock_of cut n) (row_of a n) (row_of b n)) → IsByStamp a → IsByStamp b
forgotten_by_stamp a b cut len_b each by_stamp p x is = elim (less_or p.node 32) [
  | inl within ↦ elim (less_or (clock_of cut p.node) p.clock) [
    | inl above ↦ by_stamp p x (sym ((each p.node within).kept p.clock above) ∙ is)
    | inr below ↦ absurd (some_none x (sym is ∙ (each p.node within).gone p.clock below))
  ]
  | inr past ↦ absurd (some_none x (sym is ∙ ap (λ (l : List (ℕ × WriteRec)). at_clock l p.clock) (past_end b p.node [] (omega (arith, len_b, past)))))
]

-- ---- no write

pub none_by_stamp : (rows : List (List (ℕ × WriteRec))) → ((n : ℕ) → row_of rows n ≡ []) → IsByStamp rows
none_by_stamp rows none p x is = absurd (some_none x (sym is ∙ ap (λ (l : List (ℕ × WriteRec)). at_clock l p.clock) (none p.node)))

pub none_has : (rows : List (List (ℕ × WriteRec))) → ((n : ℕ) → row_of rows n ≡ []) → (x : WriteRec) → ¬ Has rows x
none_has rows none x has = some_none x (sym has ∙ ap (λ (l : List (ℕ × WriteRec)). at_clock l x.stamp.clock) (none x.stamp.node))

-- ---- the nodes that have known writes

pub none_within : (rows : List (List (ℕ × WriteRec))) (n : ℕ) → ((k : ℕ) → row_of rows k ≡ []) → IsWithin n rows
none_within rows n none p x is = absurd (some_none x (sym is ∙ ap (λ (l : List (ℕ × WriteRec)). at_clock l p.clock) (none p.node)))

pub within_more : (rows : List (List (ℕ × WriteRec))) (n m : ℕ) → n ≤ m → IsWithin n rows → IsWithin m rows
within_more rows n m le within p x is = omega (arith, le, within p x is)

pub put_within : (a b : List (List (ℕ × WriteRec))) (write : WriteRec) (n m : ℕ) → n ≤ m → write.stamp.node < m → IsPutAt (write_at a) (write_at b) write → IsWithin n a → IsWithin m b
put_within a b write n m le lt put within p x is = elim (point_or p write.stamp) [
  | inl here ↦ subst (λ (q : Point). q.node < m) (sym here) lt
  | inr other ↦ omega (arith, le, within p x (sym (put.others p other) ∙ is))
]

pub forgotten_within : (a b : List (List (ℕ × WriteRec))) (cut : List ℕ) (n : ℕ) → length b ≡ 32 → ((k : ℕ) → k < 32 → IsForgottenUpTo (clock_of cut k) (row_of a k) (row_of b k)) → IsWithin n a → IsWithin n b
forgotten_within a b cut n len_b each within p x is = elim (less_or p.node 32) [
  | inl known ↦ elim (less_or (clock_of cut p.node) p.clock) [
    | inl above ↦ within p x (sym ((each p.node known).kept p.clock above) ∙ is)
    | inr below ↦ absurd (some_none x (sym is ∙ (each p.node known).gone p.clock below))
  ]
  | inr past ↦ absurd (some_none x (sym is ∙ ap (λ (l : List (ℕ × WriteRec)). at_clock l p.clock) (past_end b p.node [] (omega (arith, len_b, past)))))
]

-- ---- behind the last node that wrote

none_behind : (rows : List (List (ℕ × WriteRec))) (nodes n k : ℕ) → IsWithin nodes rows → nodes ≤ n → at_clock (row_of rows n) k ≡ None
none_behind rows nodes n k within le = none (at_clock (row_of rows n) k) refl
  where
    none : (r : Option WriteRec) → at_clock (row_of rows n) k ≡ r → at_clock (row_of rows n) k ≡ None
    none None e = e
    none (Some x) e = absurd (omega (arith, le, within (record { clock = k; node = n }) x e))

pub none_forgotten : (rows : List (List (ℕ × WriteRec))) (nodes n c : ℕ) → IsWithin nodes rows → nodes ≤ n → IsForgottenUpTo c (row_of rows n) (row_of rows n)
none_forgotten rows nodes n c within le = record {
  gone = λ k up. none_behind rows nodes n k within le;
  kept = λ k above. refl;
  few = λ k. omega arith;
}
