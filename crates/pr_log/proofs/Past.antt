-- The names to which a node wrote past a clock.
use Rattle.std.proofs.Common.{◌≡◌, ℕ, ◌≤◌, ◌<◌, List, Some, Bool, false, refl, sym, ◌∙◌, ap, subst, inl, inr}
use Rattle.std.specs.Prelude.{◌⊎◌, ◌↔◌, IsTrue}
use Rattle.pr_stamps.specs.Point.{Point}
use Rattle.pr_names.specs.Span.{Span}
use Rattle.pr_sets.specs.Spans.{has}
use Rattle.pr_inval.specs.declared.write_rec.WriteRec.{WriteRec}
use Rattle.pr_log.specs.Known.{Has, IsByStamp, IsUpTo, at_clock, row_of}
use Rattle.pr_log.specs.Latest.{AreLatest, IsAbove, IsWrittenAbove, WroteAbove}
use Rattle.pr_log.proofs.Clocks.{less_or, some_none}
use Rattle.pr_log.proofs.LastClocks.{kept_above, written_above}
use Rattle.pr_log.proofs.Stamped.{at_row, at_row_has, has_at}

-- ---- what a row has, of its node

in_row : (rows : List (List (ℕ × WriteRec))) (n : ℕ) (row : List (ℕ × WriteRec)) (x : WriteRec) → row ≡ row_of rows n → Has rows x → x.stamp.node ≡ n → at_clock row x.stamp.clock ≡ Some x
in_row rows n row x is known node = subst (λ (l : List (ℕ × WriteRec)). at_clock l x.stamp.clock ≡ Some x) (sym is) (has_at rows n x known node)

pub up_to_of : (rows : List (List (ℕ × WriteRec))) (n c : ℕ) (row : List (ℕ × WriteRec)) → row ≡ row_of rows n → IsUpTo c row → (x : WriteRec) → Has rows x → x.stamp.node ≡ n → x.stamp.clock ≤ c
up_to_of rows n c row is up_to x known node = elim (less_or c x.stamp.clock) [
  | inl above ↦ absurd (some_none x (sym (in_row rows n row x is known node) ∙ up_to x.stamp.clock above))
  | inr within ↦ within
]

pub above_in : (rows : List (List (ℕ × WriteRec))) (n c : ℕ) (row : List (ℕ × WriteRec)) (o : List ℕ) → row ≡ row_of rows n → WroteAbove rows n c o → IsWrittenAbove row c o
above_in rows n c row o is (x, known, node, name, past) = (x.stamp.clock, x, in_row rows n row x is known node, name, past)

pub above_of : (rows : List (List (ℕ × WriteRec))) (n c : ℕ) (row : List (ℕ × WriteRec)) (o : List ℕ) → IsByStamp rows → row ≡ row_of rows n → IsWrittenAbove row c o → WroteAbove rows n c o
above_of rows n c row o by_stamp is (k, x, at, name, past) =
    let here : at_clock (row_of rows n) k ≡ Some x = subst (λ (l : List (ℕ × WriteRec)). at_clock l k ≡ Some x) is at in
    let stamp = at_row rows n k x by_stamp here in
    (x, at_row_has rows n k x by_stamp here, ap (λ (p : Point). p.node) stamp.0, name, subst (λ (p : Point). c < p.clock) (sym stamp.0) past)

-- none of the names was written to
pub none_above : (rows : List (List (ℕ × WriteRec))) (n c : ℕ) (row : List (ℕ × WriteRec)) (sub : List Span) → row ≡ row_of rows n → ((o : List ℕ) → IsWrittenAbove row c o → has sub o ≡ false) → (x : WriteRec) → Has rows x → x.stamp.node ≡ n → c < x.stamp.clock → has sub x.name ≡ false
none_above rows n c row sub is none x known node past = none x.name (x.stamp.clock, x, in_row rows n row x is known node, refl, past)

-- ---- the names that a subscription leaves out

pub omits_above : (row : List (ℕ × WriteRec)) (clocks : List (List ℕ × ℕ)) (c : ℕ) (o : List ℕ) (sub : List Span) (old now : Bool) → AreLatest row clocks → IsTrue now ↔ (IsTrue old ⊎ ((has sub o ≡ false) × IsAbove clocks c o)) → IsTrue now ↔ (IsTrue old ⊎ ((has sub o ≡ false) × IsWrittenAbove row c o))
omits_above row clocks c o sub old now are is = (
  (λ h. elim (is.0 h) [ inl first ↦ inl first | inr this ↦ inr (this.0, written_above row clocks c o are this.1) ]),
  (λ h. is.1 (elim h [ inl first ↦ inl first | inr this ↦ inr (this.0, kept_above row clocks c o are this.1) ])),
)

pub node_omits_above : (rows : List (List (ℕ × WriteRec))) (n c : ℕ) (row : List (ℕ × WriteRec)) (o : List ℕ) (sub : List Span) (old now : Bool) → IsByStamp rows → row ≡ row_of rows n → IsTrue now ↔ (IsTrue old ⊎ ((has sub o ≡ false) × IsWrittenAbove row c o)) → IsTrue now ↔ (IsTrue old ⊎ ((has sub o ≡ false) × WroteAbove rows n c o))
node_omits_above rows n c row o sub old now by_stamp row_is is = (
  (λ h. elim (is.0 h) [ inl first ↦ inl first | inr this ↦ inr (this.0, above_of rows n c row o by_stamp row_is this.1) ]),
  (λ h. is.1 (elim h [ inl first ↦ inl first | inr this ↦ inr (this.0, above_in rows n c row o row_is this.1) ])),
)
