-- The writes of one node, by clock.
use Rattle.std.proofs.Common.{◌≡◌, ◌≤◌, ℕ, List, Option, None, Some, Bool, true, false, cond, refl, ◌∙◌, ap, subst, arith, nat_eq}
use Rattle.std.specs.Option.{IsSome, is_some, option_or}
use Rattle.std.specs.Ordering.{is_eq, nat_cmp}
use Rattle.pr_inval.specs.declared.write_rec.WriteRec.{WriteRec}
use Rattle.pr_log.specs.Known.{IsAddedAt, IsUpTo, at_clock}
use Rattle.pr_log.proofs.Clocks.{eq_nat, put_in}

-- a clock that has a write keeps it
pub had : (row : List (ℕ × WriteRec)) (write : WriteRec) (clock : ℕ) → clock ≡ write.stamp.clock → IsSome (at_clock row clock) → IsAddedAt row row write
had row write clock is some c = kept (nat_eq write.stamp.clock c) (at_clock row c) (λ e. subst (λ k. IsSome (at_clock row k)) (is ∙ same write.stamp.clock c e) some)
  where
    same : (a b : ℕ) → nat_eq a b ≡ true → a ≡ b
    same a b e = grind (arith)

    kept : (b : Bool) (x : Option WriteRec) → (b ≡ true → IsSome x) → x ≡ cond b (option_or x (Some write)) x
    kept true (Some x) h = refl
    kept true None h = absurd (none (h refl))
      where
        none : IsSome {T = WriteRec} None → ⊥
        none e = cc
    kept false x h = refl

-- a test that failed
pub none_by_test : (x : Option WriteRec) (b : Bool) → b ≡ is_some x → b ≡ false → x ≡ None
none_by_test None b is e = refl
none_by_test (Some w) b is e = cc

-- a clock that has none takes the write
pub put : (a b : List (ℕ × WriteRec)) (write : WriteRec) (clock : ℕ) → clock ≡ write.stamp.clock → ((c : ℕ) → at_clock b c ≡ cond (is_eq (nat_cmp clock c)) (Some write) (at_clock a c)) → is_some (at_clock a clock) ≡ false → IsAddedAt a b write
put a b write clock is in_ none c = in_ c ∙ ap (λ t. cond t (Some write) (at_clock a c)) (eq_nat clock c) ∙ ap (λ k. cond (nat_eq k c) (Some write) (at_clock a c)) is
    ∙ place (nat_eq write.stamp.clock c) (at_clock a c) (λ e. subst (λ k. is_some (at_clock a k) ≡ false) (is ∙ same write.stamp.clock c e) none)
  where
    same : (a b : ℕ) → nat_eq a b ≡ true → a ≡ b
    same a b e = grind (arith)

    place : (t : Bool) (x : Option WriteRec) → (t ≡ true → is_some x ≡ false) → cond t (Some write) x ≡ cond t (option_or x (Some write)) x
    place true None h = refl
    place true (Some x) h = absurd (some (h refl))
      where
        some : true ≡ false → ⊥
        some e = cc
    place false x h = refl

-- no write is past the last clock, or past the one that was put in
pub put_up_to : (a b : List (ℕ × WriteRec)) (write : WriteRec) (clock last now : ℕ) → clock ≤ now → last ≤ now → ((c : ℕ) → at_clock b c ≡ cond (is_eq (nat_cmp clock c)) (Some write) (at_clock a c)) → IsUpTo last a → IsUpTo now b
put_up_to a b write clock last now this all in_ up_to c past =
    put_in clock c (at_clock a c) (at_clock b c) write (in_ c) (λ e. omega (arith, e, this, past)) ∙ up_to c (omega (arith, all, past))
