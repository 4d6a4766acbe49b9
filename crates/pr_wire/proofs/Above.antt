-- What a vector has above another.
use Rattle.std.proofs.Common.{◌≡◌, ℕ, zero, suc, ◌+◌, ◌≤◌, ◌<◌, Bool, true, false, List, ◌∷◌, length, IsTrue, refl, sym, ap, ◌∙◌, arith, inl, inr}
use Rattle.std.specs.Prelude.{◌↔◌}
use Rattle.std.proofs.lemmas.Bool.{cases_lt, lt-ltb, le-ltb, eqb-true, eq-eqb}
use Rattle.pr_vectors.specs.Vector.{clock_of, Le}
use Rattle.pr_wire.specs.Spelling.{above}
use Rattle.pr_wire.specs.Reading.{vector_le}

pub above_rise : (v w : List ℕ) (n k : ℕ) → clock_of v n < clock_of w n → above v w n (suc k) ≡ record { clock = clock_of w n; node = n } ∷ above v w (n + 1) k
unfolding above
above_rise v w n k lt = let e = lt-ltb (clock_of v n) (clock_of w n) lt in rw e refl

pub above_same : (v w : List ℕ) (n k : ℕ) → clock_of w n ≤ clock_of v n → above v w n (suc k) ≡ above v w (n + 1) k
unfolding above
above_same v w n k le = let e = le-ltb (clock_of v n) (clock_of w n) le in rw e refl

-- no node is above where each clock is at most the first vector's
pub none_above : (v w : List ℕ) (n k : ℕ) → ((m : ℕ) → n ≤ m → m < n + k → clock_of w m ≤ clock_of v m) → length (above v w n k) ≡ 0
unfolding above
none_above v w n zero le = refl
none_above v w n (suc k) le =
    ap length (above_same v w n k (le n (omega arith) (omega arith))) ∙ none_above v w (n + 1) k (λ m from to. le m (omega arith) (omega arith))

pub above_none : (v w : List ℕ) (n k : ℕ) → length (above v w n k) ≡ 0 → (m : ℕ) → n ≤ m → m < n + k → clock_of w m ≤ clock_of v m
above_none v w n zero e m from to = absurd (omega arith)
above_none v w n (suc k) e m from to =
    elim (cases_lt (clock_of v n) (clock_of w n)) [
      | inl lt ↦ let f = ap length (above_rise v w n k lt) in absurd (omega arith)
      | inr le ↦ elim (cases_lt n m) [
        | inl later ↦ above_none v w (n + 1) k (sym (ap length (above_same v w n k le)) ∙ e) m (omega arith) (omega arith)
        | inr here ↦ let at : m ≡ n = omega arith in rw at le
      ]
    ]

same_tests : (a b : Bool) → (a ≡ true → b ≡ true) → (b ≡ true → a ≡ true) → a ≡ b
same_tests true b f g = sym (f refl)
same_tests false true f g = g refl
same_tests false false f g = refl

pub le_true : (v w : List ℕ) → vector_le v w ≡ true → Le v w
unfolding vector_le
le_true v w e n lt = above_none w v 0 32 (eqb-true (length (above w v 0 32)) 0 e) n (omega arith) (omega arith)

pub true_le : (v w : List ℕ) → Le v w → vector_le v w ≡ true
unfolding vector_le
true_le v w le = eq-eqb (length (above w v 0 32)) 0 (none_above w v 0 32 (λ m from to. le m (omega arith)))

pub le_test : (v w : List ℕ) (b : Bool) → (IsTrue b ↔ Le v w) → b ≡ vector_le v w
le_test v w b h = same_tests b (vector_le v w) (λ e. true_le v w (h.0 e)) (λ e. h.1 (le_true v w e))
