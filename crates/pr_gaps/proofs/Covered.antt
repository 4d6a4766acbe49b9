-- Clocks of one node that are told for one set.
use Rattle.std.proofs.Common.{◌≡◌, ℕ, ◌≤◌, ◌<◌, ◌+◌, List, length, get_or, set, ap, sym, subst, ◌∙◌, arith, inl, inr}
use Rattle.std.proofs.lemmas.Bool.{cases_lt}
use Rattle.std.proofs.lemmas.List.{get_or_default, get_or-set_same, get_or-set_other}
use Rattle.std.specs.Prelude.{◌⊎◌, ◌↔◌}
use Rattle.pr_vectors.specs.Vector.{clock_of}
use Rattle.pr_gaps.specs.Ranges.{HasClock, Run, no_clocks}

-- of one node, the points between the vectors are told too
abbrev pub IsNodeCovered : List ℕ → List ℕ → ℕ → Run → Run → Type 0
IsNodeCovered from to n now was = (c : ℕ) → HasClock now c ↔ (HasClock was c ⊎ ((clock_of from n < c) × (c ≤ clock_of to n)))

-- the clocks above one, up to another, are those from the next one
pub node_covered : (from to : List ℕ) (n : ℕ) (now was : Run) (lo hi : ℕ) → lo ≡ clock_of from n → hi ≡ clock_of to n → ((c : ℕ) → HasClock now c ↔ (HasClock was c ⊎ ((lo + 1 ≤ c) × (c ≤ hi)))) → IsNodeCovered from to n now was
node_covered from to n now was lo hi lo_is hi_is same c = (
  (λ has. elim ((same c).0 has) [ inl old ↦ inl old | inr new ↦ inr (omega (arith, new.0, lo_is), omega (arith, new.1, hi_is)) ]),
  (λ either. (same c).1 (elim either [ inl old ↦ inl old | inr new ↦ inr (omega (arith, new.0, lo_is), omega (arith, new.1, hi_is)) ])),
)

-- the node has no point between the vectors
pub node_same : (from to : List ℕ) (n : ℕ) → clock_of to n ≤ clock_of from n → (was : Run) → IsNodeCovered from to n was was
node_same from to n le was c = ((λ has. inl has), (λ either. elim either [ inl old ↦ old | inr new ↦ absurd (omega (arith, new.0, new.1, le)) ]))

-- the node has no point at all, and stays as it was
pub rest_same : (from to : List ℕ) (n : ℕ) (now was : Run) → clock_of to n ≡ 0 → now ≡ was → IsNodeCovered from to n now was
rest_same from to n now was none e = rw e (node_same from to n (omega (arith, none)) was)

-- one node alone has points between, and the others stay as they were
pub one_covered : (from to : List ℕ) (items : List Run) (n : ℕ) (old new : Run) → n < length items → old ≡ get_or items n old → IsNodeCovered from to n new old → ((k : ℕ) → k < 32 → clock_of from k < clock_of to k → k ≡ n) → (k : ℕ) → k < 32 → IsNodeCovered from to k (get_or (set items n new) k no_clocks) (get_or items k no_clocks)
one_covered from to items n old new within is covered alone k lt = elim (cases_lt k n) [
  | inl less ↦ other (λ e. omega (arith, less, e))
  | inr ge ↦ elim (cases_lt n k) [ inl more ↦ other (λ e. omega (arith, more, e)) | inr le ↦ same (omega (arith, ge, le)) ]
]
  where
    other : (k ≡ n → ⊥) → IsNodeCovered from to k (get_or (set items n new) k no_clocks) (get_or items k no_clocks)
    other apart = rw (get_or-set_other items n k new no_clocks apart) (elim (cases_lt (clock_of from k) (clock_of to k)) [
      | inl rises ↦ absurd (apart (alone k lt rises))
      | inr le ↦ node_same from to k le (get_or items k no_clocks)
    ])

    same : k ≡ n → IsNodeCovered from to k (get_or (set items n new) k no_clocks) (get_or items k no_clocks)
    same e =
        let now : get_or (set items n new) k no_clocks ≡ new = ap (λ i. get_or (set items n new) i no_clocks) e ∙ get_or-set_same items n new no_clocks within in
        let was : get_or items k no_clocks ≡ old = ap (λ i. get_or items i no_clocks) e ∙ get_or_default items n no_clocks old within ∙ sym is in
        rw (now, was) (subst (λ m. IsNodeCovered from to m new old) (sym e) covered)
