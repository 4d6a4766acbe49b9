-- The tournament among the parts' heads.
use Rattle.std.proofs.Common.{◌≡◌, ◌≢◌, ℕ, ◌+◌, ◌-◌, ◌*◌, ◌/◌, ◌≤◌, ◌<◌, List, length, set, refl, sym, ◌∙◌, ap, subst, inl, inr, arith, zero, suc, zero-add}
use Rattle.std.specs.Prelude.{◌⊎◌, slice_index}
use Rattle.std.proofs.lemmas.Bool.Decides.{nat_tests}
use Rattle.std.proofs.lemmas.List.{get_or-set_same, get_or-set_other}
use Rattle.pr_merge.specs.Merged.{IsPlace, IsEarlier, time_at}
use Rattle.pr_merge.specs.Heads.{head, IsHead, IsNoLater, IsEarliest, half_times, IsUnder, IsWinner, IsPlayedAbove, IsPlayedBut}
use Rattle.pr_merge.proofs.Times.{taken, other_taken, same_or, less_or, earlier_numbers, known_part}

-- ---- nodes above a leaf

half_times-le : (k m : ℕ) → half_times k m ≤ m
half_times-le zero m = omega arith
half_times-le (suc k) m = omega (arith, half_times-le k m)

half_times-add : (d k m : ℕ) → half_times (d + k) m ≡ half_times d (half_times k m)
half_times-add zero k m = ap (λ (n : ℕ). half_times n m) (zero-add k)
half_times-add (suc d) k m =
    let more : suc d + k ≡ suc (d + k) = omega arith in
    ap (λ (n : ℕ). half_times n m) more ∙ ap (λ (n : ℕ). n / 2) (half_times-add d k m)

half_times-from : (d k l x m n : ℕ) → l ≡ d + k → half_times k x ≡ m → half_times l x ≡ n → n ≡ half_times d m
half_times-from d k l x m n is m_is n_is = sym n_is ∙ ap (λ (i : ℕ). half_times i x) is ∙ half_times-add d k x ∙ ap (half_times d) m_is

under_child : (m p : ℕ) → m < 32 → IsUnder m p → IsUnder (2 * m) p ⊎ IsUnder (2 * m + 1) p
under_child m p lt (zero, is) = absurd (omega (arith, lt, is))
under_child m p lt (suc k, is) = elim (parity (half_times k (32 + p)) m is) [ inl even ↦ inl (k, even) | inr odd ↦ inr (k, odd) ]
  where
    parity : (a m : ℕ) → a / 2 ≡ m → (a ≡ 2 * m) ⊎ (a ≡ 2 * m + 1)
    parity a m is = grind (arith, nat_tests)

pub under_parent : (m c p : ℕ) → c / 2 ≡ m → IsUnder c p → IsUnder m p
under_parent m c p half (k, is) = (suc k, ap (λ (n : ℕ). n / 2) is ∙ half)

under_leaf : (p q : ℕ) → p < 32 → q < 32 → IsUnder (32 + p) q → q ≡ p
under_leaf p q p_lt q_lt (zero, is) = omega (arith, is)
under_leaf p q p_lt q_lt (suc k, is) = absurd (omega (arith, is, q_lt, half_times-le k (32 + q)))

under_root : (p : ℕ) → p < 32 → IsUnder 1 p
under_root p lt = (5, omega (arith, lt))

-- of two nodes above one leaf the lesser is at most half of the other
under_half : (m n p : ℕ) → IsUnder m p → IsUnder n p → m < n → m ≤ n / 2
under_half m n p (k, k_is) (l, l_is) less = elim (less_or l k) [
  | inl lt ↦
      let is : m ≡ half_times (suc (k - suc l)) n = half_times-from (suc (k - suc l)) l k (32 + p) n m (omega (arith, lt)) l_is k_is in
      omega (arith, is, half_times-le (k - suc l) n)
  | inr le ↦
      let is : n ≡ half_times (l - k) m = half_times-from (l - k) k l (32 + p) m n (omega (arith, le)) k_is l_is in
      absurd (omega (arith, less, is, half_times-le (l - k) m))
]

-- ---- winners

module _ (parts : List (List ℕ)) where
  no_later_more : (next : List ℕ) (n m l : ℕ) → IsNoLater parts next n m → IsNoLater parts next m l → IsNoLater parts next n l
  no_later_more next n m l one two last = (middle.0, both middle.1 (two last).1)
    where
      middle : IsHead parts next n × ((n ≡ m) ⊎ IsEarlier parts (head next n) (head next m))
      middle = one (two last).0

      both : (n ≡ m) ⊎ IsEarlier parts (head next n) (head next m) → (m ≡ l) ⊎ IsEarlier parts (head next m) (head next l) → (n ≡ l) ⊎ IsEarlier parts (head next n) (head next l)
      both (inl same) rest = subst (λ (i : ℕ). (i ≡ l) ⊎ IsEarlier parts (head next i) (head next l)) (sym same) rest
      both (inr earlier) (inl same) = inr (subst (λ (i : ℕ). IsEarlier parts (head next n) (head next i)) same earlier)
      both (inr earlier) (inr too) = inr (earlier_numbers (time_at parts (head next n)) (time_at parts (head next m)) (time_at parts (head next l)) n m l earlier too)

  pub leaf_winner : (next : List ℕ) (p w : ℕ) → p < 32 → w ≡ p → IsWinner parts next (32 + p) w
  leaf_winner next p w lt is = subst (IsWinner parts next (32 + p)) (sym is) (record {
    known = lt;
    under = (0, refl);
    first = λ q q_lt under has. subst (λ (i : ℕ). IsHead parts next p × ((p ≡ i) ⊎ IsEarlier parts (head next p) (head next i))) (sym (under_leaf p q lt q_lt under))
        (subst (IsHead parts next) (under_leaf p q lt q_lt under) has, inl refl);
  })

  -- where each part stands at its leaf, the leaves are played
  pub all_leaves : (next winners : List ℕ) → ((p : ℕ) → p < 32 → slice_index winners (32 + p) ≡ p) → IsPlayedAbove parts next winners 31
  all_leaves next winners leaves m low most = subst (λ (i : ℕ). IsWinner parts next i (slice_index winners i)) leaf
      (leaf_winner next (m - 32) (slice_index winners (32 + (m - 32))) (omega (arith, low, most)) (leaves (m - 32) (omega (arith, low, most))))
    where
      leaf : 32 + (m - 32) ≡ m
      leaf = omega (arith, low)

  -- the winner of a node is one of those of its children that is no later than both
  pub played_winner : (next : List ℕ) (m a b w : ℕ) → m < 32 → IsWinner parts next (2 * m) a → IsWinner parts next (2 * m + 1) b → (w ≡ a) ⊎ (w ≡ b)
      → IsNoLater parts next w a → IsNoLater parts next w b → IsWinner parts next m w
  played_winner next m a b w lt left right either no_later_a no_later_b = record {
    known = elim either [ inl is ↦ omega (arith, is, left.known) | inr is ↦ omega (arith, is, right.known) ];
    under = elim either [
      | inl is ↦ subst (IsUnder m) (sym is) (under_parent m (2 * m) a (omega arith) left.under)
      | inr is ↦ subst (IsUnder m) (sym is) (under_parent m (2 * m + 1) b (omega arith) right.under)
    ];
    first = λ p p_lt under. elim (under_child m p lt under) [
      | inl is_left ↦ no_later_more next w a p no_later_a (left.first p p_lt is_left)
      | inr is_right ↦ no_later_more next w b p no_later_b (right.first p p_lt is_right)
    ];
  }

  -- a place of part p is taken, and the part is not under the node
  beside_winner : (next : List ℕ) (m w p : ℕ) → ¬ IsUnder m p → IsWinner parts next m w → IsWinner parts (taken next p) m w
  beside_winner next m w p not_under winner = record {
    known = winner.known;
    under = winner.under;
    first = λ q lt under. same_heads w q (other w winner.under) (other q under) (winner.first q lt under);
  }
    where
      other : (q : ℕ) → IsUnder m q → slice_index next q ≡ slice_index (taken next p) q
      other q under = sym (other_taken next p q (λ is. not_under (subst (IsUnder m) is under)))

      same_heads : (w q : ℕ) → slice_index next w ≡ slice_index (taken next p) w → slice_index next q ≡ slice_index (taken next p) q → IsNoLater parts next w q → IsNoLater parts (taken next p) w q
      same_heads w q w_is q_is no_later =
          subst (λ (a : ℕ). IsPlace parts (q, slice_index (taken next p) q) → IsPlace parts (w, a) × ((w ≡ q) ⊎ IsEarlier parts (w, a) (q, slice_index (taken next p) q))) w_is
          (subst (λ (b : ℕ). IsPlace parts (q, b) → IsPlace parts (w, slice_index next w) × ((w ≡ q) ⊎ IsEarlier parts (w, slice_index next w) (q, b))) q_is no_later)

  -- so only the nodes above its leaf are to be played again
  pub to_replay : (next winners : List ℕ) (p : ℕ) → p < 32 → IsPlayedAbove parts next winners 0 → IsPlayedBut parts (taken next p) winners ((32 + p) / 2) p
  to_replay next winners p lt played = record {
    above = λ m lowest most. elim (same_or m (32 + p)) [
      | inl is ↦ subst (λ (i : ℕ). IsWinner parts (taken next p) i (slice_index winners i)) (sym is) leaf
      | inr is_not ↦ beside_winner next m (slice_index winners m) p (λ under. elim (less_or m (32 + p)) [
        | inl less ↦ absurd (omega (arith, lowest, under_half m (32 + p) p under (0, refl) less))
        | inr le ↦ too_high m is_not le under
      ]) (played m (omega (arith, lowest)) most)
    ];
    beside = λ m some most not_under. beside_winner next m (slice_index winners m) p not_under (played m some most);
  }
    where
      too_high : (m : ℕ) → m ≢ 32 + p → 32 + p ≤ m → IsUnder m p → ⊥
      too_high m is_not le (k, is) = is_not (omega (arith, le, is, half_times-le k (32 + p)))

      leaf : IsWinner parts (taken next p) (32 + p) (slice_index winners (32 + p))
      leaf =
          let was : IsWinner parts next (32 + p) (slice_index winners (32 + p)) = played (32 + p) (omega arith) (omega (arith, lt)) in
          leaf_winner (taken next p) p (slice_index winners (32 + p)) lt (under_leaf p (slice_index winners (32 + p)) lt was.known was.under)

  -- ---- one node more is played

  module _ (next winners : List ℕ) (node w : ℕ) (within : node < length winners) (winner : IsWinner parts next node w) where
    set_here : IsWinner parts next node (slice_index (set winners node w) node)
    set_here = subst (IsWinner parts next node) (sym (get_or-set_same winners node w 0 within)) winner

    set_other : (m : ℕ) → m ≢ node → IsWinner parts next m (slice_index winners m) → IsWinner parts next m (slice_index (set winners node w) m)
    set_other m is_not was = subst (IsWinner parts next m) (sym (get_or-set_other winners node m w 0 is_not)) was

    set_from : (m : ℕ) → node ≤ m → m < 64 → IsPlayedAbove parts next winners node → IsWinner parts next m (slice_index (set winners node w) m)
    set_from m le most played = elim (same_or m node) [
      | inl is ↦ subst (λ (i : ℕ). IsWinner parts next i (slice_index (set winners node w) i)) (sym is) set_here
      | inr is_not ↦ set_other m is_not (played m (omega (arith, le, is_not)) most)
    ]

    pub played_more : (lowest : ℕ) → lowest + 1 ≡ node → IsPlayedAbove parts next winners node → IsPlayedAbove parts next (set winners node w) lowest
    played_more lowest is played m less most = set_from m (omega (arith, is, less)) most played

    pub replayed_more : (p : ℕ) → IsUnder node p → IsPlayedBut parts next winners node p → IsPlayedBut parts next (set winners node w) (node / 2) p
    replayed_more p under played = record {
      above = λ m lowest most. elim (less_or m node) [
        | inl less ↦ set_other m (omega (arith, less)) (played.beside m (omega (arith, lowest)) most (λ m_under. absurd (omega (arith, lowest, under_half m node p m_under under less))))
        | inr le ↦ set_from m le most played.above
      ];
      beside = λ m some most not_under. set_other m (λ is. not_under (subst (λ (i : ℕ). IsUnder i p) (sym is) under)) (played.beside m some most not_under);
    }

  -- ---- the winner of all

  pub root_earliest : (next winners : List ℕ) → length parts ≤ 32 → IsPlayedAbove parts next winners 0 → IsHead parts next (slice_index winners 1) → IsEarliest parts next (slice_index winners 1)
  root_earliest next winners few played has = (has, λ m head_m. (played 1 (omega arith) (omega arith)).first m (omega (arith, few, known_part parts m (slice_index next m) head_m)) (under_root m (omega (arith, few, known_part parts m (slice_index next m) head_m))) head_m)

  pub root_none : (next winners : List ℕ) → length parts ≤ 32 → IsPlayedAbove parts next winners 0 → ¬ IsHead parts next (slice_index winners 1) → (m : ℕ) → ¬ IsHead parts next m
  root_none next winners few played none m head_m =
      let lt : m < 32 = omega (arith, few, known_part parts m (slice_index next m) head_m) in
      none ((played 1 (omega arith) (omega arith)).first m lt (under_root m lt) head_m).0
