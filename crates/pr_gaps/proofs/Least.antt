-- The least point that is not told, node by node.
use Rattle.std.proofs.Common.{◌≡◌, ℕ, ◌≤◌, ◌<◌, ◌+◌, List, get_or, Option, None, Some, refl, sym, ◌∙◌, ap, subst, arith, inl, inr, nat_eq, cond, Bool, true, false, [], zero, suc}
use Rattle.std.specs.Prelude.{◌⊎◌, max, min, IsSome, IfSome}
use Rattle.std.proofs.lemmas.Bool.Decides.{nat_tests}
use Rattle.pr_stamps.specs.Point.{Point, Before, IsStamp}
use Rattle.pr_stamps.proofs.Places.{below_or}
use Rattle.pr_vectors.specs.Vector.{IsVector, Covers, clock_of, raised, zero_vector}
use Rattle.pr_vectors.proofs.Vectors.{clock_of-vector_of, is-vector_of}
use Rattle.pr_gaps.specs.Rows.{HasPoint}
use Rattle.pr_gaps.specs.Ranges.{Run}
use Rattle.pr_gaps.specs.Gaps.{IsToldIn, IsLeastOutside, IsNodeOutside, IsLesser, Told, IsOwnTold}
use Rattle.pr_vectors.specs.UpTo.{IsLastClock}

less_or : (a n : ℕ) → (a < n) ⊎ (n ≤ a)
less_or a n = grind (arith, nat_tests)

at_node : (T : Point → Type 0) (q : Point) (n : ℕ) → q.node ≡ n → T (record { clock = q.clock; node = n }) → T q
at_node T q n is told = subst (λ k. T (record { clock = q.clock; node = k })) (sym is) told

before_same : (qc qn bc bn : ℕ) → qn ≡ bn → (qc < bc) ⊎ ((qc ≡ bc) × (qn < bn)) → qc < bc
before_same qc qn bc bn same before = grind (arith, nat_tests)

before_more : (qc qn bc bn ac an : ℕ) → (qc < bc) ⊎ ((qc ≡ bc) × (qn < bn)) → (bc < ac) ⊎ ((bc ≡ ac) × (bn < an)) → (qc < ac) ⊎ ((qc ≡ ac) × (qn < an))
before_more qc qn bc bn ac an one two = grind (arith, nat_tests)

before_up : (qc qn bc bn ac an : ℕ) → qn ≡ bn → bc ≤ qc → (qc < ac) ⊎ ((qc ≡ ac) × (qn < an)) → (bc < ac) ⊎ ((bc ≡ ac) × (bn < an))
before_up qc qn bc bn ac an same le before = grind (arith, nat_tests)

-- a point of the node that is not T is not before the node's least
not_before : (T : Point → Type 0) (v : List ℕ) (n : ℕ) (b q : Point) → IsNodeOutside T v n (Some b) → q.node ≡ n → 1 ≤ q.clock → ¬ T q → ¬ Before q b
not_before T v n b q (node, one, most, out, below) is from untold before =
    untold (at_node T q n is (below q.clock from (before_same q.clock q.node b.clock b.node (is ∙ sym node) before)))

-- the node has none
pub least_same : (T : Point → Type 0) (v : List ℕ) (n : ℕ) (a : Option Point) → IsLeastOutside T v n a → IsNodeOutside T v n None → IsLeastOutside T v (n + 1) a
least_same T v n None least found = λ p lt covers. elim (below_or p.node n lt) [
  | inl less ↦ least p less covers
  | inr here ↦ at_node T p n here (found p.clock covers.0 (subst (λ k. p.clock ≤ clock_of v k) here covers.1))
]
least_same T v n (Some a) (lt, covers, out, least) found = (
  omega (arith, lt),
  covers,
  out,
  λ q below counts untold. elim (below_or q.node n below) [
    | inl less ↦ least q less counts untold
    | inr here ↦ absurd (untold (at_node T q n here (found q.clock counts.0 (subst (λ k. q.clock ≤ clock_of v k) here counts.1))))
  ],
)

-- the least so far, and the node's least
pub least_more : (T : Point → Type 0) (v : List ℕ) (n : ℕ) (a : Option Point) (b r : Point) → IsLeastOutside T v n a → IsNodeOutside T v n (Some b) → IsLesser a b r → IsLeastOutside T v (n + 1) (Some r)
least_more T v n None b r least (node, one, most, out, below) is =
    subst (λ x. IsLeastOutside T v (n + 1) (Some x)) (sym is) (
      omega (arith, node),
      (one, subst (λ k. b.clock ≤ clock_of v k) (sym node) most),
      out,
      λ q lt covers untold. elim (below_or q.node n lt) [
        | inl less ↦ absurd (untold (least q less covers))
        | inr here ↦ not_before T v n b q (node, one, most, out, below) here covers.0 untold
      ],
    )
least_more T v n (Some a) b r (lt, covers, out, least) (node, one, most, outside, below) (inl (is, before)) =
    subst (λ x. IsLeastOutside T v (n + 1) (Some x)) (sym is) (
      omega (arith, node),
      (one, subst (λ k. b.clock ≤ clock_of v k) (sym node) most),
      outside,
      λ q within counts untold. elim (below_or q.node n within) [
        | inl less ↦ λ earlier. least q less counts untold (before_more q.clock q.node b.clock b.node a.clock a.node earlier before)
        | inr here ↦ not_before T v n b q (node, one, most, outside, below) here counts.0 untold
      ],
    )
least_more T v n (Some a) b r (lt, covers, out, least) (node, one, most, outside, below) (inr (is, after)) =
    subst (λ x. IsLeastOutside T v (n + 1) (Some x)) (sym is) (
      omega (arith, lt),
      covers,
      out,
      λ q within counts untold. elim (below_or q.node n within) [
        | inl less ↦ least q less counts untold
        | inr here ↦ λ earlier. elim (less_or q.clock b.clock) [
          | inl smaller ↦ untold (at_node T q n here (below q.clock counts.0 smaller))
          | inr greater ↦ after (before_up q.clock q.node b.clock b.node a.clock a.node (here ∙ sym node) greater earlier)
        ]
      ],
    )

-- the nodes from n on have no covered point
pub least_behind : (T : Point → Type 0) (v : List ℕ) (n : ℕ) (a : Option Point) → n ≤ 32 → ((k : ℕ) → n ≤ k → k < 32 → clock_of v k ≡ 0) → IsLeastOutside T v n a → IsLeastOutside T v 32 a
least_behind T v n None le none least = λ p lt covers. elim (less_or p.node n) [
  | inl before ↦ least p before covers
  | inr past ↦ absurd (omega (arith, covers.0, covers.1, none p.node past lt))
]
least_behind T v n (Some a) le none (lt, covers, out, least) = (
  omega (arith, lt, le),
  covers,
  out,
  λ q below counts untold. elim (less_or q.node n) [
    | inl before ↦ least q before counts untold
    | inr past ↦ absurd (omega (arith, counts.0, counts.1, none q.node past below))
  ],
)

-- ---- one node

pub clock_min : (row : List Run) (own n most run m : ℕ) (v : List ℕ) → m ≡ min run most → most ≡ clock_of v n → ¬ (n ≡ own) → ((c : ℕ) → 1 ≤ c → c ≤ run → HasPoint row (record { clock = c; node = n })) → ¬ HasPoint row (record { clock = run + 1; node = n }) → IsLastClock (IsToldIn own v row) v n m
clock_min row own n most run m v is most_is other within end = (
  omega (arith, is, most_is),
  (λ c one le. inr (within c one (omega (arith, is)))),
  (λ less told. elim told [
    | inl own_point ↦ other own_point.0
    | inr has ↦ end (subst (λ k. HasPoint row (record { clock = k + 1; node = n })) (is_run m run most is (omega (arith, most_is))) has)
  ]),
)
  where
    is_run : (m run most : ℕ) → m ≡ min run most → m < most → m ≡ run
    is_run m run most is less = grind (arith, nat_tests)

-- none of the node's points is covered
pub clock_none : (row : List Run) (own n most : ℕ) (v : List ℕ) → most ≡ clock_of v n → most ≡ 0 → IsLastClock (IsToldIn own v row) v n 0
clock_none row own n most v is nothing = (
  omega arith,
  (λ c one le. absurd (omega (arith, one, le))),
  (λ less told. absurd (omega (arith, less, is, nothing))),
)

pub clock_own : (row : List Run) (own n most : ℕ) (v : List ℕ) → most ≡ clock_of v n → n ≡ own → IsLastClock (IsToldIn own v row) v n most
clock_own row own n most v is here = (
  omega (arith, is),
  (λ c one le. inl (here, (one, omega (arith, is)))),
  (λ less. absurd (omega (arith, is))),
)

pub node_some : (T : Point → Type 0) (v : List ℕ) (n clock : ℕ) (r : Option Point) → IsLastClock T v n clock → clock < clock_of v n → r ≡ Some (record { clock = clock + 1; node = n }) → IsNodeOutside T v n r
node_some T v n clock r (le, within, end) less is =
    subst (IsNodeOutside T v n) (sym is) (refl, omega arith, omega arith, end less, λ c one lt. within c one (omega arith))

pub node_none : (T : Point → Type 0) (v : List ℕ) (n clock : ℕ) → IsLastClock T v n clock → clock_of v n ≤ clock → IsNodeOutside T v n None
node_none T v n clock (le, within, end) more c one most = within c one (omega arith)

-- ---- a vector with a clock joined in

zero_nat : (b : Bool) (x : ℕ) → x ≡ cond b (max x 0) x
zero_nat true x = omega arith
zero_nat false x = refl

pub raised_zero : (v : List ℕ) (n clock : ℕ) → IsVector v → clock ≡ 0 → v ≡ raised v (record { clock = clock; node = n })
raised_zero v n clock range is =
    is-vector_of _ v range.nodes (λ k lt. zero_nat (nat_eq k n) (clock_of v k) ∙ ap (λ z. cond (nat_eq k n) (max (clock_of v k) z) (clock_of v k)) (sym is))

raised_nat : (k n c z : ℕ) → z ≡ 0 → k ≡ n → cond (nat_eq k n) (max z c) z ≡ c
raised_nat k n c z zero_is here = grind (arith, nat_tests)

other_nat : (k n c z : ℕ) → ¬ (k ≡ n) → cond (nat_eq k n) (max z c) z ≡ z
other_nat k n c z other = grind (arith, nat_tests)

-- a node more is raised to its clock
pub raised_more : (T : Point → Type 0) (v p : List ℕ) (n clock : ℕ) → n < 32 → IsLastClock T v n clock → ((w : ℕ) → w < n → IsLastClock T v w (clock_of p w)) → ((w : ℕ) → w < 32 → n ≤ w → clock_of p w ≡ 0) → (w : ℕ) → w < n + 1 → IsLastClock T v w (clock_of (raised p (record { clock = clock; node = n })) w)
raised_more T v p n clock lt here done rest w less = elim (below_or w n less) [
  | inl before ↦ subst (IsLastClock T v w) (sym (clock_of-vector_of _ w (omega arith) ∙ other_nat w n clock (clock_of p w) (λ e. omega (arith, e)))) (done w before)
  | inr same ↦ subst (IsLastClock T v w) (sym (clock_of-vector_of _ w (omega (arith, same)) ∙ raised_nat w n clock (clock_of p w) (rest w (omega (arith, same)) (omega (arith, same))) same)) (subst (λ k. IsLastClock T v k clock) (sym same) here)
]

pub raised_rest : (p : List ℕ) (n clock : ℕ) → ((w : ℕ) → w < 32 → n ≤ w → clock_of p w ≡ 0) → (w : ℕ) → w < 32 → n + 1 ≤ w → clock_of (raised p (record { clock = clock; node = n })) w ≡ 0
raised_rest p n clock rest w lt le = clock_of-vector_of _ w lt ∙ other_nat w n clock (clock_of p w) (λ e. omega (arith, e)) ∙ rest w lt (omega arith)

pub zero_rest : (w : ℕ) → w < 32 → clock_of zero_vector w ≡ 0
zero_rest w lt = clock_of-vector_of (λ _. 0) w lt

-- ---- own points

grows_nat : (k n x c : ℕ) → x ≤ cond (nat_eq k n) (max x c) x
grows_nat k n x c = grind (arith, nat_tests)

covers_raised : (v : List ℕ) (s p : Point) → p.node < 32 → Covers v p → Covers (raised v s) p
covers_raised v s p lt covers = (covers.0, omega (arith, covers.1, clock_of-vector_of (λ n. cond (nat_eq n s.node) (max (clock_of v n) s.clock) (clock_of v n)) p.node lt, grows_nat p.node s.node (clock_of v p.node) s.clock))

pub is_own_told : (a b : Told) (clock : ℕ) → b.node ≡ a.node → b.sets ≡ a.sets → b.rows ≡ a.rows → b.vector ≡ raised a.vector (record { clock = clock; node = a.node }) → IsOwnTold a b clock
is_own_told a b clock node sets rows vector = record {
  node = node;
  sets = sets;
  vector = vector;
  told = λ i p le lt. (
    (λ h. elim h [ inl own ↦ inl (own.0 ∙ node, own.1) | inr has ↦ inr (inr (subst (λ r. HasPoint (get_or r i []) p) rows has)) ]),
    (λ h. elim h [
      | inl own ↦ inl (own.0 ∙ sym node, own.1)
      | inr told ↦ elim told [
        | inl own ↦ inl (own.0 ∙ sym node, subst (λ v. Covers v p) (sym vector) (covers_raised a.vector _ p lt own.1))
        | inr has ↦ inr (subst (λ r. HasPoint (get_or r i []) p) (sym rows) has)
      ]
    ]),
  );
}

-- ---- stamps in range

none_is : false ≡ true → ⊥
none_is e = cc

pub some_is : (r : Option Point) (p : Point) → IsSome r → IfSome r (λ s. s ≡ p) → r ≡ Some p
some_is None p is value = absurd (none_is is)
some_is (Some s) p is value = ap Some value

pub no_stamp : (r : Option Point) (clock node : ℕ) → r ≡ None → (IsStamp (record { clock = clock; node = node }) → IsSome r) → node < 32 → clock ≤ 4611686018427387903 → clock ≡ 0
no_stamp r zero node is some lt le = refl
no_stamp r (suc k) node is some lt le =
    absurd (none_is (subst IsSome is (some (record { from_one = omega arith; most = le; known_node = lt }))))

pub is_stamp : (clock node : ℕ) (v : List ℕ) → clock < clock_of v node → IsVector v → node < 32 → IsStamp (record { clock = clock + 1; node = node })
is_stamp clock node v less range lt = record { from_one = omega arith; most = omega (arith, range.most node lt); known_node = lt }
