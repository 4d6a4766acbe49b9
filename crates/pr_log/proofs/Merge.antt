-- The merge of the nodes' known writes past a position, in the order of stamps.
use Rattle.std.proofs.Common.{◌≡◌, ℕ, ◌≤◌, ◌<◌, ◌+◌, zero, suc, List, [], ◌∷◌, length, replicate, set, Option, None, Some, Bool, true, false, refl, sym, ◌∙◌, ap, subst, arith, nat_lt, inl, inr, ◌≢◌, cond}
use Rattle.std.specs.Prelude.{◌⊎◌, option_copied}
use Rattle.std.specs.Borrow.{Bor}
use Rattle.std.specs.Ordering.{is_eq, nat_cmp}
use Rattle.std.proofs.lemmas.List.{get_or-replicate, get_or-set_same, get_or-set_other, get_or_past, length-replicate, length-set}
use Rattle.std.proofs.lemmas.List.Sums.{sum_by-cons}
use Rattle.std.proofs.lemmas.Bool.Decides.{nat_tests}
use Rattle.pr_stamps.specs.Point.{Point, Before}
use Rattle.pr_names.specs.Span.{Span}
use Rattle.pr_sets.specs.Spans.{has}
use Rattle.pr_vectors.specs.Vector.{clock_of}
use Rattle.pr_inval.specs.declared.write_rec.WriteRec.{WriteRec}
use Rattle.pr_log.specs.Known.{Has, IsByStamp, IsFirstAbove, IsWaiting, at_clock, count_above, row_of, total, uncovered, write_at}
use Rattle.pr_log.specs.Waiting.{AreListed, IsLeastHead, IsLesser, IsNextOf, head_of, node_at}
use Rattle.pr_log.proofs.Clocks.{less_or, same_some, some_none}
use Rattle.pr_log.proofs.Places.{this_or_other}
use Rattle.pr_stamps.proofs.Places.{below_or}

-- ---- counts

abbrev pub one : Bool → ℕ
one b = cond b 1 0

pub count_more : (e : ℕ × WriteRec) (es : List (ℕ × WriteRec)) (c : ℕ) → count_above (e ∷ es) c ≡ one (nat_lt c e.0) + count_above es c
count_more e es c = sum_by-cons (λ x. one (nat_lt c x.0)) e es

-- the entries above a clock, and above a later one that has a write
pub count_less : (row : List (ℕ × WriteRec)) (c k : ℕ) (w : WriteRec) → at_clock row k ≡ Some w → c < k → count_above row k + 1 ≤ count_above row c
count_less [] c k w is lt = absurd (some_none w (sym is))
count_less (e ∷ es) c k w is lt = elim (this_or_other k e.0) [
  | inl here ↦ omega (arith, count_more e es c, count_more e es k, above e.0 c k here lt, below e.0 k here, count_most es c k lt)
  | inr other ↦ omega (arith, count_more e es c, count_more e es k, more e.0 c k lt, count_less es c k w (sym (ap (λ b. cond b (Some e.1) (at_clock es k)) (not_this k e.0 other)) ∙ is) lt)
]
  where
    not_this : (a b : ℕ) → ¬ (a ≡ b) → is_eq (nat_cmp a b) ≡ false
    not_this a b h = grind (arith, nat_tests)

    above : (e c k : ℕ) → k ≡ e → c < k → one (nat_lt c e) ≡ 1
    above e c k here lt = grind (arith, nat_tests)

    below : (e k : ℕ) → k ≡ e → one (nat_lt k e) ≡ 0
    below e k here = grind (arith, nat_tests)

    more : (e c k : ℕ) → c < k → one (nat_lt k e) ≤ one (nat_lt c e)
    more e c k lt = grind (arith, nat_tests)

    count_most : (row : List (ℕ × WriteRec)) (c k : ℕ) → c < k → count_above row k ≤ count_above row c
    count_most [] c k lt = omega arith
    count_most (e ∷ es) c k lt = omega (arith, count_more e es c, count_more e es k, more e.0 c k lt, count_most es c k lt)

-- ---- sums over the nodes

pub total_most : (f g : ℕ → ℕ) (n : ℕ) → ((k : ℕ) → k < n → g k ≤ f k) → total g n ≤ total f n
unfolding total
total_most f g zero each = omega arith
total_most f g (suc n) each = omega (arith, total_most f g n (λ k lt. each k (omega (arith, lt))), each n (omega arith))

pub total_less : (f g : ℕ → ℕ) (n at : ℕ) → at < n → g at + 1 ≤ f at → ((k : ℕ) → k < n → ¬ (k ≡ at) → g k ≤ f k) → total g n + 1 ≤ total f n
unfolding total
total_less f g zero at lt less each = absurd (omega (arith, lt))
total_less f g (suc n) at lt less each = elim (this_or_other at n) [
  | inl last ↦ omega (arith, total_most f g n (λ k below. each k (omega (arith, below)) (λ e. omega (arith, e, below, last))), subst (λ k. g k + 1 ≤ f k) last less)
  | inr before ↦ omega (arith, total_less f g n at (omega (arith, lt, before_it at n lt before)) less (λ k below. each k (omega (arith, below))), each n (omega arith) (λ e. before (sym e)))
]
  where
    before_it : (at n : ℕ) → at < suc n → ¬ (at ≡ n) → at < n
    before_it at n lt other = grind arith

-- ---- heads

-- how many writes of a node are left: the head and those above it
abbrev pub left_at : List (ℕ × WriteRec) → Option WriteRec → ℕ
left_at row None = 0
left_at row (Some w) = count_above row w.stamp.clock + 1

abbrev pub left : List (List (ℕ × WriteRec)) → List (Option (Bor WriteRec)) → ℕ
left rows heads = total (λ n. left_at (row_of rows n) (head_of heads n)) 32

abbrev pub IsReached : Option WriteRec → ℕ → Type 0
IsReached None c = ⊥
IsReached (Some w) c = w.stamp.clock ≤ c

-- the head is a known write past the position, and no known write to one of the names comes before it
pub record IsHead (rows : List (List (ℕ × WriteRec))) (pos : List ℕ) (sub : List Span) (n : ℕ) (head : Option WriteRec) : Type 0 where
  pub known : (w : WriteRec) → head ≡ Some w → Has rows w × (w.stamp.node ≡ n) × (clock_of pos n < w.stamp.clock)
  pub behind : (x : WriteRec) → Has rows x → x.stamp.node ≡ n → clock_of pos n < x.stamp.clock → has sub x.name ≡ true → IsReached head x.stamp.clock

pub first_head : (rows : List (List (ℕ × WriteRec))) (pos : List ℕ) (sub : List Span) (n : ℕ) (head : Option WriteRec) → IsFirstAbove rows n (clock_of pos n) head → IsHead rows pos sub n head
first_head rows pos sub n None first = record { known = λ w is. absurd (some_none w (sym is)); behind = λ x known node past in_sub. omega (arith, first x known node, past) }
first_head rows pos sub n (Some w) (known, node, past, least) = record {
  known = λ v is. subst (λ (u : WriteRec). Has rows u × (u.stamp.node ≡ n) × (clock_of pos n < u.stamp.clock)) (same_some w v is) (known, node, past);
  behind = λ x has_x node_x past_x in_sub. least x has_x node_x past_x;
}

-- a head to none of the names is passed
pub next_head : (rows : List (List (ℕ × WriteRec))) (pos : List ℕ) (sub : List Span) (n : ℕ) (w : WriteRec) (head : Option WriteRec) → Has rows w → w.stamp.node ≡ n → clock_of pos n < w.stamp.clock → has sub w.name ≡ false → ((x : WriteRec) → Has rows x → x.stamp.node ≡ n → clock_of pos n < x.stamp.clock → has sub x.name ≡ true → w.stamp.clock ≤ x.stamp.clock) → IsFirstAbove rows n w.stamp.clock head → IsHead rows pos sub n head
next_head rows pos sub n w head known node past out behind first = record {
  known = λ v is. known_of head first v is;
  behind = λ x has_x node_x past_x in_sub. elim (at_or_above w.stamp.clock x.stamp.clock (behind x has_x node_x past_x in_sub)) [
    | inl same ↦ absurd (true_false (sym in_sub ∙ ap (λ (v : WriteRec). has sub v.name) (sym (same_write x has_x node_x same)) ∙ out))
    | inr above ↦ reached head first x has_x node_x above
  ];
}
  where
    true_false : true ≡ false → ⊥
    true_false e = cc

    at_or_above : (a b : ℕ) → a ≤ b → (a ≡ b) ⊎ (a < b)
    at_or_above a b le = grind arith

    point_is : (p q : Point) → p.clock ≡ q.clock → p.node ≡ q.node → p ≡ q
    point_is p q clock same = ap (λ k. record { clock = k; node = p.node }) clock ∙ ap (λ k. record { clock = q.clock; node = k }) same

    same_write : (x : WriteRec) → Has rows x → x.stamp.node ≡ n → w.stamp.clock ≡ x.stamp.clock → w ≡ x
    same_write x has_x node_x same = same_some w x (sym known ∙ ap (write_at rows) (point_is w.stamp x.stamp same (node ∙ sym node_x)) ∙ has_x)

    known_of : (head : Option WriteRec) → IsFirstAbove rows n w.stamp.clock head → (v : WriteRec) → head ≡ Some v → Has rows v × (v.stamp.node ≡ n) × (clock_of pos n < v.stamp.clock)
    known_of None first v is = absurd (some_none v (sym is))
    known_of (Some u) (has_u, node_u, above, least) v is = subst (λ (u : WriteRec). Has rows u × (u.stamp.node ≡ n) × (clock_of pos n < u.stamp.clock)) (same_some u v is) (has_u, node_u, omega (arith, above, past))

    reached : (head : Option WriteRec) → IsFirstAbove rows n w.stamp.clock head → (x : WriteRec) → Has rows x → x.stamp.node ≡ n → w.stamp.clock < x.stamp.clock → IsReached head x.stamp.clock
    reached None first x has_x node_x above = omega (arith, first x has_x node_x, above)
    reached (Some u) (has_u, node_u, past_u, least) x has_x node_x above = least x has_x node_x above

-- nodes with no known write have no head
pub rest_heads : (rows : List (List (ℕ × WriteRec))) (pos : List ℕ) (heads : List (Option (Bor WriteRec))) (n : ℕ) → ((x : WriteRec) → Has rows x → x.stamp.node < n) → ((k : ℕ) → n ≤ k → head_of heads k ≡ None) → ((k : ℕ) → k < n → IsFirstAbove rows k (clock_of pos k) (head_of heads k)) → (k : ℕ) → k < 32 → IsFirstAbove rows k (clock_of pos k) (head_of heads k)
rest_heads rows pos heads n within behind each k lt = elim (less_or k n) [
  | inl less ↦ each k less
  | inr past ↦ subst (IsFirstAbove rows k (clock_of pos k)) (sym (behind k past)) (λ x has node. absurd (omega (arith, within x has, node, past)))
]

pub rest_listed : (heads : List (Option (Bor WriteRec))) (nodes : List ℕ) (count n : ℕ) → n ≤ 32 → ((k : ℕ) → n ≤ k → head_of heads k ≡ None) → AreListed heads nodes count n → AreListed heads nodes count 32
rest_listed heads nodes count n most behind listed = record {
  len = listed.len;
  few = omega (arith, listed.few, most);
  known = listed.known;
  all = λ m w lt is. elim (less_or m n) [ inl less ↦ listed.all m w less is | inr past ↦ absurd (some_none w (sym is ∙ behind m past)) ];
}

-- ---- counting the heads

head_at : (rows : List (List (ℕ × WriteRec))) (n : ℕ) (w : WriteRec) → Has rows w → w.stamp.node ≡ n → at_clock (row_of rows n) w.stamp.clock ≡ Some w
head_at rows n w known node = subst (λ k. at_clock (row_of rows k) w.stamp.clock ≡ Some w) node known

pub first_left : (rows : List (List (ℕ × WriteRec))) (n c : ℕ) (head : Option WriteRec) → IsFirstAbove rows n c head → left_at (row_of rows n) head ≤ count_above (row_of rows n) c
first_left rows n c None first = omega arith
first_left rows n c (Some w) (known, node, past, least) = count_less (row_of rows n) c w.stamp.clock w (head_at rows n w known node) past

pub next_left : (rows : List (List (ℕ × WriteRec))) (n c : ℕ) (head : Option WriteRec) → IsFirstAbove rows n c head → left_at (row_of rows n) head + 1 ≤ count_above (row_of rows n) c + 1
next_left rows n c head first = omega (arith, first_left rows n c head first)

-- ---- the least head

before_more : (qc qn bc bn ac an : ℕ) → (qc < bc) ⊎ ((qc ≡ bc) × (qn < bn)) → ¬ ((qc < ac) ⊎ ((qc ≡ ac) × (qn < an))) → ¬ ((bc < ac) ⊎ ((bc ≡ ac) × (bn < an)))
before_more qc qn bc bn ac an one two three = grind (arith, nat_tests)

not_itself : (c n : ℕ) → ¬ ((c < c) ⊎ ((c ≡ c) × (n < n)))
not_itself c n h = grind (arith, nat_tests)

pub least_more : (head : ℕ → Option WriteRec) (n : ℕ) (a b r : Option WriteRec) → IsLeastHead head n a → head n ≡ b → IsLesser a b r → IsLeastHead head (n + 1) r
least_more head n None None r least is lesser = subst (IsLeastHead head (n + 1)) (sym lesser) (λ k lt. elim (below_or k n lt) [ inl less ↦ least k less | inr here ↦ ap head here ∙ is ])
least_more head n None (Some b) r least is lesser = subst (IsLeastHead head (n + 1)) (sym lesser) (
  n,
  omega arith,
  is,
  λ j u lt at. elim (below_or j n lt) [
    | inl less ↦ absurd (some_none u (sym at ∙ least j less))
    | inr here ↦ subst (λ (v : WriteRec). ¬ Before v.stamp b.stamp) (same_some b u (sym is ∙ ap head (sym here) ∙ at)) (not_itself b.stamp.clock b.stamp.node)
  ],
)
least_more head n (Some a) None r (k, lt, at, least) is lesser = subst (IsLeastHead head (n + 1)) (sym lesser) (
  k,
  omega (arith, lt),
  at,
  λ j u below at_j. elim (below_or j n below) [
    | inl less ↦ least j u less at_j
    | inr here ↦ absurd (some_none u (sym at_j ∙ ap head here ∙ is))
  ],
)
least_more head n (Some a) (Some b) r (k, lt, at, least) is (inl (chosen, before)) = subst (IsLeastHead head (n + 1)) (sym chosen) (
  n,
  omega arith,
  is,
  λ j u below at_j. elim (below_or j n below) [
    | inl less ↦ λ earlier. least j u less at_j (before_all u.stamp.clock u.stamp.node b.stamp.clock b.stamp.node a.stamp.clock a.stamp.node earlier before)
    | inr here ↦ subst (λ (v : WriteRec). ¬ Before v.stamp b.stamp) (same_some b u (sym is ∙ ap head (sym here) ∙ at_j)) (not_itself b.stamp.clock b.stamp.node)
  ],
)
  where
    before_all : (qc qn bc bn ac an : ℕ) → (qc < bc) ⊎ ((qc ≡ bc) × (qn < bn)) → (bc < ac) ⊎ ((bc ≡ ac) × (bn < an)) → (qc < ac) ⊎ ((qc ≡ ac) × (qn < an))
    before_all qc qn bc bn ac an one two = grind (arith, nat_tests)
least_more head n (Some a) (Some b) r (k, lt, at, least) is (inr (chosen, after)) = subst (IsLeastHead head (n + 1)) (sym chosen) (
  k,
  omega (arith, lt),
  at,
  λ j u below at_j. elim (below_or j n below) [
    | inl less ↦ least j u less at_j
    | inr here ↦ subst (λ (v : WriteRec). ¬ Before v.stamp a.stamp) (same_some b u (sym is ∙ ap head (sym here) ∙ at_j)) after
  ],
)

-- ---- the nodes that are listed

-- the least of those that are listed is the least of all
pub least_listed : (heads : List (Option (Bor WriteRec))) (nodes : List ℕ) (count : ℕ) (r : Option WriteRec) → AreListed heads nodes count 32 → IsLeastHead (λ k. head_of heads (node_at nodes k)) count r → IsLeastHead (head_of heads) 32 r
least_listed heads nodes count None listed none = λ m lt. at m lt (head_of heads m) refl
  where
    at : (m : ℕ) → m < 32 → (head : Option WriteRec) → head_of heads m ≡ head → head_of heads m ≡ None
    at m lt None is = is
    at m lt (Some w) is =
        let found = listed.all m w lt is in
        absurd (some_none w (sym is ∙ ap (head_of heads) (sym found.2) ∙ none found.0 found.1))
least_listed heads nodes count (Some w) listed (k, lt, at, least) = (
  node_at nodes k,
  listed.known k lt,
  at,
  λ j u below at_j.
      let found = listed.all j u below at_j in
      least found.0 u found.1 (ap (head_of heads) found.2 ∙ at_j),
)

-- a node's head changes: the nodes before it, or all of them if it was listed
pub set_before : (heads : List (Option (Bor WriteRec))) (nodes : List ℕ) (count n : ℕ) (next : Option (Bor WriteRec)) → AreListed heads nodes count n → AreListed (set heads n next) nodes count n
set_before heads nodes count n next listed = record {
  len = length-set heads n next ∙ listed.len;
  few = listed.few;
  known = listed.known;
  all = λ m w lt is.
      let ne : m ≢ n = (λ e. omega (arith, e, lt)) in
      listed.all m w lt (sym (ap option_copied (get_or-set_other heads n m next None ne)) ∙ is);
}

pub set_listed : (heads : List (Option (Bor WriteRec))) (nodes : List ℕ) (count n : ℕ) (next : Option (Bor WriteRec)) (w : WriteRec) → AreListed heads nodes count 32 → n < 32 → head_of heads n ≡ Some w → AreListed (set heads n next) nodes count 32
set_listed heads nodes count n next w listed below had = record {
  len = length-set heads n next ∙ listed.len;
  few = listed.few;
  known = listed.known;
  all = λ m u lt is. elim (this_or_other m n) [
    | inl here ↦ subst (λ j. (k : ℕ) × (k < count) × (node_at nodes k ≡ j)) (sym here) (listed.all n w below had)
    | inr other ↦
        let ne : m ≢ n = other in
        listed.all m u lt (sym (ap option_copied (get_or-set_other heads n m next None ne)) ∙ is)
  ];
}

-- one node more
pub put_none : (heads : List (Option (Bor WriteRec))) (nodes : List ℕ) (count n : ℕ) → AreListed heads nodes count n → head_of heads n ≡ None → AreListed heads nodes count (n + 1)
put_none heads nodes count n listed none = record {
  len = listed.len;
  few = omega (arith, listed.few);
  known = listed.known;
  all = λ m w lt is. elim (below_or m n lt) [ inl less ↦ listed.all m w less is | inr here ↦ absurd (some_none w (sym is ∙ ap (head_of heads) here ∙ none)) ];
}

pub put_some : (heads : List (Option (Bor WriteRec))) (nodes : List ℕ) (count n : ℕ) → length nodes ≡ 32 → n < 32 → AreListed heads nodes count n → AreListed heads (set nodes count n) (count + 1) (n + 1)
put_some heads nodes count n len below listed = record {
  len = listed.len;
  few = omega (arith, listed.few);
  known = λ k lt. elim (below_or k count lt) [
    | inl less ↦ subst (λ m. m < 32) (sym (old k less)) (listed.known k less)
    | inr here ↦ subst (λ m. m < 32) (sym (ap (node_at (set nodes count n)) here ∙ new)) below
  ];
  all = λ m w lt is. elim (below_or m n lt) [
    | inl less ↦
        let found = listed.all m w less is in
        (found.0, omega (arith, found.1), old found.0 found.1 ∙ found.2)
    | inr here ↦ (count, omega arith, new ∙ sym here)
  ];
}
  where
    old : (k : ℕ) → k < count → node_at (set nodes count n) k ≡ node_at nodes k
    old k lt =
        let ne : k ≢ count = (λ e. omega (arith, e, lt)) in
        get_or-set_other nodes count k n 0 ne

    new : node_at (set nodes count n) count ≡ n
    new = get_or-set_same nodes count n 0 (omega (arith, len, below, listed.few))

-- a node without a head is listed no longer, and the last comes in its place
pub taken_out : (heads : List (Option (Bor WriteRec))) (nodes : List ℕ) (count last place n : ℕ) → length nodes ≡ 32 → last + 1 ≡ count → AreListed heads nodes count 32 → place < count → node_at nodes place ≡ n → head_of heads n ≡ None → AreListed heads (set nodes place (node_at nodes last)) last 32
taken_out heads nodes count last place n len is_last listed below at none = record {
  len = listed.len;
  few = omega (arith, listed.few, is_last);
  known = λ k lt. elim (this_or_other k place) [
    | inl here ↦ subst (λ m. m < 32) (sym (ap (node_at (set nodes place (node_at nodes last))) here ∙ new)) (listed.known last (omega (arith, is_last)))
    | inr other ↦ subst (λ m. m < 32) (sym (old k other)) (listed.known k (omega (arith, lt, is_last)))
  ];
  all = λ m w lt is.
      let found = listed.all m w lt is in
      let apart = (λ (e : found.0 ≡ place). some_none w (sym is ∙ ap (head_of heads) (sym found.2 ∙ ap (node_at nodes) e ∙ at) ∙ none)) in
      elim (this_or_other found.0 last) [
        | inl here ↦ (place, before_last place below (λ e. apart (here ∙ sym e)), new ∙ ap (node_at nodes) (sym here) ∙ found.2)
        | inr other ↦ (found.0, before_last found.0 found.1 other, old found.0 apart ∙ found.2)
      ];
}
  where
    old : (k : ℕ) → ¬ (k ≡ place) → node_at (set nodes place (node_at nodes last)) k ≡ node_at nodes k
    old k other =
        let ne : k ≢ place = other in
        get_or-set_other nodes place k (node_at nodes last) 0 ne

    new : node_at (set nodes place (node_at nodes last)) place ≡ node_at nodes last
    new = get_or-set_same nodes place (node_at nodes last) 0 (omega (arith, len, below, listed.few))

    before_last : (k : ℕ) → k < count → ¬ (k ≡ last) → k < last
    before_last k lt other = grind (arith, is_last, lt, other)

-- ---- the heads are found one after the other

pub more_heads : (rows : List (List (ℕ × WriteRec))) (pos : List ℕ) (heads : List (Option (Bor WriteRec))) (n : ℕ) (next : Option (Bor WriteRec)) → length heads ≡ 32 → n < 32 → ((k : ℕ) → k < n → IsFirstAbove rows k (clock_of pos k) (head_of heads k)) → IsFirstAbove rows n (clock_of pos n) (option_copied next) → (k : ℕ) → k < n + 1 → IsFirstAbove rows k (clock_of pos k) (head_of (set heads n next) k)
more_heads rows pos heads n next len lt each first k below = elim (below_or k n below) [
  | inl less ↦
      let ne : k ≢ n = (λ e. omega (arith, e, less)) in
      subst (IsFirstAbove rows k (clock_of pos k)) (sym (ap option_copied (get_or-set_other heads n k next None ne))) (each k less)
  | inr here ↦
      subst (λ j. IsFirstAbove rows j (clock_of pos j) (head_of (set heads n next) j)) (sym here)
      (subst (IsFirstAbove rows n (clock_of pos n)) (sym (ap option_copied (get_or-set_same heads n next None (omega (arith, len, lt))))) first)
]

-- at first no node has a head
pub no_heads : (k : ℕ) → head_of (replicate 32 None) k ≡ None
no_heads k = elim (less_or k 32) [
  | inl less ↦ ap option_copied (get_or-replicate 32 k None None less)
  | inr past ↦ ap option_copied (get_or_past (replicate 32 None) k None (omega (arith, past, length-replicate {A = Option (Bor WriteRec)} 32 None)))
]

-- nodes behind the next one have no head still
pub behind_more : (heads : List (Option (Bor WriteRec))) (n : ℕ) (next : Option (Bor WriteRec)) → ((k : ℕ) → n ≤ k → head_of heads k ≡ None) → (k : ℕ) → n + 1 ≤ k → head_of (set heads n next) k ≡ None
behind_more heads n next behind k le =
    let ne : k ≢ n = (λ e. omega (arith, e, le)) in
    ap option_copied (get_or-set_other heads n k next None ne) ∙ behind k (omega (arith, le))

-- ---- one turn, and the end

-- the node of the least head is its own
pub least_node : (rows : List (List (ℕ × WriteRec))) (pos : List ℕ) (sub : List Span) (heads : List (Option (Bor WriteRec))) (w : WriteRec) → ((n : ℕ) → n < 32 → IsHead rows pos sub n (head_of heads n)) → IsLeastHead (head_of heads) 32 (Some w) → (head_of heads w.stamp.node ≡ Some w) × Has rows w × (clock_of pos w.stamp.node < w.stamp.clock)
least_node rows pos sub heads w each (k, lt, at, least) =
    let is = (each k lt).known w at in
    (subst (λ n. head_of heads n ≡ Some w) (sym is.1) at, is.0, subst (λ n. clock_of pos n < w.stamp.clock) (sym is.1) is.2)

pub turn_heads : (rows : List (List (ℕ × WriteRec))) (pos : List ℕ) (sub : List Span) (heads : List (Option (Bor WriteRec))) (w : WriteRec) (next : Option (Bor WriteRec)) → length heads ≡ 32 → IsByStamp rows → ((n : ℕ) → n < 32 → IsHead rows pos sub n (head_of heads n)) → IsLeastHead (head_of heads) 32 (Some w) → has sub w.name ≡ false → IsFirstAbove rows w.stamp.node w.stamp.clock (option_copied next) → (n : ℕ) → n < 32 → IsHead rows pos sub n (head_of (set heads w.stamp.node next) n)
turn_heads rows pos sub heads w next len by_stamp each least out first n lt = elim (this_or_other n w.stamp.node) [
  | inl here ↦
      let is = least_node rows pos sub heads w each least in
      subst (IsHead rows pos sub n) (sym (ap (λ k. head_of (set heads w.stamp.node next) k) here ∙ ap option_copied (get_or-set_same heads w.stamp.node next None (omega (arith, len, here, lt)))))
      (subst (λ k. IsHead rows pos sub k (option_copied next)) (sym here) (next_head rows pos sub w.stamp.node w (option_copied next) is.1 refl is.2 out
      (λ x has_x node_x past in_sub. subst (λ h. IsReached h x.stamp.clock) is.0 ((each w.stamp.node (omega (arith, here, lt))).behind x has_x node_x past in_sub)) first))
  | inr other ↦
      let ne : n ≢ w.stamp.node = other in
      subst (IsHead rows pos sub n) (sym (ap option_copied (get_or-set_other heads w.stamp.node n next None ne))) (each n lt)
]

pub turn_left : (rows : List (List (ℕ × WriteRec))) (heads : List (Option (Bor WriteRec))) (w : WriteRec) (next : Option (Bor WriteRec)) → length heads ≡ 32 → w.stamp.node < 32 → head_of heads w.stamp.node ≡ Some w → IsFirstAbove rows w.stamp.node w.stamp.clock (option_copied next) → left rows (set heads w.stamp.node next) + 1 ≤ left rows heads
turn_left rows heads w next len lt at first =
    total_less (λ n. left_at (row_of rows n) (head_of heads n)) (λ n. left_at (row_of rows n) (head_of (set heads w.stamp.node next) n)) 32 w.stamp.node lt
    (subst (λ h. left_at (row_of rows w.stamp.node) h + 1 ≤ left_at (row_of rows w.stamp.node) (head_of heads w.stamp.node)) (sym (ap option_copied (get_or-set_same heads w.stamp.node next None (omega (arith, len, lt)))))
    (subst (λ h. left_at (row_of rows w.stamp.node) (option_copied next) + 1 ≤ left_at (row_of rows w.stamp.node) h) (sym at) (next_left rows w.stamp.node w.stamp.clock (option_copied next) first)))
    (λ k below other. let ne : k ≢ w.stamp.node = other in subst (λ h. left_at (row_of rows k) h ≤ left_at (row_of rows k) (head_of heads k)) (sym (ap option_copied (get_or-set_other heads w.stamp.node k next None ne))) (omega arith))

pub start_left : (rows : List (List (ℕ × WriteRec))) (pos : List ℕ) (heads : List (Option (Bor WriteRec))) → ((n : ℕ) → n < 32 → IsFirstAbove rows n (clock_of pos n) (head_of heads n)) → left rows heads ≤ uncovered rows pos
start_left rows pos heads each = total_most (λ n. count_above (row_of rows n) (clock_of pos n)) (λ n. left_at (row_of rows n) (head_of heads n)) 32 (λ n lt. first_left rows n (clock_of pos n) (head_of heads n) (each n lt))

-- what follows the least head, where its node and clock were read
pub follows : (rows : List (List (ℕ × WriteRec))) (node clock : ℕ) (w : WriteRec) (next : Option WriteRec) → node ≡ w.stamp.node → clock ≡ w.stamp.clock → IsFirstAbove rows node clock next → IsFirstAbove rows w.stamp.node w.stamp.clock next
follows rows node clock w next node_is clock_is first = subst (λ n. IsFirstAbove rows n w.stamp.clock next) node_is (subst (λ c. IsFirstAbove rows node c next) clock_is first)

-- a write that waits is behind the head of its node
waits_behind : (rows : List (List (ℕ × WriteRec))) (pos : List ℕ) (sub : List Span) (heads : List (Option (Bor WriteRec))) (x : WriteRec) → IsByStamp rows → ((n : ℕ) → n < 32 → IsHead rows pos sub n (head_of heads n)) → IsWaiting rows pos sub x → IsReached (head_of heads x.stamp.node) x.stamp.clock
waits_behind rows pos sub heads x by_stamp each (known, in_sub, apart) = elim (less_or (clock_of pos x.stamp.node) x.stamp.clock) [
  | inl past ↦ (each x.stamp.node (by_stamp x.stamp x known).1.known_node).behind x known refl past in_sub
  | inr covered ↦ absurd (apart ((by_stamp x.stamp x known).1.from_one, covered))
]

pub next_is : (rows : List (List (ℕ × WriteRec))) (pos : List ℕ) (sub : List Span) (heads : List (Option (Bor WriteRec))) (w : WriteRec) → IsByStamp rows → ((n : ℕ) → n < 32 → IsHead rows pos sub n (head_of heads n)) → IsLeastHead (head_of heads) 32 (Some w) → has sub w.name ≡ true → IsNextOf rows pos sub (Some w)
next_is rows pos sub heads w by_stamp each least in_sub =
    let is = least_node rows pos sub heads w each least in
    ((is.1, in_sub, λ covers. omega (arith, covers.1, is.2)), λ x waits. not_before x waits (head_of heads x.stamp.node) refl (waits_behind rows pos sub heads x by_stamp each waits))
  where
    earlier : (xc xn uc un wc wn : ℕ) → uc ≤ xc → un ≡ xn → (xc < wc) ⊎ ((xc ≡ wc) × (xn < wn)) → (uc < wc) ⊎ ((uc ≡ wc) × (un < wn))
    earlier xc xn uc un wc wn le same before = grind (arith, nat_tests)

    not_before : (x : WriteRec) → IsWaiting rows pos sub x → (head : Option WriteRec) → head_of heads x.stamp.node ≡ head → IsReached head x.stamp.clock → ¬ Before x.stamp w.stamp
    not_before x waits None at reached = absurd reached
    not_before x waits (Some u) at reached = λ before.
        let lt : x.stamp.node < 32 = (by_stamp x.stamp x waits.0).1.known_node in
        least.3 x.stamp.node u lt at (earlier x.stamp.clock x.stamp.node u.stamp.clock u.stamp.node w.stamp.clock w.stamp.node reached ((each x.stamp.node lt).known u at).1 before)

pub none_is : (rows : List (List (ℕ × WriteRec))) (pos : List ℕ) (sub : List Span) (heads : List (Option (Bor WriteRec))) → IsByStamp rows → ((n : ℕ) → n < 32 → IsHead rows pos sub n (head_of heads n)) → IsLeastHead (head_of heads) 32 None → IsNextOf rows pos sub None
none_is rows pos sub heads by_stamp each none x waits =
    subst (λ h. IsReached h x.stamp.clock) (none x.stamp.node (by_stamp x.stamp x waits.0).1.known_node) (waits_behind rows pos sub heads x by_stamp each waits)
